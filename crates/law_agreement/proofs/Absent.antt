-- Add of a point that is absent: the file's answer is the book's, and the relation is kept.
-- Assumes nothing.
use mathlib.Core.Path.{◌≡◌, refl, sym, ap, ap₂, ◌∙◌}
use Prim.Native.Nat.{ℕ, ◌<◌}
use native.Mathlib.Omega.{arith}
use native.Mathlib.Nat.{add-zero}
use mathlib.Core.Bool.{true, false, ◌&&◌}
use mathlib.Core.List.{List, [], ◌∷◌}
use mathlib.Core.Option.{Option, none, some}
use lib.ListN.{length}
use lib.Dec.{eqb, ltb}
use borrow.Author.Tests.{ltb-true, le-ltb}
use Rattle.spec_file.specs.Bytes.{Bytes}
use Rattle.spec_file.specs.Limits.{points_field, free_field}
use Rattle.spec_file.specs.Image.{field, Layout, layout_of, slot}
use Rattle.spec_file.specs.Search.{empty, exhausted, search, is_met}
use Rattle.spec_file.specs.Messages.{shown, held, is_active, enter, inserted, fresh_text, added_at, noted, added}
use Rattle.spec_file.specs.Questions.{Question, ask, first_no, name_allowed, mode_known, add_number, place_number}
use Rattle.spec_file.specs.Calls.{add}
use Rattle.spec_book.specs.Book.{Terms, Book, find, step_of, room_asks, entered, bare, add_absent, add_found}
use Rattle.law_file.proofs.Tests.{by_bool, by-eq, not-both}
use Rattle.law_file.proofs.Opened.{first_no-none, first_no-yes, first_no-no}
use Rattle.law_file.proofs.Outcomes.{room-none, add-14, add-10-exhausted, add-10-full, add-fresh}
use Rattle.law_file.proofs.Texts.{fresh-none, fresh-some}
use Rattle.law_file.proofs.Total.{total-same, total-const}
use Rattle.law_file.proofs.Table.{weight, weigh, Taken}
use Rattle.law_file.proofs.Probe.{by-search, search-exhausted}
use Rattle.law_file.proofs.Insert.{weigh-taken}
use Rattle.law_agreement.proofs.File.{Allowed, value_of, file-some}
use Rattle.law_agreement.proofs.Slots.{unshared-none, enter-change, enter-point, enter-points, enter-free}
use Rattle.law_agreement.proofs.Noted.{noted-reflects}
use Rattle.law_agreement.proofs.Entries.{length-with_entry-new}
use Rattle.law_agreement.proofs.Reflect.{Reflects, reflect-entered}
use Rattle.law_agreement.proofs.Simple.{Same, same-refused, same-accepted, open₀, found_none}
use Rattle.law_agreement.proofs.Place.{place-both, place-length, place-space, insert}

-- ---- a point that is absent

-- a table with no vacant slot has N points
pub weight-full : (g : Layout) (img : Bytes) → ((k : ℕ) → k < g.N → Taken g img k) → weight g img (λ s. 1) ≡ g.N
unfolding weight
weight-full g img h =
    total-same (λ i. weigh g (λ s. 1) (slot g img i)) (λ i. 1) g.N
    (λ i l. weigh-taken g (λ s. 1) (slot g img i) (h i l))
    ∙ omega (arith, total-const 1 g.N)

module _ (g : Layout) (img : Bytes) (b : Book) (r : Reflects g img b) (key : Bytes) (a : Allowed g key) (bytes : Bytes)
    (mode : ℕ) (k : mode_known mode ≡ true) (h : is_met (search g img key) ≡ false) where
  a₁ : name_allowed (layout_of img).K key ≡ true
  a₁ = rw r.file.layout a

  not_found : find key b.entries ≡ none
  not_found = found_none g img b r key a h

  -- question 10 of the book is "C below N"
  book-10 : ltb (length b.entries) b.terms.N ≡ ltb (field img points_field) g.N
  book-10 = ap₂ ltb r.number (ap (λ (t : Terms). t.N) r.terms)

  abbrev ask-10 : Question
  ask-10 = ask 10 (ltb (length b.entries) b.terms.N)

  -- "Mode 4 .. gives 14 for an absent name"
  same-14 : eqb mode 4 ≡ true → Same g (add img key bytes mode) (add_absent b key bytes mode)
  unfolding add add_absent
  same-14 y =
      let book = first_no-no 14 false [] refl in
      rw y
      (same-refused g img b r (add_number img key bytes mode) _ (ask 14 false ∷ []) b
      (add-14 img key (open₀ r) bytes mode a₁ k (rw r.file.layout h) y ∙ sym book) (λ z. omega (arith, z, book)))

  -- the book refuses with 10 too
  same_full : eqb mode 4 ≡ false → add_number img key bytes mode ≡ 10 → ltb (field img points_field) g.N ≡ false
      → Same g (add img key bytes mode) (add_absent b key bytes mode)
  unfolding add add_absent
  same_full other e e' =
      let n = add_number img key bytes mode in
      let refuse : (more : List Question) (y : Book) → Same g (add img key bytes mode) (step_of b (ask-10 ∷ more) y) =
      λ more y. same-refused g img b r n _ _ y (e ∙ sym (ten more)) (λ z. omega (arith, z, ten more)) in
      rw other
      (by_bool (eqb mode 3 && eqb (length bytes) 0) (λ y. rw y (refuse _ _)) (λ n. rw n (refuse _ _)))
    where
      ten : (more : List Question) → first_no (ask-10 ∷ more) ≡ 10
      ten more = first_no-no 10 _ more (book-10 ∙ e')

  -- ---- with an empty slot
  module _ (other : eqb mode 4 ≡ false) (i : ℕ) (m : search g img key ≡ empty i)
      (lt : ltb (field img points_field) g.N ≡ true) where
    left : field img points_field < g.N
    left = ltb-true _ _ lt

    -- 12 and 13 decide, of the text p to be placed
    empty-number : (p : Option Bytes) → fresh_text bytes mode ≡ p → add_number img key bytes mode ≡ place_number g img p
    empty-number p q =
        rw r.file.layout at
        (add-fresh img key (open₀ r) bytes mode a₁ k other i (rw r.file.layout m) (rw r.file.layout lt))
        ∙ ap (place_number g img) q

    book-ten : (more : List Question) → first_no (ask-10 ∷ more) ≡ first_no more
    book-ten more = first_no-yes 10 _ more (book-10 ∙ lt)

    after-empty : (p : Option Bytes) → fresh_text bytes mode ≡ p
        → added (layout_of img) img key bytes mode ≡ noted bytes mode (inserted g img i key p)
    unfolding added added_at
    after-empty p q = rw (r.file.layout, m) (ap (λ (t : Option Bytes). noted bytes mode (inserted g img i key t)) q)

    entered-bare : Reflects g (enter g img i key 0) (entered b (bare key) 0)
    unfolding bare
    entered-bare =
        reflect-entered g img (enter g img i key 0) key b r a
        (enter-change g img r.file key a 0 (unshared-none g img key) i m left) (bare key) 0 refl
        (enter-point g img r.file key a 0 (unshared-none g img key) i m left ∙ none_is)
        (enter-free g img r.file key a 0 (unshared-none g img key) i m left ∙ sym (add-zero (field img free_field)))
        (length-with_entry-new _ b.entries not_found
        ∙ omega (arith, r.number, enter-points g img r.file key a 0 (unshared-none g img key) i m left))
      where
        none_is : some (value_of g img key 0) ≡ some (bare key)
        none_is = unfold shown held is_active bare in refl

    -- without a message: mode 3 with no data
    same-bare : (eqb mode 3 && eqb (length bytes) 0) ≡ true
        → Same g (add img key bytes mode) (add_absent b key bytes mode)
    unfolding add add_absent
    same-bare y =
        let fr = fresh-none bytes mode y in
        rw (other, y)
        (same-accepted g img b r (add_number img key bytes mode) _ _ _
        (empty-number none fr ∙ room-none g img)
        (book-ten [] ∙ first_no-none)
        (rw (after-empty none fr) (noted-reflects g _ _ bytes mode (unfold inserted in entered-bare))))

    -- with one, in new space
    same-placed : (eqb mode 3 && eqb (length bytes) 0) ≡ false
        → Same g (add img key bytes mode) (add_absent b key bytes mode)
    unfolding add add_absent
    same-placed e =
        let fr = fresh-some bytes mode e in
        let n = add_number img key bytes mode in
        let num : n ≡ first_no (room_asks b (length bytes)) = empty-number (some bytes) fr ∙ place-both g img b r bytes in
        rw (other, e)
        (by-eq (first_no (room_asks b (length bytes))) 0
        (λ q. same-accepted g img b r n _ _ _ (num ∙ q) (book-ten _ ∙ q)
        (rw (after-empty (some bytes) fr)
        (noted-reflects g _ _ bytes mode
        (insert g img b r key a bytes (place-length g img b r bytes q) (place-space g img b r bytes q) i m left))))
        (λ q. same-refused g img b r n _ _ _ (num ∙ sym (book-ten _)) (λ w. q (sym (book-ten _) ∙ w))))

    same-empty : Same g (add img key bytes mode) (add_absent b key bytes mode)
    same-empty = by_bool (eqb mode 3 && eqb (length bytes) 0) same-bare same-placed

  pub same-absent : Same g (add img key bytes mode) (add_found b key bytes mode (find key b.entries))
  unfolding add_found
  same-absent =
      rw not_found
      (by_bool (eqb mode 4) same-14
      (λ other. by-search g img key (file-some r.file)
      (λ i m. absurd (not-both (is_met (search g img key)) (unfold is_met in ap is_met m) h))
      (λ i m. by_bool (ltb (field img points_field) g.N)
      (λ y. same-empty other i m y)
      (λ n. same_full other
      (add-10-full img key (open₀ r) bytes mode a₁ k other i (rw r.file.layout m) (rw r.file.layout n)) n))
      (λ m. same_full other
      (add-10-exhausted img key (open₀ r) bytes mode a₁ k other (rw r.file.layout m))
      (le-ltb (field img points_field) g.N (omega (arith, r.file.counted, full m))))))
    where
      full : search g img key ≡ exhausted → weight g img (λ s. 1) ≡ g.N
      full m = weight-full g img (λ j l. (search-exhausted g img key (file-some r.file) m j l).0)
