-- Count, lookup and delete: the file's answer is the book's, and the relation is kept.
--     Same g o p      an outcome of the file and one of the book: equal answers, and states that are in `Reflects g`
--     Alike o p       so in some layout
-- Assumes nothing.
use mathlib.Core.Path.{◌≡◌, refl, sym, ap, ◌∙◌, subst}
use Prim.Native.Nat.{ℕ, suc, ◌-◌, ◌≤◌}
use native.Mathlib.Omega.{arith}
use mathlib.Core.Bool.{true, false}
use mathlib.Core.List.{List, [], ◌∷◌}
use mathlib.Core.Option.{Option, none, some}
use lib.ListN.{length}
use borrow.Author.Tests.{ne_eqb, le-leb}
use Rattle.spec_file.specs.Bytes.{Bytes}
use Rattle.spec_file.specs.Limits.{points_field, free_field}
use Rattle.spec_file.specs.Image.{field, set_field, Layout, slot, offset_of}
use Rattle.spec_file.specs.Search.{met, search, is_met}
use Rattle.spec_file.specs.Messages.{shown, bytes_of, retire}
use Rattle.spec_file.specs.Delete.{closed, deleted, deleted_at}
use Rattle.spec_file.specs.Questions.{Question, ask, first_no, name_allowed, message_sound, some_point, open_number, lookup_number, delete_number}
use Rattle.spec_file.specs.Calls.{Outcome, plain, settled, delete, lookup, count, count_of}
use Rattle.spec_book.specs.Book.{Terms, Book, find, without, step_of, guarded, book_delete, delete_found, book_lookup, lookup_found, book_count}
use Rattle.law_file.proofs.Tests.{by_bool, not-both}
use Rattle.law_file.proofs.Opened.{first_no-none, first_no-yes, first_no-no, facts-opened}
use Rattle.law_file.proofs.Outcomes.{settled-yes, settled-no, lookup-7, lookup-14, lookup-shows, lookup-refused, delete-7, delete-14, delete-0}
use Rattle.law_file.proofs.Table.{entry_of}
use Rattle.law_file.proofs.Probe.{by-search, search-frame}
use Rattle.law_file.proofs.Insert.{entry-met, entry-empty, entry-exhausted}
use Rattle.law_agreement.proofs.File.{Allowed, value_of, point_of-some, point_of-none, File, file-some, Change, file-change, change-trans}
use Rattle.law_agreement.proofs.Retire.{retire-change, retire-slot, retire-field}
use Rattle.law_agreement.proofs.Remove.{remove-change, remove-point, remove-points, remove-free}
use Rattle.law_agreement.proofs.Entries.{removed, length_without}
use Rattle.law_agreement.proofs.Reflect.{Reflects, reflect-without}

pub record Same (g : Layout) (o : Outcome Bytes) (p : Outcome Book) : Type 0 where
  pub answer : o.answer ≡ p.answer
  pub after : Reflects g o.after p.after

abbrev pub Alike : Outcome Bytes → Outcome Book → Type 0
Alike o p = (g : Layout) × Same g o p

-- ---- outcomes by their numbers

pub guarded-yes : (b : Book) (asks : List Question) (s : Outcome Book) → first_no asks ≡ 0 → guarded b asks s ≡ s
unfolding guarded
guarded-yes b asks s h = rw h refl

pub guarded-no : (b : Book) (asks : List Question) (s : Outcome Book) → (first_no asks ≡ 0 → ⊥)
    → guarded b asks s ≡ step_of b asks b
unfolding guarded
guarded-no b asks s h = rw (ne_eqb (first_no asks) 0 h) refl

module _ (g : Layout) (img : Bytes) (b : Book) (r : Reflects g img b) (n : ℕ) (x : Bytes) (asks : List Question)
    (y : Book) where
  pub same-refused : n ≡ first_no asks → (first_no asks ≡ 0 → ⊥)
      → Same g (record { after = settled n img x; answer = plain n }) (step_of b asks y)
  unfolding step_of
  same-refused e z =
      record {
        answer = ap plain e;
        after = rw (settled-no n img x (λ q. z (sym e ∙ q)), ne_eqb (first_no asks) 0 z) r;
      }

  pub same-accepted : n ≡ 0 → first_no asks ≡ 0 → Reflects g x y
      → Same g (record { after = settled n img x; answer = plain n }) (step_of b asks y)
  unfolding step_of
  same-accepted e e' s =
      record { answer = ap plain (e ∙ sym e'); after = rw (settled-yes n img x e, e') s }

-- ---- a point that is met, or absent

module _ {g : Layout} {img : Bytes} {b : Book} (r : Reflects g img b) where
  pub book-key : b.terms.K ≡ g.K
  book-key = ap (λ (t : Terms). t.K) r.terms

  pub open₀ : open_number img ≡ 0
  open₀ = facts-opened img r.file.opened

module _ (g : Layout) (img : Bytes) (b : Book) (r : Reflects g img b) (key : Bytes) where
  pub found-met : Allowed g key → (i : ℕ) → search g img key ≡ met i
      → find key b.entries ≡ some (value_of g img key (offset_of g (slot g img i)))
  found-met a i m =
      sym (r.points key a) ∙ point_of-some g img key (slot g img i) (entry-met g img key i m)

  pub found_none : Allowed g key → is_met (search g img key) ≡ false → find key b.entries ≡ none
  unfolding is_met
  found_none a h =
      sym (r.points key a)
      ∙ point_of-none g img key
      (by-search g img key (file-some r.file)
      (λ i m. absurd (not-both (is_met (search g img key)) (ap is_met m) h))
      (λ i m. entry-empty g img key i m)
      (λ m. entry-exhausted g img key m))

  pub met-sound : Allowed g key → (i : ℕ) → search g img key ≡ met i
      → message_sound g img (offset_of g (slot g img i)) ≡ true
  met-sound a i m = (r.file.messages key (slot g img i) a (entry-met g img key i m)).sound

  -- a search either meets the key or does not
  pub by-met {ℓ} : {A : Type ℓ} → ((i : ℕ) → search g img key ≡ met i → A) → (is_met (search g img key) ≡ false → A) → A
  unfolding is_met
  by-met y n =
      by-search g img key (file-some r.file) y (λ i m. n (ap is_met m)) (λ m. n (ap is_met m))

-- ---- count

pub same_count : (g : Layout) (img : Bytes) (b : Book) → Reflects g img b → Same g (count img) (book_count b)
unfolding count count_of book_count
same_count g img b r =
    record {
      answer = rw (open₀ r, r.number) refl;
      after = r;
    }

-- ---- the book's questions 7 and 14

abbrev asks-7 : Book → Bytes → List Question
asks-7 b key = ask 7 (name_allowed b.terms.K key) ∷ []

module _ {g : Layout} {img : Bytes} {b : Book} (r : Reflects g img b) (key : Bytes) where
  book-7 : name_allowed g.K key ≡ false → first_no (asks-7 b key) ≡ 7
  book-7 h = rw (book-key r) (first_no-no 7 _ [] h)

  book-named : Allowed g key → first_no (asks-7 b key) ≡ 0
  book-named a = rw (book-key r) (first_no-yes 7 _ [] a ∙ first_no-none)

  book-7-no : name_allowed g.K key ≡ false → first_no (asks-7 b key) ≡ 0 → ⊥
  book-7-no h z = omega (arith, z, book-7 h)

book-14 : first_no (ask 14 false ∷ []) ≡ 14
book-14 = first_no-no 14 false [] refl

book-14-no : first_no (ask 14 false ∷ []) ≡ 0 → ⊥
book-14-no z = omega (arith, z, book-14)

-- ---- lookup

module _ (g : Layout) (img : Bytes) (b : Book) (r : Reflects g img b) (key : Bytes) where
  pub lookup-is : (a : Allowed g key) (i : ℕ) → search g img key ≡ met i
      → let t : Option Bytes = shown g img (offset_of g (slot g img i)) in
      (lookup img key).answer ≡ record { number = 0; amount = length (bytes_of t); text = t; epoch = 0 }
  lookup-is a i m =
      rw r.file.layout at
      (lookup-shows img key (open₀ r) (rw r.file.layout a) i (rw r.file.layout m)
      (rw r.file.layout (met-sound g img b r key a i m)))

  -- both refuse with the same number
  lookup-both : (asks : List Question) (y : Book) → lookup_number img key ≡ first_no asks → (first_no asks ≡ 0 → ⊥)
      → Same g (lookup img key) (step_of b asks y)
  unfolding step_of lookup
  lookup-both asks y e z =
      record {
        answer = lookup-refused img key (λ q. z (sym e ∙ q)) ∙ ap plain e;
        after = rw (ne_eqb (first_no asks) 0 z) r;
      }

  pub same-lookup : Same g (lookup img key) (book_lookup b key)
  unfolding book_lookup
  same-lookup =
      let found = find key b.entries in
      by_bool (name_allowed g.K key)
      (λ a. rw (guarded-yes b _ (lookup_found b found) (book-named r key a)) (by-met g img b r key
      (λ i m.
      rw (found-met g img b r key a i m)
      (record { answer = unfold lookup_found in lookup-is a i m; after = unfold lookup lookup_found in r }))
      (λ h.
      let absent = lookup-14 img key (open₀ r) (rw r.file.layout a) (rw r.file.layout h) in
      rw (found_none g img b r key a h)
      (unfold lookup_found in lookup-both (ask 14 false ∷ []) b (absent ∙ sym book-14) book-14-no))))
      (λ h.
      let refused = lookup-7 img key (open₀ r) (rw r.file.layout h) in
      rw (guarded-no b _ (lookup_found b found) (book-7-no r key h))
      (lookup-both _ b (refused ∙ sym (book-7 r key h)) (book-7-no r key h)))

-- ---- delete

module _ (g : Layout) (img : Bytes) (b : Book) (r : Reflects g img b) (key : Bytes) where
  -- a point that is met is one of C
  module _ (a : Allowed g key) (i : ℕ) (m : search g img key ≡ met i) where
    abbrev o : ℕ
    o = offset_of g (slot g img i)

    abbrev off : Bytes
    off = retire img o

    e₁ : entry_of g img key ≡ some (slot g img i)
    e₁ = entry-met g img key i m

    pub one_less : suc (length (without key b.entries)) ≡ field img points_field
    one_less = length_without key b.entries _ (found-met g img b r key a i m) ∙ r.number

    delete-met : delete_number img key ≡ 0
    delete-met =
        delete-0 img key (open₀ r) (rw r.file.layout a) i (rw r.file.layout m)
        (rw r.file.layout (met-sound g img b r key a i m))
        (unfold some_point in le-leb 1 (field img points_field) (omega (arith, one_less)))

    off-change : Change g img off key
    off-change = retire-change g img r.file key (slot g img i) a e₁

    off-file : File g off
    off-file = file-change g img off key r.file off-change

    off-points : field off points_field ≡ field img points_field
    off-points = retire-field g img r.file key (slot g img i) a e₁ points_field (omega arith)

    off-met : search g off key ≡ met i
    off-met = search-frame g img off key (file-some r.file) (retire-slot g img r.file key (slot g img i) a e₁) ∙ m

    off-some : 1 ≤ field off points_field
    off-some = rw off-points (omega (arith, one_less))

    -- the message made inactive, then the point gone
    pub gone : Reflects g (deleted_at g img i) (removed key b)
    unfolding deleted_at
    gone =
        subst (λ (n : ℕ). Reflects g (closed g (set_field off points_field (n - 1)) i) (removed key b)) off-points
        (reflect-without g img (closed g (set_field off points_field (field off points_field - 1)) i) key b r a
        (change-trans g img off _ key off-change (remove-change g off off-file key a i off-met off-some))
        (remove-point g off off-file key a i off-met off-some)
        (remove-free g off off-file key a i off-met off-some
        ∙ retire-field g img r.file key (slot g img i) a e₁ free_field (omega arith))
        (omega (arith, one_less, off-points, remove-points g off off-file key a i off-met off-some)))

  pub same-delete : Same g (delete img key) (book_delete b key)
  unfolding delete book_delete
  same-delete =
      let n = delete_number img key in
      let found = find key b.entries in
      by_bool (name_allowed g.K key)
      (λ a. rw (guarded-yes b _ (delete_found b key found) (book-named r key a)) (by-met g img b r key
      (λ i m.
      rw (found-met g img b r key a i m)
      (unfold delete_found deleted in
      same-accepted g img b r n _ [] _ (delete-met a i m) first_no-none (rw (r.file.layout, m) (gone a i m))))
      (λ h.
      let absent = delete-14 img key (open₀ r) (rw r.file.layout a) (rw r.file.layout h) in
      rw (found_none g img b r key a h)
      (unfold delete_found in same-refused g img b r n _ (ask 14 false ∷ []) b (absent ∙ sym book-14) book-14-no))))
      (λ h.
      let refused = delete-7 img key (open₀ r) (rw r.file.layout h) in
      rw (guarded-no b _ (delete_found b key found) (book-7-no r key h))
      (same-refused g img b r n _ _ b (refused ∙ sym (book-7 r key h)) (book-7-no r key h)))
