-- The call's own questions on the new image, with both images' points and space: their number is that of the list's
-- book.
-- Assumes nothing.
use mathlib.Core.Path.{◌≡◌, refl, sym, ap, ap₂, ◌∙◌, subst}
use Prim.Native.Nat.{ℕ, suc, ◌+◌, ◌-◌, ◌≤◌, ◌<◌}
use native.Mathlib.Omega.{arith}
use mathlib.Core.Bool.{Bool, true, false, cond, not, ◌&&◌}
use mathlib.Core.List.{List, [], ◌∷◌, ◌++◌}
use mathlib.Core.Option.{Option, none, some}
use lib.ListN.{length}
use lib.Dec.{leb, ltb, eqb}
use borrow.Author.Tests.{ne_eqb, eq-eqb, le-leb, lt-leb, le-ltb}
use Rattle.spec_file.specs.Bytes.{Bytes}
use Rattle.spec_file.specs.Limits.{points_field, free_field}
use Rattle.spec_file.specs.Image.{field, Layout, layout_of, slot, offset_of}
use Rattle.spec_file.specs.Search.{Probe, met, empty, exhausted, search, is_met, is_empty}
use Rattle.spec_file.specs.Messages.{head_size, shown, held, bytes_of, fresh_text, renewed_text, placed_text}
use Rattle.spec_file.specs.Questions.{Question, ask, first_no, name_allowed, mode_known, met_in_mode4, new_in_mode1, slot_to_take, message_sound, met_message_sound, length_allowed, space_left}
use Rattle.spec_file.specs.Calls.{Answer, Outcome, plain}
use Rattle.spec_book.specs.Book.{Entry, Terms, Book, find, step_of, room_asks, add_absent, replace, append, withdrawn, add_present, add_found}
use Rattle.law_file.proofs.Tests.{by_bool, by-eq, by_le, not-both}
use Rattle.law_file.proofs.Opened.{first_no-none, first_no-yes, first_no-no}
use Rattle.law_file.proofs.Texts.{by_mode, fresh-none, fresh-some, replaced-none, replaced-some, appended-none, appended-some, withdrawn-none}
use Rattle.law_file.proofs.Probe.{by-search, search-exhausted}
use Rattle.law_file.proofs.Table.{weight}
use Rattle.law_agreement.proofs.File.{Allowed, value_of, File, file-some, file-room}
use Rattle.law_agreement.proofs.Reflect.{Reflects, terms_for}
use Rattle.law_agreement.proofs.Absent.{weight-full}
use Rattle.law_agreement.proofs.Simple.{found-met, found_none, met-sound, by-met}
use Rattle.spec_growth.specs.Growth.{beside_asks}
use Rattle.law_moves.proofs.Beside.{room_number, room-none, beside-14, beside-9, beside-renewed, beside-10, beside-fresh}
use Rattle.law_growth.proofs.Joins.{joined, Joins, same-find}

-- ---- against the list's book

leb-shift : (D U x L k : ℕ) → x ≡ D + U → D ≤ L → leb (x + k) L ≡ leb (U + k) (L - D)
leb-shift D U x L k e h =
    by_le (x + k) L
    (λ l. le-leb (x + k) L l ∙ sym (le-leb (U + k) (L - D) (omega arith)))
    (λ l. lt-leb (x + k) L l ∙ sym (lt-leb (U + k) (L - D) (omega arith)))

step-number : (b : Book) (asks : List Question) (y : Book) → (step_of b asks y).answer.number ≡ first_no asks
unfolding step_of plain
step-number b asks y = refl

module _ (h : Layout) (img : Bytes) (c d b : Book) (r : Reflects h img d) (j : Joins c d b) (key : Bytes)
    (a : Allowed h key) (gone : find key c.entries ≡ none) (P Q : ℕ) (points : P ≡ length b.entries)
    (place : Q ≡ h.D + b.used) (bytes : Bytes) where
  terms : b.terms ≡ terms_for h (length img)
  terms = j.terms ∙ r.terms

  room-both : (t : Bytes) → first_no
      (ask 12 (length_allowed h (some t)) ∷ ask 13 (space_left h Q (length img) (some t)) ∷ [])
      ≡ first_no (room_asks b (length t))
  unfolding length_allowed space_left room_asks
  room-both t =
      ap₂ (λ (x y : Bool). first_no (ask 12 x ∷ ask 13 y ∷ []))
      (ap (λ (m : Terms). leb (length t) m.most) (sym terms))
      (ap (λ (n : ℕ). leb n (length img)) (regroup Q)
      ∙ leb-shift h.D b.used Q (length img) (head_size h + length t) place (file-room r.file).area
      ∙ ap (λ (n : ℕ). leb n (length img - h.D)) (sym (regroup b.used))
      ∙ ap (λ (m : Terms). leb (b.used + m.head + length t) m.R) (sym terms))
    where
      regroup : (n : ℕ) → n + head_size h + length t ≡ n + (head_size h + length t)
      regroup n = omega arith

  -- present
  module _ (i : ℕ) (m : search h img key ≡ met i) where
    abbrev o : ℕ
    o = offset_of h (slot h img i)

    abbrev own : ℕ → ℕ
    own mode = first_no (beside_asks P Q h img (met i) bytes mode)

    sound : message_sound h img o ≡ true
    sound = met-sound h img d r key a i m

    own-placed : (mode : ℕ) (t : Bytes) (y : Book) → eqb mode 1 ≡ false → renewed_text h img o bytes mode ≡ some t
        → own mode ≡ (step_of b (room_asks b (length t)) y).answer.number
    own-placed mode t y k q =
        beside-renewed P Q h img bytes mode i k sound ∙ ap (room_number Q h (length img)) q ∙ room-both t
        ∙ sym (step-number b _ y)

    own-none : (mode : ℕ) (y : Book) → eqb mode 1 ≡ false → renewed_text h img o bytes mode ≡ none
        → own mode ≡ (step_of b [] y).answer.number
    own-none mode y k q =
        beside-renewed P Q h img bytes mode i k sound ∙ ap (room_number Q h (length img)) q ∙ room-none Q h (length img)
        ∙ sym (step-number b [] y ∙ first_no-none)

    own-1 : own 1 ≡ (add_present b (value_of h img key o) bytes 1).answer.number
    unfolding add_present
    own-1 = beside-9 P Q h img bytes 1 i refl ∙ sym (step-number b _ b ∙ first_no-no 9 false [] refl)

    own-2 : own 2 ≡ (add_present b (value_of h img key o) bytes 2).answer.number
    unfolding add_present replace
    own-2 =
        by_bool (not (eqb o 0) && leb (length bytes) (held h img o))
        (λ y. rw y (own-none 2 _ refl (replaced-none h img i o key bytes y)))
        (λ n. rw n (own-placed 2 bytes _ refl (replaced-some h img i o key bytes n)))

    own-3 : own 3 ≡ (add_present b (value_of h img key o) bytes 3).answer.number
    unfolding add_present append
    own-3 =
        by-eq (length bytes) 0
        (λ z. rw (eq-eqb (length bytes) 0 z) (own-none 3 _ refl (appended-none h img i o key bytes z)))
        (λ z. rw (ne_eqb (length bytes) 0 z) (own-placed 3 _ _ refl (appended-some h img i o key bytes z)))

    own-4 : own 4 ≡ (add_present b (value_of h img key o) bytes 4).answer.number
    unfolding add_present
    own-4 = own-none 4 _ refl (withdrawn-none h img i o key bytes)

    own-present : (mode : ℕ) → mode_known mode ≡ true
        → own mode ≡ (add_present b (value_of h img key o) bytes mode).answer.number
    own-present mode k = by_mode mode k (λ q. rw q own-1) (λ q. rw q own-2) (λ q. rw q own-3) (λ q. rw q own-4)

  -- absent
  module _ (n : is_met (search h img key) ≡ false) (mode : ℕ) where
    abbrev own' : ℕ
    own' = first_no (beside_asks P Q h img (search h img key) bytes mode)

    abbrev ten : Question
    ten = ask 10 (ltb (length b.entries) b.terms.N)

    book-ten : ltb (length b.entries) b.terms.N ≡ ltb P h.N
    book-ten = ap₂ ltb (sym points) (ap (λ (t : Terms). t.N) terms)

    own-full : eqb mode 4 ≡ false → ltb P h.N ≡ false → slot_to_take P h.N (search h img key) ≡ false
        → own' ≡ (add_absent b key bytes mode).answer.number
    unfolding add_absent
    own-full k l s =
        beside-10 P Q h img bytes mode (search h img key) n k s
        ∙ rw k (by_bool (eqb mode 3 && eqb (length bytes) 0)
        (λ y. rw y (sym (step-number b _ _ ∙ first_no-no 10 _ _ (book-ten ∙ l))))
        (λ y. rw y (sym (step-number b _ _ ∙ first_no-no 10 _ _ (book-ten ∙ l)))))

    own-empty : (i : ℕ) → search h img key ≡ empty i → eqb mode 4 ≡ false → ltb P h.N ≡ true
        → own' ≡ (add_absent b key bytes mode).answer.number
    unfolding add_absent
    own-empty i e k l =
        ap (λ (s : Probe). first_no (beside_asks P Q h img s bytes mode)) e
        ∙ beside-fresh P Q h img bytes mode i k l
        ∙ rw k (by_bool (eqb mode 3 && eqb (length bytes) 0)
        (λ y. rw (y, fresh-none bytes mode y) (room-none Q h (length img)
        ∙ sym (step-number b (ten ∷ []) _ ∙ first_no-yes 10 _ [] (book-ten ∙ l) ∙ first_no-none)))
        (λ y. rw (y, fresh-some bytes mode y) (room-both bytes
        ∙ sym (step-number b (ten ∷ room_asks b (length bytes)) _ ∙ first_no-yes 10 _ _ (book-ten ∙ l)))))

    own-14 : eqb mode 4 ≡ true → own' ≡ (add_absent b key bytes mode).answer.number
    unfolding add_absent
    own-14 k =
        beside-14 P Q h img bytes mode (search h img key) n k
        ∙ rw k (sym (step-number b _ b ∙ first_no-no 14 false [] refl))

    full : search h img key ≡ exhausted → ltb P h.N ≡ false
    full e =
        let w : weight h img (λ s. 1) ≡ h.N =
        weight-full h img (λ i l. (search-exhausted h img key (file-some r.file) e i l).0) in
        le-ltb P h.N (omega (arith, w, points, j.number, r.number, r.file.counted))

    own-absent : own' ≡ (add_absent b key bytes mode).answer.number
    own-absent =
        by_bool (eqb mode 4) own-14
        (λ k. by-search h img key (file-some r.file)
        (λ i e. absurd (not-both (is_met (search h img key)) (unfold is_met in ap is_met e) n))
        (λ i e. by_bool (ltb P h.N) (own-empty i e k)
        (λ l. own-full k l (unfold slot_to_take is_met is_empty in (rw (e, l) refl))))
        (λ e. own-full k (full e) (unfold slot_to_take is_met is_empty in (rw e refl))))

  pub own-number : (mode : ℕ) → mode_known mode ≡ true
      → first_no (beside_asks P Q h img (search h img key) bytes mode)
      ≡ (add_found b key bytes mode (find key b.entries)).answer.number
  unfolding add_found
  own-number mode k =
      by-met h img d r key
      (λ i m.
      ap (λ (s : Probe). first_no (beside_asks P Q h img s bytes mode)) m
      ∙ own-present i m mode k
      ∙ sym (ap (λ (f : Option Entry). (add_found b key bytes mode f).answer.number)
      (same-find c d b j key gone ∙ found-met h img d r key a i m)))
      (λ n.
      own-absent n mode
      ∙ sym (ap (λ (f : Option Entry). (add_found b key bytes mode f).answer.number)
      (same-find c d b j key gone ∙ found_none h img d r key a n)))
