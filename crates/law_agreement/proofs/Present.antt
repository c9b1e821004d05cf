-- Add of a point that is present, in its four modes: the file's answer is the book's, and the relation is kept.
-- Assumes nothing.
use mathlib.Core.Path.{◌≡◌, refl, sym, ap, ◌∙◌}
use Prim.Native.Nat.{ℕ, ◌+◌, ◌≤◌}
use native.Mathlib.Omega.{arith}
use native.Mathlib.Nat.{add-zero}
use mathlib.Core.Bool.{true, false, not, ◌&&◌}
use mathlib.Core.List.{[], ◌∷◌, ◌++◌}
use mathlib.Core.Option.{Option, none, some}
use lib.ListN.{length}
use lib.Dec.{eqb, leb}
use borrow.Author.Tests.{eq-eqb, ne_eqb}
use Rattle.spec_file.specs.Bytes.{Bytes}
use Rattle.spec_file.specs.Limits.{points_field, free_field, table_start}
use Rattle.spec_file.specs.Image.{field, Layout, layout_of, slot, offset_of}
use Rattle.spec_file.specs.Search.{met, search}
use Rattle.spec_file.specs.Messages.{shown, bytes_of, held, retire, overwrite, renewed_text, renewed_at, added_at, noted, added}
use Rattle.spec_file.specs.Questions.{ask, first_no, mode_known, open_number, add_number, place_number}
use Rattle.spec_file.specs.Calls.{add}
use Rattle.spec_book.specs.Book.{Entry, Book, find, with_entry, step_of, room_asks, entered, noting, placed, replace, append, withdrawn, add_present, add_found}
use Rattle.law_file.proofs.Tests.{by_bool, by-eq}
use Rattle.law_file.proofs.Opened.{first_no-none, first_no-no}
use Rattle.law_file.proofs.Outcomes.{room-none, add-9, add-renewed}
use Rattle.law_file.proofs.Texts.{by_mode, replaced-none, replaced-some, replaced-held, replaced-written, appended-none, appended-some, appended-same, withdrawn-none, withdrawn-retired, renewed-moved}
use Rattle.law_file.proofs.Table.{entry_of}
use Rattle.law_file.proofs.Insert.{entry-met}
use Rattle.law_agreement.proofs.File.{Allowed, value_of}
use Rattle.law_agreement.proofs.Retire.{retire-change, retire-field, retire-point}
use Rattle.law_agreement.proofs.Noted.{noted-reflects}
use Rattle.law_agreement.proofs.Overwrite.{overwrite-change, overwrite-field, overwrite-point}
use Rattle.law_agreement.proofs.Entries.{length-with_entry-old}
use Rattle.law_agreement.proofs.Reflect.{Reflects, reflect-entered}
use Rattle.law_agreement.proofs.Simple.{Same, same-refused, same-accepted, open₀, found-met, met-sound}
use Rattle.law_agreement.proofs.Place.{place-both, place-length, place-space, relocate}

-- ---- a point that is present

module _ (g : Layout) (img : Bytes) (b : Book) (r : Reflects g img b) (key : Bytes) (a : Allowed g key) (bytes : Bytes)
    (i : ℕ) (m : search g img key ≡ met i) where
  abbrev o : ℕ
  o = offset_of g (slot g img i)

  e₁ : entry_of g img key ≡ some (slot g img i)
  e₁ = entry-met g img key i m

  found : find key b.entries ≡ some (value_of g img key o)
  found = found-met g img b r key a i m

  old-number : (e : Entry) → e.name ≡ key → length (with_entry e b.entries) ≡ field img points_field
  old-number e q =
      length-with_entry-old e b.entries _ (ap (λ (k : Bytes). find k b.entries) q ∙ found) ∙ r.number

  open₁ : open_number img ≡ 0
  open₁ = open₀ r

  -- in modes 2, 3 and 4 questions 12 and 13 decide, of the text p to be placed
  present-number : (mode : ℕ) (p : Option Bytes) → mode_known mode ≡ true → eqb mode 1 ≡ false
      → renewed_text g img o bytes mode ≡ p
      → add_number img key bytes mode ≡ place_number g img p
  present-number mode p k h q =
      rw r.file.layout at
      (add-renewed img key open₁ bytes mode (rw r.file.layout a) k i (rw r.file.layout m) h
      (rw r.file.layout (met-sound g img b r key a i m)))
      ∙ ap (place_number g img) q

  after-present : (mode : ℕ)
      → added (layout_of img) img key bytes mode ≡ noted bytes mode (renewed_at g img i o key bytes mode)
  unfolding added added_at
  after-present mode = rw (r.file.layout, m) refl

  -- a text in new space
  same-placed : (mode : ℕ) (t : Bytes) → mode_known mode ≡ true → eqb mode 1 ≡ false
      → renewed_text g img o bytes mode ≡ some t
      → Same g (add img key bytes mode) (step_of b (room_asks b (length t)) (placed b key t))
  unfolding add
  same-placed mode t k h q =
      let n = add_number img key bytes mode in
      let asks = room_asks b (length t) in
      let is : n ≡ first_no asks = present-number mode (some t) k h q ∙ place-both g img b r t in
      by-eq (first_no asks) 0
      (λ z.
      same-accepted g img b r n _ asks (placed b key t) (is ∙ z) z
      (rw (after-present mode, renewed-moved g img i o key bytes mode t q)
      (noted-reflects g _ _ bytes mode
      (relocate g img b r key a t (place-length g img b r t z) (place-space g img b r t z) i m))))
      (λ z. same-refused g img b r n _ asks (placed b key t) is z)

  -- a step with nothing to place
  same-in-place : (mode : ℕ) (img' : Bytes) (b' : Book) → mode_known mode ≡ true → eqb mode 1 ≡ false
      → renewed_text g img o bytes mode ≡ none → renewed_at g img i o key bytes mode ≡ img' → Reflects g img' b'
      → Same g (add img key bytes mode) (step_of b [] b')
  unfolding add
  same-in-place mode img' b' k h q w s =
      let n = add_number img key bytes mode in
      same-accepted g img b r n _ [] b' (present-number mode none k h q ∙ room-none g img) first_no-none
      (rw (after-present mode, w) (noted-reflects g img' b' bytes mode s))

  -- ---- mode 1
  same-1 : Same g (add img key bytes 1) (add_present b (value_of g img key o) bytes 1)
  unfolding add add_present mode_known
  same-1 =
      let nine = add-9 img key open₁ bytes 1 (rw r.file.layout a) refl i (rw r.file.layout m) refl in
      let book = first_no-no 9 false [] refl in
      same-refused g img b r (add_number img key bytes 1) _ (ask 9 false ∷ []) b (nine ∙ sym book)
      (λ z. omega (arith, z, book))

  -- ---- mode 2
  retired : Reflects g (retire img o) (entered b (withdrawn (value_of g img key o)) 0)
  unfolding withdrawn
  retired =
      let f : (at : ℕ) → at + 4 ≤ table_start → field (retire img o) at ≡ field img at
      = retire-field g img r.file key (slot g img i) a e₁ in
      reflect-entered g img (retire img o) key b r a (retire-change g img r.file key (slot g img i) a e₁)
      (withdrawn (value_of g img key o)) 0 refl
      (retire-point g img r.file key (slot g img i) a e₁)
      (f free_field (omega arith) ∙ sym (add-zero (field img free_field)))
      (old-number _ refl ∙ sym (f points_field (omega arith)))

  in_place : (o ≡ 0 → ⊥) → length bytes ≤ held g img o
      → Reflects g (overwrite g img o bytes) (entered b (noting key bytes) 0)
  unfolding noting
  in_place z hi =
      let f : (at : ℕ) → at + 4 ≤ table_start → field (overwrite g img o bytes) at ≡ field img at
      = overwrite-field g img r.file key (slot g img i) a e₁ z bytes hi in
      reflect-entered g img (overwrite g img o bytes) key b r a
      (overwrite-change g img r.file key (slot g img i) a e₁ z bytes hi) (noting key bytes) 0 refl
      (overwrite-point g img r.file key (slot g img i) a e₁ z bytes hi)
      (f free_field (omega arith) ∙ sym (add-zero (field img free_field)))
      (old-number _ refl ∙ sym (f points_field (omega arith)))

  same-2 : Same g (add img key bytes 2) (add_present b (value_of g img key o) bytes 2)
  unfolding add_present replace mode_known
  same-2 =
      by_bool (not (eqb o 0) && leb (length bytes) (held g img o))
      (λ y.
      let none' = replaced-none g img i o key bytes y in
      let held' = replaced-held g img i o key bytes none' in
      rw y
      (same-in-place 2 (overwrite g img o bytes) _ refl refl none' (replaced-written g img i o key bytes none')
      (in_place held'.0 held'.1)))
      (λ n. rw n (same-placed 2 bytes refl refl (replaced-some g img i o key bytes n)))

  -- ---- mode 3
  same-3 : Same g (add img key bytes 3) (add_present b (value_of g img key o) bytes 3)
  unfolding add_present append mode_known
  same-3 =
      by-eq (length bytes) 0
      (λ z.
      rw (eq-eqb (length bytes) 0 z)
      (same-in-place 3 img b refl refl (appended-none g img i o key bytes z) (appended-same g img i o key bytes z) r))
      (λ z.
      rw (ne_eqb (length bytes) 0 z)
      (same-placed 3 (bytes_of (shown g img o) ++ bytes) refl refl (appended-some g img i o key bytes z)))

  -- ---- mode 4
  same-4 : Same g (add img key bytes 4) (add_present b (value_of g img key o) bytes 4)
  unfolding add_present mode_known
  same-4 =
      same-in-place 4 (retire img o) _ refl refl (withdrawn-none g img i o key bytes)
      (withdrawn-retired g img i o key bytes) retired

  pub same-present : (mode : ℕ) → mode_known mode ≡ true
      → Same g (add img key bytes mode) (add_found b key bytes mode (find key b.entries))
  unfolding add_found
  same-present mode k =
      rw found (by_mode mode k (λ q. rw q same-1) (λ q. rw q same-2) (λ q. rw q same-3) (λ q. rw q same-4))
