-- What storing and reading answer, by the first no, on any image; and what they leave then.
--     store-stop, store-19, store-on      storing's number: as every call's on a name, 19, as add's in mode 2
--     store-add                           with whole records storing is an add, in mode 2, of what is stored
--     store-noted                         which is never empty, so that the version stays
--     read-stop, read-on                  reading's number: lookup's, or whether what is stored can be read
--     records-number, records-refused, records-shown      reading's answer, by its number
--     read-within                         its count is at most the length of what is stored
-- Assumes nothing.
use mathlib.Core.Path.{◌≡◌, refl, sym, ap, ◌∙◌}
use Prim.Native.Nat.{ℕ, ◌-◌, ◌≤◌}
use native.Mathlib.Omega.{arith}
use mathlib.Core.Bool.{Bool, true, false}
use mathlib.Core.List.{List, [], ◌∷◌, ◌++◌}
use mathlib.Core.Option.{some}
use lib.ListN.{length}
use lib.Dec.{leb}
use borrow.Author.Tests.{ne_eqb}
use Rattle.spec_file.specs.Bytes.{Bytes}
use Rattle.spec_file.specs.Image.{Layout, layout_of}
use Rattle.spec_file.specs.Search.{Probe, search, is_met}
use Rattle.spec_file.specs.Messages.{noted}
use Rattle.spec_file.specs.Questions.{Question, ask, first_no, name_allowed, mode_known, met_message_sound, opened, point_asks, add_asks, lookup_asks, open_number, seek_number, add_number, lookup_number}
use Rattle.spec_file.specs.Calls.{Answer, plain, settled, add}
use Rattle.law_file.proofs.Tests.{by_bool, by-eq, and_left, zero-yes, zero-no}
use Rattle.law_file.proofs.Opened.{first_no-none, first_no-yes, first_no-no, first_no-head, first_no-tail, first_no-opened, first_no-refused}
use Rattle.law_file.proofs.Sought.{seek-closed, seek-7, seek-0, seek-opened, seek-allowed, add-stop, add-on}
use Rattle.law_file.proofs.Outcomes.{lookup-closed}
use Rattle.spec_columns.specs.Columns.{whole_records, whole_columns, columns, records}
use Rattle.law_columns.proofs.Turned.{length-stored, length-read}
use Rattle.spec_records.specs.Records.{store_asks, store_number, store_records, stored_bytes, readable, read_asks, read_number, records_answer, read_records}

-- ---- storing

module _ (img key recs : Bytes) (W : ℕ) where
  abbrev g : Layout
  g = layout_of img

  abbrev whole : Bool
  whole = whole_records W (length recs)

  pub store-stop : (seek_number img key true ≡ 0 → ⊥) → store_number img key recs W ≡ seek_number img key true
  unfolding store_number store_asks
  store-stop n =
      by-eq (open_number img) 0
      (λ o. by_bool (name_allowed g.K key)
      (λ a. absurd (n (seek-0 img key true o a refl)))
      (λ a. first_no-opened img _ o ∙ first_no-no 7 _ _ a ∙ sym (seek-7 img key true o a)))
      (λ c. first_no-refused img _ c ∙ sym (seek-closed img key true c))

  module _ (z : seek_number img key true ≡ 0) where
    after-seven : store_number img key recs W
        ≡ first_no (ask 19 whole ∷ point_asks g img (search g img key) (columns W recs) 2)
    unfolding store_number store_asks
    after-seven = first_no-opened img _ (seek-opened img key true z) ∙ first_no-yes 7 _ _ (seek-allowed img key true z)

    pub store-19 : whole ≡ false → store_number img key recs W ≡ 19
    store-19 h = after-seven ∙ first_no-no 19 _ _ h

    pub store-on : whole ≡ true
        → store_number img key recs W ≡ first_no (point_asks g img (search g img key) (columns W recs) 2)
    store-on h = after-seven ∙ first_no-yes 19 _ _ h

  -- question 8 of mode 2 is answered yes
  store-add-number : whole ≡ true → store_number img key recs W ≡ add_number img key (columns W recs) 2
  unfolding mode_known
  store-add-number h =
      by-eq (seek_number img key true) 0
      (λ z. store-on z h ∙ sym (add-on img key (columns W recs) 2 z))
      (λ n. store-stop n ∙ sym (add-stop img key (columns W recs) 2 n))

  pub store-add : whole ≡ true → store_records img key recs W ≡ add img key (columns W recs) 2
  unfolding store_records add
  store-add h = rw (store-add-number h) refl

  pub store-noted : whole ≡ true → (b : Bytes) → noted (columns W recs) 2 b ≡ b
  unfolding noted
  store-noted h b =
      let some' : length (columns W recs) ≡ 0 → ⊥ = λ e. omega (arith, length-stored W recs h) in
      rw (ne_eqb (length (columns W recs)) 0 some') refl

-- ---- reading

-- questions put after others are asked where those have no no
first_no-before : (qs more : List Question) → (first_no qs ≡ 0 → ⊥) → first_no (qs ++ more) ≡ first_no qs
unfolding first_no
first_no-before [] more z = absurd (z refl)
first_no-before (q ∷ qs) more z =
    by_bool q.yes?
    (λ y. rw y (first_no-before qs more (λ e. z (rw y e))))
    (λ n. rw n refl)

module _ (img key : Bytes) (room : ℕ) where
  abbrev fits : Bool
  fits = readable (stored_bytes img key) room

  pub read-stop : (lookup_number img key ≡ 0 → ⊥) → read_number img key room ≡ lookup_number img key
  unfolding read_number read_asks lookup_number opened
  read-stop z =
      first_no-before (opened img (lookup_asks (layout_of img) img (search (layout_of img) img key) key)) _ z

  module _ (z : lookup_number img key ≡ 0) where
    open₀ : open_number img ≡ 0
    open₀ = by-eq (open_number img) 0 (λ e. e) (λ n. absurd (n (sym (lookup-closed img key n) ∙ z)))

    asked : first_no (lookup_asks (layout_of img) img (search (layout_of img) img key) key) ≡ 0
    unfolding lookup_number
    asked = sym (first_no-opened img _ open₀) ∙ z

    pub read-on : read_number img key room ≡ first_no (ask 19 fits ∷ [])
    unfolding read_number read_asks lookup_asks
    read-on =
        let after-7 = first_no-tail 7 _ _ (λ e. omega arith) asked in
        let after-14 = first_no-tail 14 _ _ (λ e. omega arith) after-7 in
        first_no-opened img _ open₀
        ∙ first_no-yes 7 _ _ (first_no-head 7 _ _ (λ e. omega arith) asked)
        ∙ first_no-yes 14 _ _ (first_no-head 14 _ _ (λ e. omega arith) after-7)
        ∙ first_no-yes 11 _ _ (first_no-head 11 _ _ (λ e. omega arith) after-14)

    pub read-0 : fits ≡ true → read_number img key room ≡ 0
    read-0 h = read-on ∙ first_no-yes 19 _ _ h ∙ first_no-none

    pub read-19 : fits ≡ false → read_number img key room ≡ 19
    read-19 h = read-on ∙ first_no-no 19 _ _ h

-- ---- what a reading answers

module _ (n : ℕ) (stored : Bytes) where
  pub records-refused : (n ≡ 0 → ⊥) → records_answer n stored ≡ plain n
  unfolding records_answer
  records-refused z = zero-no n _ (plain n) z

  pub records-shown : n ≡ 0
      → records_answer n stored
      ≡ record { number = 0; amount = length (records stored); text = some (records stored); epoch = 0 }
  unfolding records_answer
  records-shown z = zero-yes n _ (plain n) z

  pub records-number : (records_answer n stored).number ≡ n
  unfolding plain records_answer
  records-number =
      by-eq n 0 (λ z. rw z refl) (λ z. ap (λ (a : Answer). a.number) (records-refused z))

-- the records of what can be read are one byte shorter than it
pub read-within : (img key : Bytes) (room : ℕ)
    → (read_records img key room).answer.amount ≤ length (stored_bytes img key)
unfolding read_records readable plain
read-within img key room =
    let stored : Bytes = stored_bytes img key in
    let none' : (read_number img key room ≡ 0 → ⊥) → (read_records img key room).answer.amount ≤ length stored =
    λ z. omega (arith, ap (λ (a : Answer). a.amount) (records-refused (read_number img key room) stored z)) in
    by-eq (lookup_number img key) 0
    (λ z. by_bool (readable stored room)
    (λ h.
    let whole = and_left (whole_columns stored) (leb (length stored - 1) room) h in
    let shown = records-shown (read_number img key room) stored (read-0 img key room z h) in
    omega (arith, ap (λ (a : Answer). a.amount) shown, length-read stored whole))
    (λ h. none' (λ e. omega (arith, read-19 img key room z h))))
    (λ z. none' (λ e. z (sym (read-stop img key room z) ∙ e)))
