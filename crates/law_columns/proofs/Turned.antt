-- Columns and records byte by byte, and each after the other: "reading after storing gives the records, and
-- rearranging what was read gives the stored bytes".
--     whole-width, whole-count, whole-stored, whole-read     what the test of 19 says; nothing_stored
--     length-columns, width-columns, byte-columns      what is stored: its length, its first byte, the others;
--                                                      length-stored, of whole records
--     length-records, byte-records                     the same of what is read; length-read, of whole columns
--     columns-only, records-only      nothing else has these bytes
--     records-columns, columns-records      each after the other, for every W from 1 on
--     read-stored, stored-read        the same of what passes the test, which then passes it too
-- Assumes nothing.
use Prim.Native.Nat.{ℕ, suc, ◌+◌, ◌-◌, ◌*◌, ◌/◌, ◌%◌, ◌≤◌, ◌<◌}
use native.Mathlib.Nat.{div-add-mod', mul_comm, mul-div_cancel}
use native.Mathlib.Omega.{arith}
use mathlib.Core.Bool.{true, false, ◌&&◌}
use mathlib.Core.List.{[], ◌∷◌}
use mathlib.Core.Path.{◌≡◌, refl, sym, ap, ap₂, ◌∙◌}
use lib.ListN.{length, get_or, drop, length-drop}
use lib.Seq.{drop-cons, get_or-drop}
use lib.Dec.{leb, eqb}
use borrow.Author.Tests.{leb-true, eqb-true}
use Rattle.spec_file.specs.Bytes.{Bytes}
use Rattle.law_file.proofs.Tests.{and_left, and_right}
use Rattle.spec_columns.specs.Columns.{most_width, width_of, whole_records, whole_columns, concatenate, column, columns, record_at, records}
use Rattle.spec_columns.specs.Places.{Agree}
use Rattle.law_columns.proofs.Grid.{length-tabulate, byte-tabulate, length-rows, byte-rows, rows-equal}

-- ---- the test

pub whole-width : (W m : ℕ) → whole_records W m ≡ true → (0 < W) × (W ≤ most_width)
unfolding whole_records
whole-width W m h =
    let range = and_left (leb 1 W && leb W most_width) (eqb (m % W) 0) h in (
      leb-true 1 W (and_left (leb 1 W) (leb W most_width) range),
      leb-true W most_width (and_right (leb 1 W) (leb W most_width) range),
    )

-- m bytes are m / W records
pub whole-count : (W m : ℕ) → whole_records W m ≡ true → m ≡ m / W * W
unfolding whole_records
whole-count W m h =
    omega
    (arith, eqb-true (m % W) 0 (and_right (leb 1 W && leb W most_width) (eqb (m % W) 0) h), div-add-mod' m W)

pub nothing_stored : (stored : Bytes) → length stored ≡ 0 → whole_columns stored ≡ false
unfolding whole_columns whole_records width_of
nothing_stored [] l = refl
nothing_stored (b ∷ stored) l = absurd (omega arith)

-- bytes that have a width are that byte and the columns
some_stored : (stored : Bytes) → 0 < width_of stored → 0 < length stored
unfolding width_of
some_stored [] h = absurd (omega arith)
some_stored (b ∷ stored) h = omega arith

pub whole-stored : (stored : Bytes) → whole_columns stored ≡ true
    → length stored ≡ 1 + (length stored - 1) / width_of stored * width_of stored
unfolding whole_columns
whole-stored stored h =
    omega (
      arith,
      some_stored stored (whole-width (width_of stored) (length stored - 1) h).0,
      whole-count (width_of stored) (length stored - 1) h,
    )

-- the test of what is stored, as one of the m bytes that are read
pub whole-read : (W m : ℕ) (stored : Bytes) → W ≡ width_of stored → length stored ≡ 1 + m → whole_columns stored ≡ true
    → whole_records W m ≡ true
unfolding whole_columns
whole-read W m stored w l h =
    let n : m ≡ length stored - 1 = omega arith in
    ap₂ whole_records w n ∙ h

count_of : (W n m : ℕ) → 0 < W → m ≡ n * W → m / W ≡ n
count_of W n m pos l = ap (λ (k : ℕ). k / W) l ∙ mul-div_cancel n pos

-- ---- what is stored of n records of W bytes

module _ (W n : ℕ) (recs : Bytes) (pos : 0 < W) (l : length recs ≡ n * W) where
  table : columns W recs ≡ W ∷ concatenate W (column W n recs)
  unfolding columns
  table = ap (λ (k : ℕ). W ∷ concatenate W (column W k recs)) (count_of W n (length recs) pos l)

  length-column : (j : ℕ) → length (column W n recs j) ≡ n
  unfolding column
  length-column j = length-tabulate n (λ r. get_or recs (r * W + j) 0)

  pub length-columns : length (columns W recs) ≡ 1 + length recs
  length-columns =
      omega
      (arith, ap length table, length-rows W n (column W n recs) length-column, mul_comm W n)

  pub width-columns : width_of (columns W recs) ≡ W
  unfolding width_of
  width-columns = ap (λ (s : Bytes). get_or s 0 0) table

  pub byte-columns : Agree W n recs (columns W recs) n W
  unfolding column
  byte-columns r j h h' =
      let at : 1 + j * n + r ≡ suc (j * n + r) = omega arith in
      sym
      (ap (λ (s : Bytes). get_or s (1 + j * n + r) 0) table
      ∙ ap (λ (p : ℕ). get_or (W ∷ concatenate W (column W n recs)) p 0) at
      ∙ byte-rows W n (column W n recs) length-column j r h' h
      ∙ byte-tabulate n (λ r. get_or recs (r * W + j) 0) r h)

-- of whole records: one byte more than they have
pub length-stored : (W : ℕ) (recs : Bytes) → whole_records W (length recs) ≡ true
    → length (columns W recs) ≡ 1 + length recs
length-stored W recs h =
    length-columns W (length recs / W) recs (whole-width W (length recs) h).0 (whole-count W (length recs) h)

-- ---- what is read of n records

module _ (W n : ℕ) (stored : Bytes) (first : width_of stored ≡ W) (pos : 0 < W) (l : length stored ≡ 1 + n * W) where
  rows : records stored ≡ concatenate n (record_at W n stored)
  unfolding records
  rows =
      ap (λ (w : ℕ). concatenate ((length stored - 1) / w) (record_at w ((length stored - 1) / w) stored)) first
      ∙ ap (λ (k : ℕ). concatenate k (record_at W k stored)) (count_of W n (length stored - 1) pos (omega arith))

  length-record_at : (r : ℕ) → length (record_at W n stored r) ≡ W
  unfolding record_at
  length-record_at r = length-tabulate W (λ j. get_or stored (1 + j * n + r) 0)

  pub length-records : length (records stored) ≡ n * W
  length-records = ap length rows ∙ length-rows n W (record_at W n stored) length-record_at

  pub byte-records : Agree W n (records stored) stored n W
  unfolding record_at
  byte-records r j h h' =
      ap (λ (s : Bytes). get_or s (r * W + j) 0) rows
      ∙ byte-rows n W (record_at W n stored) length-record_at r j h h'
      ∙ byte-tabulate W (λ j. get_or stored (1 + j * n + r) 0) j h'

-- the records of whole columns are as long as what stands behind the width
pub length-read : (stored : Bytes) → whole_columns stored ≡ true → length stored ≡ 1 + length (records stored)
unfolding whole_columns
length-read stored h =
    let W : ℕ = width_of stored in
    let n : ℕ = (length stored - 1) / W in
    let l : length stored ≡ 1 + n * W = whole-stored stored h in
    omega (arith, length-records W n stored refl (whole-width W (length stored - 1) h).0 l)

-- ---- records and stored bytes that agree on every place are each other's

module _ (W n : ℕ) (recs stored : Bytes) (first : width_of stored ≡ W) (pos : 0 < W) (l : length recs ≡ n * W)
    (k : length stored ≡ 1 + n * W) (agree : Agree W n recs stored n W) where
  pub records-only : records stored ≡ recs
  records-only =
      rows-equal n W (records stored) recs (length-records W n stored first pos k) l
      (λ r j h h'. byte-records W n stored first pos k r j h h' ∙ sym (agree r j h h'))

  pub columns-only : columns W recs ≡ stored
  unfolding width_of
  columns-only =
      let c : Bytes = columns W recs in
      let lc : length c ≡ 1 + length recs = length-columns W n recs pos l in
      let behind : drop 1 c ≡ drop 1 stored =
      rows-equal W n (drop 1 c) (drop 1 stored)
      (omega (arith, length-drop 1 c, mul_comm W n))
      (omega (arith, length-drop 1 stored, mul_comm W n))
      (λ j r h h'.
      let at : 1 + (j * n + r) ≡ 1 + j * n + r = omega arith in
      get_or-drop 1 c (j * n + r) 0
      ∙ ap (λ (p : ℕ). get_or c p 0) at
      ∙ sym (byte-columns W n recs pos l r j h' h)
      ∙ agree r j h' h
      ∙ ap (λ (p : ℕ). get_or stored p 0) (sym at)
      ∙ sym (get_or-drop 1 stored (j * n + r) 0))
      in
      drop-cons c 0 0 (omega arith)
      ∙ ap₂ ◌∷◌ (width-columns W n recs pos l ∙ sym first) behind
      ∙ sym (drop-cons stored 0 0 (omega arith))

-- ---- each after the other

-- "reading after storing gives the records": for every W from 1 on, also above 64
pub records-columns : (W n : ℕ) (recs : Bytes) → 0 < W → length recs ≡ n * W → records (columns W recs) ≡ recs
records-columns W n recs pos l =
    records-only W n recs (columns W recs) (width-columns W n recs pos l) pos l
    (omega (arith, length-columns W n recs pos l)) (byte-columns W n recs pos l)

-- "rearranging what was read gives the stored bytes"
pub columns-records : (W n : ℕ) (stored : Bytes) → width_of stored ≡ W → 0 < W → length stored ≡ 1 + n * W
    → columns W (records stored) ≡ stored
columns-records W n stored first pos l =
    columns-only W n (records stored) stored first pos (length-records W n stored first pos l) l
    (byte-records W n stored first pos l)

-- ---- the same of what passes the test

-- what is stored can be read, and gives the records
pub read-stored : (W : ℕ) (recs : Bytes) → whole_records W (length recs) ≡ true
    → (whole_columns (columns W recs) ≡ true) × (records (columns W recs) ≡ recs)
unfolding whole_columns
read-stored W recs h =
    let pos : 0 < W = (whole-width W (length recs) h).0 in
    let n : ℕ = length recs / W in
    let l : length recs ≡ n * W = whole-count W (length recs) h in (
      ap₂ whole_records (width-columns W n recs pos l) (omega (arith, length-columns W n recs pos l)) ∙ h,
      records-columns W n recs pos l,
    )

-- what is read can be stored with the width that was read, and gives the stored bytes
pub stored-read : (stored : Bytes) → whole_columns stored ≡ true
    → (whole_records (width_of stored) (length (records stored)) ≡ true)
    × (columns (width_of stored) (records stored) ≡ stored)
unfolding whole_columns
stored-read stored h =
    let W : ℕ = width_of stored in
    let n : ℕ = (length stored - 1) / W in
    let pos : 0 < W = (whole-width W (length stored - 1) h).0 in
    let l : length stored ≡ 1 + n * W = whole-stored stored h in (
      ap (whole_records W) (length-records W n stored refl pos l ∙ omega arith) ∙ h,
      columns-records W n stored refl pos l,
    )
