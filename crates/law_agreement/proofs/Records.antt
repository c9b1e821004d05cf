-- Document 02, Job 10, of the calls: "For each W and number of records, reading after storing gives the records, and
-- rearranging what was read gives the stored bytes". On any image of bytes, also one that no list of calls has led to.
--     stored-shown       after an accepted storing lookup shows the width and the columns
--     stored-read        a reading then answers the records and their byte count, if they have room in the slice
--     stored-fills       and fills the slice's front with them
--     read-restored      what a reading gave, rearranged by the width that was read, is what is stored; and it can be
--                        stored again
-- Assumes nothing.
use mathlib.Core.Path.{◌≡◌, refl, sym, ap, ◌∙◌, subst}
use Prim.Native.Nat.{ℕ, ◌-◌, ◌≤◌, ◌<◌}
use native.Mathlib.Omega.{arith}
use mathlib.Core.Bool.{true, false, ◌&&◌}
use mathlib.Core.Option.{some}
use lib.ListN.{length}
use lib.Dec.{leb}
use borrow.Author.Tests.{le-leb}
use Rattle.spec_file.specs.Bytes.{Bytes, store}
use Rattle.spec_file.specs.Messages.{bytes_of}
use Rattle.spec_file.specs.Questions.{seek_number, add_number, lookup_number}
use Rattle.spec_file.specs.Calls.{Answer, Outcome, plain, add, lookup}
use Rattle.law_file.proofs.Tests.{by_bool, by-eq, and_left, and-true}
use Rattle.law_file.proofs.Bytes.{AreBytes}
use Rattle.law_file.proofs.Outcomes.{settled-yes}
use Rattle.spec_columns.specs.Columns.{width_of, whole_records, whole_columns, columns, records}
use Rattle.law_columns.proofs.Turned as turned
use Rattle.law_columns.proofs.Turned.{length-stored}
use Rattle.spec_records.specs.Records.{store_number, store_records, stored_bytes, readable, read_number, read_records, filled_records}
use Rattle.law_records.proofs.Numbers.{store-stop, store-19, store-add, read-stop, read-0, read-19, records-number, records-shown}
use Rattle.law_agreement.proofs.Shown.{replaced-shown}

module _ (img key recs : Bytes) (W : ℕ) (bytes : AreBytes img)
    (ok : (store_records img key recs W).answer.number ≡ 0) where
  abbrev after : Bytes
  after = (store_records img key recs W).after

  number : store_number img key recs W ≡ 0
  unfolding store_records plain
  number = ok

  -- 19 was answered yes
  whole : whole_records W (length recs) ≡ true
  whole =
      by_bool (whole_records W (length recs)) (λ y. y)
      (λ n. absurd (by-eq (seek_number img key true) 0
      (λ z. omega (arith, number, store-19 img key recs W z n))
      (λ z. z (sym (store-stop img key recs W z) ∙ number))))

  is-add : store_records img key recs W ≡ add img key (columns W recs) 2
  is-add = store-add img key recs W whole

  pub stored-shown : (lookup after key).answer
      ≡ record { number = 0; amount = length (columns W recs); text = some (columns W recs); epoch = 0 }
  unfolding add plain
  stored-shown =
      subst (λ (o : Outcome Bytes). (lookup o.after key).answer
      ≡ record { number = 0; amount = length (columns W recs); text = some (columns W recs); epoch = 0 }) (sym is-add)
      (replaced-shown img key (columns W recs) bytes (omega (arith, length-stored W recs whole))
      (ap (λ (o : Outcome Bytes). o.answer.number) (sym is-add) ∙ ok))

  shown-bytes : stored_bytes after key ≡ columns W recs
  unfolding stored_bytes lookup bytes_of
  shown-bytes = ap (λ (a : Answer). bytes_of a.text) stored-shown

  shown-number : lookup_number after key ≡ 0
  unfolding lookup
  shown-number = ap (λ (a : Answer). a.number) stored-shown

  records-back : records (stored_bytes after key) ≡ recs
  records-back = ap records shown-bytes ∙ (turned.read-stored W recs whole).1

  module _ (room : ℕ) (fits : length recs ≤ room) where
    can-read : readable (stored_bytes after key) room ≡ true
    unfolding readable
    can-read =
        rw shown-bytes
        (and-true (whole_columns (columns W recs)) _ (turned.read-stored W recs whole).0
        (le-leb (length (columns W recs) - 1) room (omega (arith, length-stored W recs whole))))

    accepted : read_number after key room ≡ 0
    accepted = read-0 after key room shown-number can-read

    pub stored-read : (read_records after key room).answer
        ≡ record { number = 0; amount = length recs; text = some recs; epoch = 0 }
    unfolding read_records
    stored-read =
        records-shown (read_number after key room) (stored_bytes after key) accepted
        ∙ ap (λ (t : Bytes). record { number = 0; amount = length t; text = some t; epoch = 0 }) records-back

  pub stored-fills : (out : Bytes) → length recs ≤ length out → filled_records after key out ≡ store out 0 recs
  unfolding filled_records
  stored-fills out fits =
      settled-yes (read_number after key (length out)) out _ (accepted (length out) fits)
      ∙ ap (store out 0) records-back

-- ---- and back

module _ (img key : Bytes) (room : ℕ) (ok : (read_records img key room).answer.number ≡ 0) where
  number-0 : read_number img key room ≡ 0
  unfolding read_records
  number-0 = sym (records-number (read_number img key room) (stored_bytes img key)) ∙ ok

  whole-stored : whole_columns (stored_bytes img key) ≡ true
  unfolding readable
  whole-stored =
      by-eq (lookup_number img key) 0
      (λ z. by_bool (readable (stored_bytes img key) room)
      (λ y. and_left (whole_columns (stored_bytes img key)) (leb (length (stored_bytes img key) - 1) room) y)
      (λ n. absurd (omega (arith, number-0, read-19 img key room z n))))
      (λ z. absurd (z (sym (read-stop img key room z) ∙ number-0)))

  pub read-restored : let recs : Bytes = records (stored_bytes img key) in
      let W : ℕ = width_of (stored_bytes img key) in
      ((read_records img key room).answer ≡ record { number = 0; amount = length recs; text = some recs; epoch = 0 })
      × (whole_records W (length recs) ≡ true)
      × (columns W recs ≡ stored_bytes img key)
  unfolding read_records
  read-restored =
      let back = turned.stored-read (stored_bytes img key) whole-stored in (
        records-shown (read_number img key room) (stored_bytes img key) number-0,
        back.0,
        back.1,
      )
