-- What filling a slice answers and leaves, case by case; and a reading, by lookup's answer.
--     fills-part, fills-short     19: what is stored are no whole columns, or the slice is too short
--     fills-all                   the records fill the slice's front
--     reads-refused, reads-filled     a reading, refused as lookup is, or with lookup's text
-- Assumes nothing.
use mathlib.Core.Path.{◌≡◌, refl, sym, ap, ap₂, ◌∙◌}
use Prim.Native.Nat.{ℕ, ◌-◌, ◌≤◌, ◌<◌}
use native.Mathlib.Omega.{arith}
use mathlib.Core.Bool.{Bool, true, false, ◌&&◌}
use mathlib.Core.List.{[], ◌∷◌}
use lib.ListN.{length}
use lib.Dec.{leb}
use borrow.Author.Tests.{le-leb, lt-leb}
use Rattle.spec_file.specs.Bytes.{Bytes, store}
use Rattle.spec_file.specs.Questions.{ask, first_no, lookup_number}
use Rattle.spec_file.specs.Calls.{Answer, plain, settled}
use Rattle.law_file.proofs.Tests.{and-true}
use Rattle.law_file.proofs.Opened.{first_no-none, first_no-yes, first_no-no}
use Rattle.law_file.proofs.Outcomes.{settled-yes, settled-no}
use Rattle.spec_columns.specs.Columns.{whole_columns, records}
use Rattle.law_columns.proofs.Turned.{length-read}
use Rattle.spec_records.specs.Records.{stored_bytes, readable, read_number, records_answer, read_records, filled_records, Reads}
use Rattle.law_records.proofs.Numbers.{read-stop, read-on, records-number, records-refused}
use Rattle.columns_fetch.specs.Fills.{Fills}

-- ---- by what is stored

module _ (stored out : Bytes) where
  -- as `refused` answers 19
  module _ (n m : ℕ) (is : (n ≡ 19) × (m ≡ 0)) where
    fills-none : readable stored (length out) ≡ false → Fills stored out out n m
    unfolding records_answer plain
    fills-none h =
        record {
          number = is.0 ∙ sym (first_no-no 19 _ [] h);
          count = is.1 ∙ sym (ap (λ (k : ℕ). (records_answer k stored).amount) is.0);
          slice = sym (settled-no n out _ (λ z. omega (arith, is.0)));
        }

    pub fills-part : whole_columns stored ≡ false → Fills stored out out n m
    fills-part h = fills-none (unfold readable in rw h refl)

    pub fills-short : whole_columns stored ≡ true → length out < length stored - 1 → Fills stored out out n m
    fills-short h l = fills-none (unfold readable in rw (h, lt-leb (length stored - 1) (length out) l) refl)

  module _ (h : whole_columns stored ≡ true) where
    pub fills-all : length stored - 1 ≤ length out → (filled : Bytes) → filled ≡ store out 0 (records stored)
        → Fills stored out filled 0 (length stored - 1)
    unfolding records_answer readable
    fills-all l filled e =
        record {
          number =
              sym
              (first_no-yes 19 _ [] (and-true (whole_columns stored) _ h (le-leb (length stored - 1) (length out) l))
              ∙ first_no-none);
          count = omega (arith, length-read stored h);
          slice = e ∙ sym (settled-yes 0 out _ refl);
        }

-- ---- by lookup's answer

module _ (img key out : Bytes) where
  pub reads-refused : (n m : ℕ) → n ≡ lookup_number img key → (n ≡ 0 → ⊥) → m ≡ 0 → Reads img key out out n m
  unfolding read_records filled_records plain
  reads-refused n m e z e₀ =
      let refused : lookup_number img key ≡ 0 → ⊥ = λ q. z (e ∙ q) in
      let is : n ≡ read_number img key (length out) = e ∙ sym (read-stop img key (length out) refused) in
      let no : read_number img key (length out) ≡ 0 → ⊥ = λ q. z (is ∙ q) in
      record {
        number = is ∙ sym (records-number _ (stored_bytes img key));
        count = e₀ ∙ sym (ap (λ (a : Answer). a.amount) (records-refused _ (stored_bytes img key) no));
        slice = sym (settled-no _ out _ no);
      }

  pub reads-filled : lookup_number img key ≡ 0 → (filled : Bytes) (n m : ℕ) (stored : Bytes)
      → stored ≡ stored_bytes img key → Fills stored out filled n m → Reads img key out filled n m
  unfolding read_records filled_records
  reads-filled z filled n m stored e f =
      let is : n ≡ read_number img key (length out) =
      f.number ∙ ap (λ (t : Bytes). first_no (ask 19 (readable t (length out)) ∷ [])) e
      ∙ sym (read-on img key (length out) z) in
      record {
        number = is ∙ sym (records-number _ (stored_bytes img key));
        count = f.count ∙ ap₂ (λ (k : ℕ) (t : Bytes). (records_answer k t).amount) is e;
        slice = f.slice ∙ ap₂ (λ (k : ℕ) (t : Bytes). settled k out (store out 0 (records t))) is e;
      }
