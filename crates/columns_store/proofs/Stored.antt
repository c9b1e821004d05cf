-- What storing answers and leaves, from `seek`'s answer, question 19 and the search's end.
-- Assumes nothing.
use mathlib.Core.Path.{◌≡◌, sym, ap, ap₂, ◌∙◌}
use Prim.Native.Nat.{ℕ}
use native.Mathlib.Omega.{arith}
use mathlib.Core.Bool.{true, false}
use lib.ListN.{length}
use Rattle.spec_file.specs.Bytes.{Bytes}
use Rattle.spec_file.specs.Image.{layout_of}
use Rattle.spec_file.specs.Search.{Probe, search}
use Rattle.spec_file.specs.Messages.{added_at, added}
use Rattle.spec_file.specs.Questions.{first_no, point_asks, seek_number}
use Rattle.spec_file.specs.Calls.{plain, settled}
use Rattle.law_file.proofs.Outcomes.{settled-no}
use Rattle.spec_columns.specs.Columns.{whole_records, columns}
use Rattle.spec_records.specs.Records.{store_number, store_records, Stores}
use Rattle.law_records.proofs.Numbers.{store-stop, store-19, store-on, store-noted}

module _ (img key recs : Bytes) (W : ℕ) where
  refused : (n : ℕ) → n ≡ store_number img key recs W → (n ≡ 0 → ⊥) → Stores img key recs W img n
  unfolding store_records plain
  refused n is z = record { number = is; image = sym (settled-no (store_number img key recs W) img _ (λ q. z (is ∙ q))) }

  pub stores-refused : (n : ℕ) → n ≡ seek_number img key true → (n ≡ 0 → ⊥) → Stores img key recs W img n
  stores-refused n e z = refused n (e ∙ sym (store-stop img key recs W (λ q. z (e ∙ q)))) z

  module _ (asked : seek_number img key true ≡ 0) where
    pub stores-19 : whole_records W (length recs) ≡ false → Stores img key recs W img 19
    stores-19 h = refused 19 (sym (store-19 img key recs W asked h)) (λ z. omega arith)

    pub stores-found : whole_records W (length recs) ≡ true → (n : ℕ) (after : Bytes) (p : Probe)
        → p ≡ search (layout_of img) img key
        → n ≡ first_no (point_asks (layout_of img) img p (columns W recs) 2)
        → after ≡ settled n img (added_at (layout_of img) img p key (columns W recs) 2)
        → Stores img key recs W after n
    unfolding store_records plain added
    stores-found h n after p e is left =
        let g = layout_of img in
        let number : n ≡ store_number img key recs W =
        is ∙ ap (λ (q : Probe). first_no (point_asks g img q (columns W recs) 2)) e
        ∙ sym (store-on img key recs W asked h) in
        record {
          number = number;
          image =
              left
              ∙ ap₂ (λ (m : ℕ) (q : Probe). settled m img (added_at g img q key (columns W recs) 2)) number e
              ∙ ap (settled (store_number img key recs W) img) (sym (store-noted img key recs W h _));
        }
