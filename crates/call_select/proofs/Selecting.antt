-- Whether a slot is listed, by its key.
--     selects-outside, selects-inside      a key outside its ranges, and one inside
-- Assumes nothing.
use mathlib.Core.Path.{◌≡◌, sym, ap, ◌∙◌}
use Prim.Native.Nat.{ℕ}
use mathlib.Core.Bool.{Bool, true, false, not, ◌&&◌, and-false, and-true}
use Rattle.spec_file.specs.Bytes.{Bytes, all_zero}
use Rattle.spec_file.specs.Image.{Layout, vacant}
use Rattle.spec_file.specs.Inspect.{taken}
use Rattle.law_file.proofs.Table.{key_at}
use Rattle.spec_range.specs.Ranges.{key_in_ranges, selects}

module _ (g : Layout) (img lowest highest : Bytes) (i : ℕ) (key : Bytes) (e : key ≡ key_at g img i) where
  pub selects-outside : key_in_ranges lowest highest key ≡ false → false ≡ selects g img lowest highest i
  unfolding selects
  selects-outside h =
      sym
      (ap (λ (b : Bool). taken g img i && b) (ap (key_in_ranges lowest highest) (sym e) ∙ h) ∙ and-false (taken g img i))

  pub selects-inside : key_in_ranges lowest highest key ≡ true → (z : Bool) → z ≡ all_zero key
      → not z ≡ selects g img lowest highest i
  unfolding selects taken vacant
  selects-inside h z q =
      ap not (q ∙ ap all_zero e)
      ∙ sym (ap (λ (b : Bool). not (all_zero (key_at g img i)) && b) (ap (key_in_ranges lowest highest) (sym e) ∙ h)
      ∙ and-true (not (all_zero (key_at g img i))))
