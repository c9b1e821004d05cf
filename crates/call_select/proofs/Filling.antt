-- A list that is being filled with the numbers for which a test holds.
--     Filling p n list₀ list found i     those below i stand in the list, `found` of them; those from i on, below n,
--                                        are to be written after them
--     filling-take, filling-pass, filling-end      its turns
--     filling-few       no more are listed than there are slots
--     filling-room      one more number has room
-- Assumes nothing.
use mathlib.Core.Path.{◌≡◌, sym, ap, ap₂, ◌∙◌}
use Prim.Native.Nat.{ℕ, suc, ◌+◌, ◌-◌, ◌*◌, ◌≤◌, ◌<◌}
use native.Mathlib.Omega.{arith}
use mathlib.Core.Bool.{Bool, true, false}
use mathlib.Core.List.{List, [], ◌∷◌}
use lib.ListN.{length}
use Rattle.spec_file.specs.Bytes.{Bytes, store, digits}
use Rattle.spec_file.specs.Image.{set_field}
use Rattle.law_file.proofs.Bytes.{length-store, length_digits}
use Rattle.law_file.proofs.Stores.{store-none, store-append}
use Rattle.spec_range.specs.Ranges.{chosen_from, slot_numbers}
use Rattle.law_range.proofs.Chosen.{chosen-few, chosen-take, chosen-pass, chosen-end, length-numbers}

module _ (p : ℕ → Bool) (n : ℕ) where
  -- what is left from i on
  abbrev rest : ℕ → List ℕ
  rest i = chosen_from p (n - i) i

  pub record Filling (list₀ list : Bytes) (found i : ℕ) : Type 0 where
    pub counted : found + length (rest i) ≡ length (chosen_from p n 0)
    pub stored : store list (4 * found) (slot_numbers (rest i)) ≡ store list₀ 0 (slot_numbers (chosen_from p n 0))
    pub size : length list ≡ length list₀

  module _ (list₀ list : Bytes) (found i : ℕ) (f : Filling list₀ list found i) where
    -- how many are listed is at most how many there are
    few : found + length (rest i) ≤ n
    few = omega (arith, f.counted, chosen-few p n 0)

    pub filling-few : found ≤ n
    filling-few = omega (arith, few)

    pub filling-pass : i < n → p i ≡ false → Filling list₀ list found (i + 1)
    filling-pass l e =
        let q : rest i ≡ rest (i + 1) = chosen-pass p n i l e in
        record {
          counted = omega (arith, f.counted, ap length q);
          stored = ap (λ (r : List ℕ). store list (4 * found) (slot_numbers r)) (sym q) ∙ f.stored;
          size = f.size;
        }

    -- the number i is the next
    module _ (room : 4 * n ≤ length list₀) (l : i < n) (e : p i ≡ true) where
      next : rest i ≡ i ∷ rest (i + 1)
      next = chosen-take p n i l e

      one_more : found + suc (length (rest (i + 1))) ≤ n
      one_more = omega (arith, few, ap length next)

      pub filling-room : 4 * found + 4 ≤ length list
      filling-room = omega (arith, one_more, f.size)

      pub filling-take : (list' : Bytes) → list' ≡ set_field list (4 * found) i → Filling list₀ list' (found + 1) (i + 1)
      unfolding set_field slot_numbers
      filling-take list' w =
          let d : length (digits 4 i) ≡ 4 = length_digits 4 i in
          let b = slot_numbers (rest (i + 1)) in
          let at : 4 * (found + 1) ≡ 4 * found + length (digits 4 i) = omega arith in
          let fits : 4 * found + length (digits 4 i) + length b ≤ length list =
          omega (arith, length-numbers (rest (i + 1)), one_more, f.size) in
          record {
            counted = omega (arith, f.counted, ap length next);
            stored =
                ap₂ (λ (x : Bytes) (k : ℕ). store x k b) w at
                ∙ store-append list (4 * found) (digits 4 i) b fits
                ∙ ap (λ (r : List ℕ). store list (4 * found) (slot_numbers r)) (sym next)
                ∙ f.stored;
            size = ap length w ∙ length-store list (4 * found) (digits 4 i) (omega (arith, filling-room)) ∙ f.size;
          }

    pub filling-end : n ≤ i
        → (found ≡ length (chosen_from p n 0)) × (list ≡ store list₀ 0 (slot_numbers (chosen_from p n 0)))
    unfolding slot_numbers
    filling-end l =
        let e : rest i ≡ [] = chosen-end p n i l in (
          omega (arith, f.counted, ap length e),
          sym (store-none list (4 * found)) ∙ ap (λ (r : List ℕ). store list (4 * found) (slot_numbers r)) (sym e)
              ∙ f.stored,
        )
