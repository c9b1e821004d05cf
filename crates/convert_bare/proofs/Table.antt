-- The target's table, slot by slot: each slot is the source's key without an offset.
--     length-key, length-bare_slot      a slot's key, and a slot
--     bare-slot          also where the slot is empty, for its key is zero
--     length-bare_slots   so many slots have so many bytes
--     keys_on            the slots from i on stored: the first of them, and then those behind it
--     keys_none          behind the last slot
-- Assumes nothing.
use mathlib.Core.Path.{◌≡◌, refl, sym, ap, ◌∙◌}
use Prim.Native.Nat.{ℕ, zero, suc, ◌+◌, ◌-◌, ◌*◌, ◌≤◌, ◌<◌}
use native.Mathlib.Nat.{add-mul, suc-mul}
use native.Mathlib.Omega.{arith}
use mathlib.Core.Bool.{true}
use mathlib.Core.List.{◌++◌}
use lib.ListN.{length, length-append, replicate-append-replicate}
use Rattle.spec_file.specs.Bytes.{Bytes, store, digits, zeros}
use Rattle.spec_file.specs.Image.{Layout, slot_size, slot_start, slot, key_of, slot_bytes, blank, vacant}
use Rattle.spec_file.specs.Inspect.{taken}
use Rattle.law_file.proofs.Tests.{by_bool}
use Rattle.law_file.proofs.Bytes.{all_zero-zeros-eq}
use Rattle.law_file.proofs.Slots.{Room, length-slot, length-key_of, length-entry}
use Rattle.law_file.proofs.Stores.{store-none, store-append}
use Rattle.spec_conversion.specs.Convert.{bare_slot, bare_slots}

module _ (g : Layout) (img : Bytes) (r : Room g (length img)) where
  pub length-key : (i : ℕ) → i < g.N → length (key_of g (slot g img i)) ≡ g.K
  length-key i l = length-key_of g (slot g img i) (length-slot g img r i l)

  zero-entry : (i : ℕ) → i < g.N → vacant g (slot g img i) ≡ true → slot_bytes (key_of g (slot g img i)) 0 ≡ blank g
  unfolding vacant slot_bytes blank slot_size zeros digits
  zero-entry i l v =
      ap (λ (k : Bytes). k ++ digits 4 0)
      (all_zero-zeros-eq (key_of g (slot g img i)) v ∙ ap zeros (length-key i l))
      ∙ replicate-append-replicate g.K 4 0

  pub bare-slot : (i : ℕ) → i < g.N → slot_bytes (key_of g (slot g img i)) 0 ≡ bare_slot g img i
  unfolding bare_slot taken
  bare-slot i l =
      by_bool (vacant g (slot g img i)) (λ v. zero-entry i l v ∙ sym (rw v refl)) (λ v. sym (rw v refl))

  pub length-bare_slot : (i : ℕ) → i < g.N → length (bare_slot g img i) ≡ slot_size g
  length-bare_slot i l =
      ap length (sym (bare-slot i l)) ∙ length-entry g (key_of g (slot g img i)) 0 (length-key i l)

  pub length-bare_slots : (left i : ℕ) → i + left ≤ g.N → length (bare_slots g img left i) ≡ left * slot_size g
  unfolding bare_slots
  length-bare_slots zero i l = omega arith
  length-bare_slots (suc left) i l =
      let ih : length (bare_slots g img left (suc i)) ≡ left * slot_size g =
      length-bare_slots left (suc i) (omega arith) in
      length-append (bare_slot g img i) (bare_slots g img left (suc i))
      ∙ omega (arith, length-bare_slot i (omega arith), ih, suc-mul left (slot_size g))

  -- of the slots from i on, slot i is stored and those behind it are to come
  pub keys_on : (t : Bytes) (i : ℕ) → i < g.N → g.D ≤ length t
      → store (store t (slot_start g i) (bare_slot g img i)) (slot_start g (i + 1))
      (bare_slots g img (g.N - (i + 1)) (i + 1))
      ≡ store t (slot_start g i) (bare_slots g img (g.N - i) i)
  unfolding slot_start bare_slots
  keys_on t i l d =
      let n = g.N in
      let v = bare_slot g img i in
      let w = bare_slots g img (n - (i + 1)) (i + 1) in
      let at : slot_start g (i + 1) ≡ slot_start g i + length v =
      omega (arith, length-bare_slot i l, suc-mul i (slot_size g)) in
      let size : length w ≡ (n - (i + 1)) * slot_size g = length-bare_slots (n - (i + 1)) (i + 1) (omega arith) in
      let n₁ : n ≡ suc i + (n - (i + 1)) = omega arith in
      let all : n * slot_size g ≡ suc i * slot_size g + (n - (i + 1)) * slot_size g =
      ap (λ (k : ℕ). k * slot_size g) n₁ ∙ add-mul (suc i) (n - (i + 1)) (slot_size g) in
      let left : n - i ≡ suc (n - (i + 1)) = omega arith in
      let next : suc i ≡ i + 1 = omega arith in
      ap (λ (p : ℕ). store (store t (slot_start g i) v) p w) at
      ∙ store-append t (slot_start g i) v w
      (omega (arith, length-bare_slot i l, size, all, suc-mul i (slot_size g), r.table, d))
      ∙ sym (ap (λ (k : ℕ). store t (slot_start g i) (bare_slots g img k i)) left
      ∙ ap (λ (j : ℕ). store t (slot_start g i) (v ++ bare_slots g img (n - (i + 1)) j)) next)

  pub keys_none : (t : Bytes) (p n i : ℕ) → n ≤ i → store t p (bare_slots g img (n - i) i) ≡ t
  unfolding bare_slots
  keys_none t p n i l =
      let e : n - i ≡ 0 = omega arith in
      ap (λ (k : ℕ). store t p (bare_slots g img k i)) e ∙ store-none t p
