-- Cases of the key walk and of the check; more in crates/spec_cases/proofs/CasesInspected.antt.
--     pair          K = 2, N = 3: slot 0 is empty, with offset bytes; keys 0, 7 and 5, 0 in slots 1 and 2; bytes behind
--     Checked       the verdict on a table of four slots of K = 1 with C points; byte 1 is at home in slot 3
-- Assumes nothing.
use mathlib.Core.Path.{◌≡◌, refl}
use Prim.Native.Nat.{ℕ}
use mathlib.Core.List.{[], ◌∷◌, ◌++◌}
use Rattle.spec_file.specs.Limits.{points_field}
use Rattle.spec_file.specs.Bytes.{Bytes, store}
use Rattle.spec_file.specs.Image.{set_field}
use Rattle.spec_file.specs.Inspect.{stopped, end, key_walk, Verdict, slot_bad, count_bad, check}
use Rattle.spec_file.proofs.CasesBase.{inspect-definitions, headed}

-- ---- the walk

unfoldable pub pair : Bytes
unfolding headed
pair = store (headed 2 3 4096) 2048 (0 ∷ 0 ∷ 0 ∷ 0 ∷ 0 ∷ 9 ∷ 0 ∷ 7 ∷ 0 ∷ 0 ∷ 0 ∷ 0 ∷ 5 ∷ 0 ∷ 0 ∷ 0 ∷ 0 ∷ 0 ∷ 8 ∷ 8 ∷ [])

-- "The walk from slot i shows the lowest taken slot at or above i .. or the end; i ≥ N is the end."
pub walk-stops : key_walk pair 0 ∷ key_walk pair 1 ∷ key_walk pair 2 ∷ key_walk pair 3 ∷ key_walk pair 4 ∷ []
    ≡ stopped 1 ∷ stopped 1 ∷ stopped 2 ∷ end ∷ end ∷ []
unfolding inspect-definitions pair
walk-stops = refl

-- ---- the check

abbrev pub Checked : ℕ → Bytes → Verdict → Type 0
Checked C slots v = check (set_field (store (headed 1 4 4096) 2048 slots) points_field C) ≡ v

abbrev pub no : Bytes
no = 0 ∷ 0 ∷ 0 ∷ 0 ∷ 0 ∷ []

-- a slot with a one-byte key and an offset below 256, where no message is
abbrev pub slot_of : ℕ → ℕ → Bytes
slot_of c o = c ∷ 0 ∷ 0 ∷ 0 ∷ o ∷ []

-- "or, if only C fails, the count": one too many, one too few; the slot where both fail
pub check-count : Checked 1 [] count_bad × Checked 0 (no ++ no ++ no ++ slot_of 1 0) count_bad
    × Checked 1 (slot_of 2 0 ++ no ++ no ++ slot_of 1 0) count_bad × Checked 0 (no ++ slot_of 1 0) (slot_bad 1)
unfolding inspect-definitions headed
check-count = (refl, refl, refl, refl)
