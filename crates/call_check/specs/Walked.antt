-- Walking a table: from a slot on, each time from one past the last slot shown, until the end.
--     walked steps g img i      the slots that so many steps show, in the order in which they are shown
--     taken_list g img left i    the taken slots among those that are left from i on, in rising order, each once
-- Assumes nothing.
use Rattle.std.specs.Prelude.{ℕ, zero, suc, cond, List, [], ◌∷◌}
use Rattle.std.proofs.Math.Option.{Option, none, some}
use Rattle.spec_file.specs.Bytes.{Bytes}
use Rattle.spec_file.specs.Image.{Layout}
use Rattle.spec_file.specs.Inspect.{taken, next_taken}

-- a slot shown, and what comes after it; nothing at the end
unfoldable pub shown_then : Option ℕ → (ℕ → List ℕ) → List ℕ
shown_then none more = []
shown_then (some j) more = j ∷ more j

unfoldable pub walked : ℕ → Layout → Bytes → ℕ → List ℕ
walked zero g img i = []
walked (suc steps) g img i = shown_then (next_taken g img i) (λ j. walked steps g img (suc j))

unfoldable pub taken_list : Layout → Bytes → ℕ → ℕ → List ℕ
taken_list g img zero i = []
taken_list g img (suc left) i = cond (taken g img i) (i ∷ taken_list g img left (suc i)) (taken_list g img left (suc i))
