-- The lowest slot that meets a lower-numbered one, as a number.
--     number_or n o      the number, or n where there is none
--     first_meeting g img bound      the lowest slot below the bound whose stretch meets that of a lower-numbered one
-- Assumes nothing.
use Rattle.std.specs.Prelude.{ℕ}
use Rattle.std.proofs.Math.Option.{Option, none, some}
use Rattle.spec_file.specs.Bytes.{Bytes}
use Rattle.spec_file.specs.Image.{Layout}
use Rattle.spec_file.specs.Inspect.{lowest, meets_lower}

unfoldable pub number_or : ℕ → Option ℕ → ℕ
number_or n none = n
number_or n (some i) = i

-- the bound where there is none
unfoldable pub first_meeting : Layout → Bytes → ℕ → ℕ
first_meeting g img bound = number_or bound (lowest (meets_lower g img) bound 0)
