-- The check's first pass: entries that fail by their search or by question 11.
--     entry_fails g img i      slot i is taken and fails so
--     EntriesPassed g img slots bound count      bound is the lowest such slot, or the number of slots, of which then
--                                                count are taken
-- Assumes nothing.
use Rattle.std.specs.Prelude.{◌≡◌, ℕ, Bool, not, ◌&&◌}
use Rattle.spec_file.specs.Bytes.{Bytes}
use Rattle.spec_file.specs.Image.{Layout}
use Rattle.spec_file.specs.Inspect.{lowest, taken, taken_from, entry_sound}
use Rattle.message_stretch.specs.Stretches.{number_or}

unfoldable pub entry_fails : Layout → Bytes → ℕ → Bool
entry_fails g img i = taken g img i && not (entry_sound g img i)

pub record EntriesPassed (g : Layout) (img : Bytes) (slots bound count : ℕ) : Type 0 where
  pub lowest-is : bound ≡ number_or slots (lowest (entry_fails g img) slots 0)
  pub counts : bound ≡ slots → count ≡ taken_from g img slots 0
