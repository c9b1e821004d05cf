-- The check's verdict as the C host sees it: 0 sound, 1 the slot fails, 2 the count fails; and the slot, 0 but for
-- verdict 1. Assumes nothing.
use Rattle.std.specs.Prelude.{ℕ}
use Rattle.spec_file.specs.Inspect.{Verdict, refused, sound, slot_bad, count_bad}

unfoldable pub verdict_code : Verdict → ℕ
verdict_code (Verdict.refused n) = 0
verdict_code sound = 0
verdict_code (slot_bad i) = 1
verdict_code count_bad = 2

unfoldable pub verdict_slot : Verdict → ℕ
verdict_slot (Verdict.refused n) = 0
verdict_slot sound = 0
verdict_slot (slot_bad i) = i
verdict_slot count_bad = 0
