-- The check's answer in code, as the specification's. Assumes nothing.
use Rattle.spec_file.specs.Inspect.{Verdict, sound, slot_bad, count_bad}
use Rattle.call_check.specs.declared.Verdict as code
use Rattle.call_check.specs.declared.Verdict.TheVariants.{Refused, Sound, SlotFails, CountFails}

unfoldable pub verdict_in : code.Verdict → Verdict
verdict_in (Refused n) = Verdict.refused n
verdict_in Sound = sound
verdict_in (SlotFails i) = slot_bad i.0
verdict_in CountFails = count_bad
