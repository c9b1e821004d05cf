-- The walk's answer in code, as the specification's; and the slot that it names (0 where there is none).
-- Assumes nothing.
use Rattle.std.specs.Prelude.{ℕ}
use Rattle.spec_file.specs.Inspect.{Stop, refused, stopped, end}
use Rattle.call_walk.specs.declared.Stop as code
use Rattle.call_walk.specs.declared.Stop.TheVariants.{Refused, At, End}

unfoldable pub stop_of : code.Stop → Stop
stop_of (Refused n) = Stop.refused n
stop_of (At i) = stopped i.0
stop_of End = end

unfoldable pub stop_slot : Stop → ℕ
stop_slot (refused n) = 0
stop_slot (stopped i) = i
stop_slot end = 0
