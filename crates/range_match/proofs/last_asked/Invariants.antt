-- `range_match::last_asked`: the positions from p on are free.
use Rattle.std.proofs.Common.{length}
use Rattle.range_match.specs.Positions.{Free}
use Rattle.range_match.proofs.last_asked.Given as goal

abbrev pub invariant-loop-p : goal.invariant-loop-p
invariant-loop-p l = Free l.lowest l.highest l.p (length l.lowest)
