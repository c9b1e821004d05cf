-- `range_match::first_asked`: the positions below `first` are free.
use Rattle.range_match.specs.Positions.{Free}
use Rattle.range_match.proofs.first_asked.Given as goal

abbrev pub invariant-loop-first : goal.invariant-loop-first
invariant-loop-first l = Free l.lowest l.highest 0 l.first
