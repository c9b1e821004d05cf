-- `columns_write::write_run`: byte j of the records from a up to r stands at its places, and so does all that did
-- before.
use Rattle.spec_columns.specs.Places.{RunTo}
use Rattle.columns_write.proofs.write_run.Given as goal

abbrev pub invariant-loop-r : goal.invariant-loop-r
invariant-loop-r l = RunTo l.width l.n l.records l.space l.a l.e l.j 1 l.r
