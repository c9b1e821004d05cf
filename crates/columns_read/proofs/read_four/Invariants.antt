-- `columns_read::read_four`: four bytes, from byte j on, of the records from a up to r stand at their places, and so
-- does all that did before.
use Rattle.spec_columns.specs.Places.{RunTo}
use Rattle.columns_read.proofs.read_four.Given as goal

abbrev pub invariant-loop-r : goal.invariant-loop-r
invariant-loop-r l = RunTo l.width l.n l.out l.stored l.a l.e l.j 4 l.r
