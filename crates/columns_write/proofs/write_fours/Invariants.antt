-- `columns_write::write_fours`: byte j of the first 4 i records from a on stands at its places, and so does all that
-- did before.
use Rattle.std.proofs.Common.{◌+◌, ◌*◌}
use Rattle.spec_columns.specs.Places.{RunTo}
use Rattle.columns_write.proofs.write_fours.Given as goal

abbrev pub invariant-loop-i : goal.invariant-loop-i
invariant-loop-i l = RunTo l.width l.n l.records l.space l.a l.e l.j 1 (l.a + 4 * l.i)
