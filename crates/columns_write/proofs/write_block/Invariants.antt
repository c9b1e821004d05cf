-- `columns_write::write_block`: the first j bytes of the block's records are placed.
use Rattle.spec_columns.specs.Places.{BlockTo}
use Rattle.columns_write.proofs.write_block.Given as goal

abbrev pub invariant-loop-j : goal.invariant-loop-j
invariant-loop-j l = BlockTo l.width l.n l.records l.space l.a l.e l.j
