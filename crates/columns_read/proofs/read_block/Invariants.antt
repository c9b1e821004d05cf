-- `columns_read::read_block`: the bytes before byte j are placed, of each of the block's records.
use Rattle.spec_columns.specs.Places.{BlockTo}
use Rattle.columns_read.proofs.read_block.Given as goal

abbrev pub invariant-loop-j : goal.invariant-loop-j
invariant-loop-j l = BlockTo l.width l.n l.out l.stored l.a l.e l.j
