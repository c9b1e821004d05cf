-- `columns_read::read_block` meets its contract: a turn places one byte more of each of the block's records.
use Rattle.std.proofs.Common.{arith}
use Rattle.law_columns.proofs.Steps.{block-done}
use Rattle.columns_read.proofs.read_block.Goals as goal

pub returns : goal.returns
returns c = block-done _ c.loop-j.invariant (omega arith)
