-- `columns_write::write_block` meets its contract: a turn places one byte more of each of the block's records.
use Rattle.std.proofs.Common.{arith}
use Rattle.law_columns.proofs.Steps.{block-done}
use Rattle.columns_write.proofs.write_block.Goals as goal

pub loop-j-init : goal.loop-j-init
loop-j-init c = (c.requires, λ r j p q. absurd (omega arith))

pub returns : goal.returns
returns c = block-done _ c.loop-j.invariant (omega arith)
