-- `columns_read::read_one` meets its contract: a turn places the byte of one record more.
use Rattle.std.proofs.Common.{arith, refl}
use Rattle.law_columns.proofs.Steps as steps
use Rattle.columns_read.proofs.read_one.Goals as goal

pub loop-r-init : goal.loop-r-init
loop-r-init c = steps.reached-first _ _ _ _ _ _ _ _ c.requires.1 (omega arith)

pub loop-r-preserved : goal.loop-r-preserved
loop-r-preserved c = steps.read_one _ c.loop-r.invariant (omega arith) refl _ c.read_byte.ensures

pub returns : goal.returns
returns c = steps.reached-all c.loop-r.invariant (omega arith)
