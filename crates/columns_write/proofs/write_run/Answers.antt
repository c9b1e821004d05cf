-- `columns_write::write_run` meets its contract: a turn places the byte of one record more.
use Rattle.std.proofs.Common.{arith, refl}
use Rattle.law_columns.proofs.Steps.{reached-all, written_one}
use Rattle.columns_write.proofs.write_run.Goals as goal

pub write_byte-requires : goal.write_byte-requires
write_byte-requires c = (c.loop-r.invariant.begun.0.sized, omega arith, omega arith)

pub loop-r-preserved : goal.loop-r-preserved
loop-r-preserved c = written_one _ c.loop-r.invariant (omega arith) refl _ c.write_byte.ensures

pub returns : goal.returns
returns c = reached-all c.loop-r.invariant (omega arith)
