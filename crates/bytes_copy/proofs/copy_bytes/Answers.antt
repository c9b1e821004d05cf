-- `bytes_copy::copy_bytes` meets its contract: a turn copies one more byte, and behind the last one all are src's.
use Rattle.std.proofs.Common.{arith, refl}
use Rattle.bytes_copy.proofs.Copied.{copied_more, copied_all}
use Rattle.bytes_copy.proofs.copy_bytes.Goals as goal

pub loop-i-init : goal.loop-i-init
loop-i-init c = refl

pub loop-i-preserved : goal.loop-i-preserved
loop-i-preserved c = grind (arith, copied_more, c.loop-i.invariant)

pub returns : goal.returns
returns c = grind (arith, copied_all, c.loop-i.invariant)
