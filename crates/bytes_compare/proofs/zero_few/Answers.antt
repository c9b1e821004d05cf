-- `bytes_compare::zero_few` meets its contract: a zero leaves the rest to decide, another byte ends it.
use Rattle.std.proofs.Common.{arith, refl}
use Rattle.bytes_compare.proofs.Compare.{all_zero-step, all_zero-other, all_zero-end}
use Rattle.bytes_compare.proofs.zero_few.Goals as goal

pub loop-b-init : goal.loop-b-init
loop-b-init c = refl

pub returns-then-b-ne0 : goal.returns-then-b-ne0
returns-then-b-ne0 c = grind (arith, all_zero-other, c.loop-b.invariant)

pub loop-b-preserved : goal.loop-b-preserved
loop-b-preserved c = grind (arith, all_zero-step, c.loop-b.invariant)

pub returns : goal.returns
returns c = grind (arith, all_zero-end, c.loop-b.invariant)
