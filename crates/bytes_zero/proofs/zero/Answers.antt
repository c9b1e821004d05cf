-- `bytes_zero::zero` meets its contract: a turn makes one more byte zero, and behind the last one all are.
use Rattle.std.proofs.Common.{arith, refl}
use Rattle.std.proofs.lemmas.List.Edits.{fill_more}
use Rattle.bytes_zero.proofs.Cleared.{zeroed-all}
use Rattle.bytes_zero.proofs.zero.Goals as goal

pub loop-b-init : goal.loop-b-init
loop-b-init c = refl

pub loop-b-preserved : goal.loop-b-preserved
loop-b-preserved c = grind (arith, fill_more, c.loop-b.invariant)

pub returns : goal.returns
returns c = grind (arith, zeroed-all, c.loop-b.invariant)
