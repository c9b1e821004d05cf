-- `header_scramble::write_scramble` meets its contract.
use Rattle.std.proofs.Common.{◌≡◌, arith}
use Rattle.header_scramble.proofs.Stores.{drawn-none, state-zero, state-more, drawn-stored}
use Rattle.header_scramble.proofs.write_scramble.Goals as goal

pub loop-i-init : goal.loop-i-init
loop-i-init c = (drawn-none c.args.image.now c.args.seed, state-zero c.args.seed)

pub loop-i-preserved : goal.loop-i-preserved
loop-i-preserved c = grind (arith, state-more, drawn-stored, c.loop-i.invariant)

pub returns : goal.returns
returns c = let e : c.loop-i.i ≡ 95 = omega arith in rw e at c.loop-i.invariant.0
