-- `header_scramble::numbers::write_numbers` meets its contract.
use Rattle.std.proofs.Common.{arith, take_all}
use Rattle.header_scramble.proofs.Stores.{all-digits-none, number-stored}
use Rattle.header_scramble.proofs.numbers.write_numbers.Goals as goal

pub loop-i-init : goal.loop-i-init
loop-i-init c = all-digits-none c.args.image.now c.args.at

pub loop-i-preserved : goal.loop-i-preserved
loop-i-preserved c = grind (arith, number-stored, c.write_u32.ensures, c.loop-i.invariant)

pub returns : goal.returns
returns c = grind (arith, take_all, c.loop-i.invariant)
