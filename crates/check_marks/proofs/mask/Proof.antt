-- `check_marks::mask` meets its contract. Assumes nothing.
use native.Mathlib.Omega.{arith}
use borrow.Author.Rules.{rules}
use Rattle.check_marks.proofs.Bits.{mask-shifted}
use Rattle.check_marks.proofs.mask.Statement.{statement}
use Rattle.check_marks.proofs.mask.Tie as tie

sub-result : tie.Need-overflow_sub-result
sub-result c = search rules

sub-result-2 : tie.Need-overflow_sub-result-2
sub-result-2 c = search rules

shr-result : tie.Need-overflow_shr-result
shr-result c = search rules

shl-result : tie.Need-overflow_shl-result
shl-result c = search rules

returns : tie.Need-returns
returns c = mask-shifted c.args.low c.args.high (omega arith) c.requires.1

pub mask_spec : {M : Type 1} → statement M
mask_spec =
    tie.close
    (tie.spec
    sub-result
    sub-result-2
    shr-result
    shl-result
    returns)
