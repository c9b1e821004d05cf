-- One comparison, of bytes counted from the lowest on. Assumes nothing.
use Rattle.std.proofs.Common.{arith, rules}
use Rattle.range_match.proofs.Asking.{one-test}
use Rattle.range_match.proofs.in_range.Statement.{statement}
use Rattle.range_match.proofs.in_range.Tie as tie

wrapping-sub-u8-requires : tie.Need-wrapping_sub_u8-requires
wrapping-sub-u8-requires c κs = search rules

sub-result : tie.Need-overflow_sub-result
sub-result c = search rules

returns : tie.Need-returns
returns c =
    let S = c in
    let A = S.args in
    one-test A.lowest A.highest A.byte c.wrapping_sub_u8.result S.requires (omega arith) (omega arith)
    c.wrapping_sub_u8.ensures

pub in_range_spec : {M : Type 1} → statement M
in_range_spec =
    tie.close
    (tie.spec
    wrapping-sub-u8-requires
    sub-result
    returns)
