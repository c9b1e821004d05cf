-- `bytes_words::arith::mul_u32` meets its contract: the halves' products fit, and the sums cut the rest away.
-- Assumes nothing.
use Rattle.std.proofs.Common.{◌/◌, arith, rules}
use lib.Bits.{bit_and, mask_lt}
use Rattle.bytes_words.proofs.Modulo.{halves-bound, mul-halves}
use Rattle.bytes_words.proofs.arith.mul_u32.Statement.{statement}
use Rattle.bytes_words.proofs.arith.mul_u32.Tie as tie

mul-wrapping-add-u32 : tie.Need-overflow_mul-a0
mul-wrapping-add-u32 c =
    let A = c.args in
    record { fits = halves-bound (bit_and A.a 65535) (A.b / 65536) (mask_lt A.a 16) (omega arith) }

mul-wrapping-add-u32-2 : tie.Need-overflow_mul-a1
mul-wrapping-add-u32-2 c =
    let A = c.args in
    record { fits = halves-bound (A.a / 65536) (bit_and A.b 65535) (omega arith) (mask_lt A.b 16) }

wrapping-add-u32-requires : tie.Need-wrapping_add_u32-middle-requires
wrapping-add-u32-requires c κs = search rules

mul-wrapping-add-u32-3 : tie.Need-overflow_mul-a0-2
mul-wrapping-add-u32-3 c =
    let A = c.args in
    record { fits = halves-bound (bit_and A.a 65535) (bit_and A.b 65535) (mask_lt A.a 16) (mask_lt A.b 16) }

wrapping-add-u32-requires-2 : tie.Need-wrapping_add_u32-requires
wrapping-add-u32-requires-2 c κs = search rules

returns : tie.Need-returns
returns c =
    let A = c.args in
    mul-halves A.a A.b c.wrapping_add_u32-middle.result c.wrapping_add_u32.result
    c.wrapping_add_u32-middle.ensures c.wrapping_add_u32.ensures

pub mul_u32_spec : {M : Type 1} → statement M
mul_u32_spec =
    tie.close
    (tie.spec
    mul-wrapping-add-u32
    mul-wrapping-add-u32-2
    wrapping-add-u32-requires
    mul-wrapping-add-u32-3
    wrapping-add-u32-requires-2
    returns)
