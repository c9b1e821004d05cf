-- D by its formula: the product is small, since K and N are.
-- Assumes nothing.
use Rattle.std.proofs.Common.{ℕ, ◌+◌, ◌*◌, ◌≤◌, refl, mul-le-mul, arith, rules}
use Rattle.spec_file.specs.Image.{round_up, data_start}
use Rattle.header_sizes.proofs.data_start.Statement.{statement}
use Rattle.header_sizes.proofs.data_start.Tie as tie

product : (K N : ℕ) → K ≤ 32 → N ≤ 1048576 → N * (K + 4) ≤ 1048576 * 36
product K N h_k h_n = let four : K + 4 ≤ 36 = omega arith in mul-le-mul h_n four

add-result : tie.Need-overflow_add-result
add-result c = search rules

mul-result : tie.Need-overflow_mul-result
mul-result c = omega (arith, product c.args.key c.args.slots c.requires.0 c.requires.1)

add-result-2 : tie.Need-overflow_add-result-2
add-result-2 c = omega (arith, product c.args.key c.args.slots c.requires.0 c.requires.1)

add-result-3 : tie.Need-overflow_add-result-3
add-result-3 c = omega (arith, product c.args.key c.args.slots c.requires.0 c.requires.1)

mul-result-2 : tie.Need-overflow_mul-result-2
mul-result-2 c = omega (arith, product c.args.key c.args.slots c.requires.0 c.requires.1)

returns : tie.Need-returns
unfolding data_start round_up
returns c = refl

pub data_start_spec : {M : Type 1} → statement M
data_start_spec =
    tie.close
    (tie.spec
    add-result
    mul-result
    add-result-2
    add-result-3
    mul-result-2
    returns)
