-- `check_order::first_width` meets its contract: a quotient is not above what is divided. Assumes nothing.
use Prim.Native.Nat.{◌+◌, ◌-◌, ◌/◌}
use native.Mathlib.Omega.{arith}
use native.Mathlib.Nat.{div-le_self}
use borrow.Author.Rules.{rules}
use Rattle.check_order.proofs.first_width.Statement.{statement}
use Rattle.check_order.proofs.first_width.Tie as tie

sub-result : tie.Need-overflow_sub-result
sub-result c = search rules

div-result : tie.Need-nonzero_div-result-2
div-result c = search rules

add-result : tie.Need-overflow_add-result
add-result c =
    let S = c in
    omega (arith, div-le_self S.args.points (S.args.room - S.args.room / 8), S.requires.1)

div-result-2 : tie.Need-nonzero_div-result-3
div-result-2 c = search rules

add-result-2 : tie.Need-overflow_add-result-2
add-result-2 c =
    let A = c.args in
    omega (arith, div-le_self A.span (A.points / (A.room - A.room / 8) + 1), c.requires.0)

returns : tie.Need-returns
returns c =
    let A = c.args in
    (omega arith, omega (arith, div-le_self A.span (A.points / (A.room - A.room / 8) + 1), c.requires.0))

pub first_width_spec : {M : Type 1} → statement M
first_width_spec =
    tie.close
    (tie.spec
    sub-result
    div-result
    add-result
    div-result-2
    add-result-2
    returns)
