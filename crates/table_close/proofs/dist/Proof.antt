-- `table_close::dist` meets its contract: one comparison.
-- Assumes nothing.
use native.Mathlib.Omega.{arith}
use Rattle.law_file.proofs.Cyclic.{dist-up, dist-wrap}
use borrow.Author.Rules.{rules}
use Rattle.table_close.proofs.dist.Statement.{statement}
use Rattle.table_close.proofs.dist.Tie as tie

number-requires : tie.Need-number-from-requires
number-requires c κs = search rules

number-requires-2 : tie.Need-number-to-requires
number-requires-2 c κs = search rules

returns : tie.Need-returns-then-from-to
returns c =
    let A = c.args in
    let from = c.number-from.ensures in
    let to = c.number-to.ensures in
    omega (arith, dist-up A.slots A.a.0 A.b.0 (omega arith))

add-result : tie.Need-overflow_add-result
add-result c = search rules

sub-result : tie.Need-overflow_sub-result-2
sub-result c = search rules

returns-2 : tie.Need-returns
returns-2 c =
    let A = c.args in
    let from = c.number-from.ensures in
    let to = c.number-to.ensures in
    omega (arith, dist-wrap A.slots A.a.0 A.b.0 (omega arith))

pub dist_spec : {M : Type 1} → statement M
dist_spec =
    tie.close
    (tie.spec
    number-requires
    number-requires-2
    returns
    add-result
    sub-result
    returns-2)
