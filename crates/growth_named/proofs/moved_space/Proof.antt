-- By whether it is active. Assumes nothing.
use mathlib.Core.Path.{refl}
use borrow.Author.Rules.{rules}
use Rattle.growth_named.proofs.moved_space.Statement.{statement}
use Rattle.growth_named.proofs.moved_space.Tie as tie

add-result : tie.Need-overflow_add-result
add-result c = search rules

returns : tie.Need-returns-then-active
returns c = rw c.if-active.true refl

returns-2 : tie.Need-returns
returns-2 c = search rules

pub moved_space_spec : {M : Type 1} → statement M
moved_space_spec =
    tie.close
    (tie.spec
    add-result
    returns
    returns-2)
