-- No offset, or the bytes from it on. Assumes nothing.
use native.Mathlib.Omega.{arith}
use mathlib.Core.Path.{◌∙◌}
use borrow.Author.Rules.{rules}
use Rattle.changes_extent.proofs.of_message.Statement.{statement}
use Rattle.changes_extent.proofs.of_message.Tie as tie

at-requires : tie.Need-at-at-requires
at-requires c κs = search rules

at-requires-2 : tie.Need-at-requires
at-requires-2 c κs = search rules

at-requires-3 : tie.Need-at-requires-then-at-eq0
at-requires-3 c κs = search rules

returns : tie.Need-returns-then-at-eq0
returns c = search rules

add-t9 : tie.Need-overflow_add-result
add-t9 c =
    let S = c in
    omega (arith, S.requires (λ z. c.if-at-eq0.false (c.at-at.ensures ∙ z)), c.at-at.ensures)

returns-2 : tie.Need-returns
returns-2 c = search rules

pub of_message_spec : {M : Type 1} → statement M
of_message_spec =
    tie.close
    (tie.spec
    at-requires
    at-requires-2
    at-requires-3
    returns
    add-t9
    returns-2)
