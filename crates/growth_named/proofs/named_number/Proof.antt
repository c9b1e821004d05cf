-- The move's number, then the call's own. Assumes nothing.
use mathlib.Core.Path.{◌≡◌, sym, ◌∙◌}
use Rattle.growth_named.proofs.Naming.{points-refused, points-own}
use borrow.Author.Rules.{rules}
use Rattle.growth_named.proofs.named_number.Statement.{statement}
use Rattle.growth_named.proofs.named_number.Tie as tie

move-number-requires : tie.Need-move_number-number-requires
move-number-requires c κs = search rules

returns : tie.Need-returns-then-number-ne0
returns c =
    let S = c in
    let A = S.args in
    points-refused A.old.now A.new.now A.key.now A.m A.mode A.slot.0 S.requires.1
    c.move_number-number.result c.move_number-number.ensures c.if-number-ne0.true

foreseen-number-requires : tie.Need-foreseen_number-requires
foreseen-number-requires c κs =
    let S = c in
    (S.requires.0, sym c.move_number-number.ensures ∙ c.if-number-ne0.false, S.requires.2, S.requires.3)

returns-2 : tie.Need-returns
returns-2 c =
    let S = c in
    let A = S.args in
    points-own A.old.now A.new.now A.key.now A.m A.mode A.slot.0 S.requires.1
    (sym c.move_number-number.ensures ∙ c.if-number-ne0.false) c.foreseen_number.result
    c.foreseen_number.ensures

pub named_number_spec : {M : Type 1} → statement M
named_number_spec =
    tie.close
    (tie.spec
    move-number-requires
    returns
    foreseen-number-requires
    returns-2)
