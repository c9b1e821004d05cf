-- `compact_forget::forget` meets its contract. Assumes nothing.
use native.Mathlib.Omega.{arith}
use mathlib.Core.Path.{refl, ap, ◌∙◌}
use borrow.Author.Rules.{rules}
use Rattle.law_file.proofs.Tests.{was-no, was-yes}
use Rattle.table_search.proofs.Headers.{placed-opened}
use Rattle.table_search.specs.Slots.{with_offset}
use Rattle.compact_forget.proofs.forget.Statement.{statement}
use Rattle.compact_forget.proofs.forget.Tie as tie

is-dead-requires : tie.Need-is_dead-requires
is-dead-requires c κs = search rules

same_length : tie.Need-shape_of-image-then-not-is_dead
same_length c = search rules

returns : tie.Need-returns-then-not-is_dead
returns c = rw (was-no c.is_dead.ensures c.if-not-is_dead.true) refl

new-requires : tie.Need-new-requires
new-requires c κs = search rules

set-offset-requires : tie.Need-set_offset-requires
set-offset-requires c κs =
    let S = c in
    (placed-opened S.args.image.now S.args.shape S.requires.0, S.requires.1, omega (arith, c.new.ensures))

same-length-2 : tie.Need-shape_of-image
same-length-2 c = search rules

returns-2 : tie.Need-returns
returns-2 c =
    let P = c in
    let N = c in
    let E = c in
    let A = E.args in
    rw (was-yes E.is_dead.ensures E.if-not-is_dead.false)
    (P.set_offset.ensures ∙ ap (with_offset A.image.now A.i.0) N.new.ensures)

pub forget_spec : {M : Type 1} → statement M
forget_spec =
    tie.close
    (tie.spec
    is-dead-requires
    same_length
    returns
    new-requires
    set-offset-requires
    same-length-2
    returns-2)
