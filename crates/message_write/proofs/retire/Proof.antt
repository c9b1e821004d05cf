-- An active message's letter is written; else nothing. Assumes nothing.
use mathlib.Core.Path.{sym, ◌∙◌}
use borrow.Author.Rules.{rules}
use Rattle.message_write.proofs.Placed.{retire-active, retire-other}
use Rattle.message_write.proofs.retire.Statement.{statement}
use Rattle.message_write.proofs.retire.Tie as tie

is-active-requires : tie.Need-is_active-requires
is-active-requires c κs = search rules

at-requires : tie.Need-at-at-requires
at-requires c κs = search rules

slice-write-image : tie.Need-bounds-image-at
slice-write-image c = search rules

same_length : tie.Need-shape_of-image-then-is_active
same_length c = search rules

returns : tie.Need-returns-then-is_active
returns c =
    let S = c in
    retire-active S.args.image.now S.args.o.0 c.at-at.result c.at-at.ensures S.requires
    (sym c.is_active.ensures ∙ c.if-is_active.true)

same-length-2 : tie.Need-shape_of-image-else-is_active
same-length-2 c = search rules

returns-2 : tie.Need-returns-else-is_active
returns-2 c =
    let A = c.args in
    retire-other A.image.now A.o.0 (sym c.is_active.ensures ∙ c.if-is_active.false)

pub retire_spec : {M : Type 1} → statement M
retire_spec =
    tie.close
    (tie.spec
    is-active-requires
    at-requires
    slice-write-image
    same_length
    returns
    same-length-2
    returns-2)
