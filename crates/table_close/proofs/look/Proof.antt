-- `table_close::look` meets its contract: the test, and the move where it fails.
-- Assumes nothing.
use native.Mathlib.Omega.{arith}
use mathlib.Core.Path.{sym, ◌∙◌}
use Rattle.spec_file.specs.Image.{layout_of}
use Rattle.law_file.proofs.Probe.{home-lt}
use Rattle.table_search.specs.Slots.{key_in}
use Rattle.table_search.proofs.Headers.{header, layout-slots}
use Rattle.table_close.proofs.Walking.{stays-code, looked-stays, looked-moves}
use borrow.Author.Rules.{rules}
use Rattle.table_close.proofs.look.Statement.{statement}
use Rattle.table_close.proofs.look.Tie as tie

home-of-requires : tie.Need-home_of-requires
home-of-requires c κs = search rules

stays-requires : tie.Need-stays-requires
stays-requires c κs =
    let S = c in
    let s = S.args.shape in
    let img = S.args.image.now in
    let b = header img s S.requires.0 in
    let n = layout-slots img s S.requires.0.shape in
    omega (arith, c.home_of.ensures, home-lt (layout_of img) (key_in img S.args.j.0) (omega arith))

same_length : tie.Need-shape_of-image-then-stays
same_length c = search rules

returns : tie.Need-returns-then-stays
returns c =
    let S = c in
    let img = S.args.image.now in
    let s = S.args.shape in
    let e = looked-stays (layout_of img) img S.args.hole.0 S.args.j.0
    (sym (stays-code img s S.requires.0.shape S.args.hole.0 S.args.j.0 _
    c.home_of.ensures)
    ∙ sym c.stays.ensures ∙ c.if-stays.true) in
    record { hole-is = sym e.0; image-is = sym e.1 }

move-slot-requires : tie.Need-move_slot-requires
move-slot-requires c κs = search rules

same-length-2 : tie.Need-shape_of-image
same-length-2 c = search rules

abbrev else1-at-slice-known2 : tie.After-slice_known-2-1 → tie.Else-stays
else1-at-slice-known2 c = c.before.before.before.before

returns-2 : tie.Need-returns
returns-2 c =
    let E = else1-at-slice-known2 c in
    let S = E in
    let img = S.args.image.now in
    let s = S.args.shape in
    let e = looked-moves (layout_of img) img S.args.hole.0 S.args.j.0
    (sym (stays-code img s S.requires.0.shape S.args.hole.0 S.args.j.0 _
    E.home_of.ensures)
    ∙ sym E.stays.ensures ∙ E.if-stays.false) in
    record { hole-is = sym e.0; image-is = c.move_slot.ensures ∙ sym e.1 }

pub look_spec : {M : Type 1} → statement M
look_spec =
    tie.close
    (tie.spec
    home-of-requires
    stays-requires
    same_length
    returns
    move-slot-requires
    same-length-2
    returns-2)
