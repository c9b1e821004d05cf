-- `lister_rows::put_lines` meets its contract: a turn puts the line of one slot, if it has one.
use Rattle.std.proofs.Common.{◌+◌, ◌≤◌, length, ap, arith}
use Rattle.spec_file.specs.Image.{layout_of}
use Rattle.lister_rows.specs.Listed.{row}
use Rattle.lister_text.proofs.Putting.{put_same, rest-start, rest_put, rest-room, rest_end}
use Rattle.lister_rows.proofs.Rows.{lines_start, lines_step, lines_end}
use Rattle.lister_rows.proofs.put_lines.Goals as goal

pub loop-i-init : goal.loop-i-init
loop-i-init c = rest-start _ _ _ _ (lines_start _ _ _)

pub put_row-end-requires : goal.put_row-end-requires
put_row-end-requires c =
    let img = c.args.image.now in
    let g = layout_of img in
    let i = c.loop-i.i in
    let room : c.loop-i.end + length (row g img i) ≤ length c.loop-i.out =
    rest-room (row g img i) _ c.loop-i.invariant (lines_step g img _ i c.loop-i-test.true) c.requires.1 in
    (c.requires.0, omega arith, omega (arith, room, ap (λ k. length (row g img k)) c.new.ensures))

pub loop-i-preserved : goal.loop-i-preserved
loop-i-preserved c =
    rest_put c.loop-i.invariant (lines_step _ _ _ _ c.loop-i-test.true)
    (put_same (ap (row (layout_of c.args.image.now) c.args.image.now) c.new.ensures) c.put_row-end.ensures) c.requires.1

pub returns : goal.returns
returns c =
    rest_end c.loop-i.invariant
    (lines_end (layout_of c.args.image.now) c.args.image.now c.args.shape.slots c.loop-i.i c.loop-i-test.false)
