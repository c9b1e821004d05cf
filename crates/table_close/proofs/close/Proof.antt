-- `table_close::close` meets its contract: from every slot looked at, the walk goes on as from the start; its measure
-- is `left`, which falls with every look, so that it ends for any bytes. Assumes nothing.
use native.Mathlib.Omega.{arith}
use Rattle.law_file.proofs.Tests.{was-no, was-yes}
use mathlib.Core.Path.{◌∙◌}
use Rattle.spec_file.specs.Image.{layout_of}
use Rattle.law_file.proofs.Closing.{left}
use Rattle.table_search.proofs.Headers.{placed-opened}
use Rattle.table_close.proofs.Walking.{Walking, After, walking-slots, walking-other, walking-turn, walking-end, walking_start, walking-closed}
use Rattle.table_close.proofs.close.Statement.{statement}
use Rattle.table_close.proofs.close.Tie as tie

abbrev invariant-loop : tie.invariant-loop-shape
invariant-loop image₀ shape slots gap₀ j₀ image gap j = Walking image₀ shape gap₀.0 j₀.0 image gap.0 j.0

abbrev decreases-loop : tie.decreases-loop-shape
decreases-loop image₀ shape slots gap₀ j₀ image gap j = left (layout_of image₀) image gap.0 j.0

clear-slot-requires : tie.Need-clear_slot-requires invariant-loop decreases-loop
clear-slot-requires c κs =
    let S = c in
    let img = S.args.image.now in
    let s = S.args.shape in
    (placed-opened img s S.requires.0, S.requires.1)

next-requires : tie.Need-next-j-requires invariant-loop decreases-loop
next-requires c κs = c.requires.1

loop-holds : tie.Need-loop-shape-init invariant-loop decreases-loop
loop-holds c =
    let S = c in
    let img = S.args.image.now in
    let s = S.args.shape in
    walking_start img s S.requires.0 S.args.hole.0 S.requires.1 _ _
    c.clear_slot.ensures c.next-j.ensures

is-vacant-requires : tie.Need-is_vacant-requires invariant-loop decreases-loop
is-vacant-requires c κs =
    let w = c.loop-shape.invariant in
    (w.opened, omega (arith, walking-slots w, w.going.slot_lt))

look-requires : tie.Need-look-gap-requires invariant-loop decreases-loop
look-requires c κs =
    let w = c.loop-shape.invariant in
    let n = walking-slots w in (
      w.opened,
      record {
        hole-lt = omega (arith, w.going.hole-lt);
        slot_lt = omega (arith, w.going.slot_lt);
        other = walking-other w (was-no c.is_vacant.ensures c.loop-shape-test.true);
      },
    )

next-requires-2 : tie.Need-next-j-requires-in-loop-shape invariant-loop decreases-loop
next-requires-2 c κs =
    let w = c.loop-shape.invariant in
    omega (arith, walking-slots w, w.going.slot_lt)

abbrev then1-at-next2 : tie.After-next-j-in-loop-shape invariant-loop decreases-loop → tie.In-loop-shape invariant-loop decreases-loop
then1-at-next2 c = c.before.before.before.before.before

-- a turn: the state at its end, and the measure
turn : (c : tie.After-next-j-in-loop-shape invariant-loop decreases-loop)
    → After (then1-at-next2 c).loop-shape.invariant c.look-gap.new.image
    c.look-gap.result.0 c.next-j-in-loop-shape.result.0
turn c =
    let T = then1-at-next2 c in
    let looked = c.look-gap in
    walking-turn T.loop-shape.invariant _ _ _
    (was-no T.is_vacant.ensures T.loop-shape-test.true) looked.ensures.image-is looked.ensures.hole-is
    c.next-j-in-loop-shape.ensures

loop-less : tie.Need-loop-shape-smaller invariant-loop decreases-loop
loop-less c = (turn c).1

loop-again : tie.Need-loop-shape-preserved invariant-loop decreases-loop
loop-again c = (turn c).0

same_length : tie.Need-shape_of-image invariant-loop decreases-loop
same_length c =
    let L = c in
    L.loop-shape.invariant.head.size ∙ L.clear_slot.auto.image

returns : tie.Need-returns invariant-loop decreases-loop
returns c =
    let L = c in
    let S = c in
    let img = S.args.image.now in
    let s = S.args.shape in
    walking-end L.loop-shape.invariant (was-yes c.is_vacant.ensures c.loop-shape-test.false)
    ∙ walking-closed img s S.requires.0 S.args.hole.0 S.requires.1 _ _
    L.clear_slot.ensures L.next-j.ensures

pub close_spec : {M : Type 1} → statement M
close_spec =
    tie.close
    (tie.spec
    invariant-loop
    decreases-loop
    clear-slot-requires
    next-requires
    loop-holds
    is-vacant-requires
    look-requires
    next-requires-2
    loop-less
    loop-again
    same_length
    returns)
