-- `check_sweep::window::next_shown` meets its contract: a turn passes over one slot more.
use Rattle.std.proofs.Common.{◌≡◌, ap, ◌∙◌, arith}
use Rattle.message_stretch.specs.Checked.{start_in, end_in}
use Rattle.table_search.specs.Slots.{offset_in}
use Rattle.message_stretch.proofs.Reading.{start-not}
use Rattle.message_stretch.proofs.Pieces.{piece-none, unseen-on}
use Rattle.check_sweep.proofs.window.next_shown.Goals as goal

pub loop-i-preserved : goal.loop-i-preserved
loop-i-preserved c =
    let A = c.args in
    let img = A.image.now in
    let W = c.requires.0 in
    let i = c.loop-i.i in
    let o : c.at-o.result ≡ offset_in img i = c.at-o.ensures ∙ c.offset_of.ensures ∙ ap (offset_in img) c.new.ensures in
    unseen-on (start_in img) (end_in img) A.lo A.hi A.from i c.loop-i.invariant
    (piece-none (start_in img i) (end_in img i) A.lo A.hi (omega arith)
    (start-not img i A.lo A.hi W.low (λ a b. omega (arith, o, c.if-wrapping_sub_usize-span.false)))
    (λ a b. c.stop_at-stop.ensures.2 i (omega arith) c.loop-i-test.true (W.clear.carries i (omega arith) a b)))
