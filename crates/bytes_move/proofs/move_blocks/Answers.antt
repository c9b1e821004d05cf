-- `bytes_move::move_blocks` meets its contract: each block begins behind what is copied.
use Rattle.std.proofs.Common.{◌+◌, ◌-◌, arith}
use Rattle.bytes_copy.proofs.Moved.{begun-none, begun-less, moved-block}
use Rattle.bytes_move.proofs.move_blocks.Goals as goal

pub loop-i-init : goal.loop-i-init
loop-i-init c = begun-none c.args.s.now c.args.from c.args.to c.args.n

pub loop-i-preserved : goal.loop-i-preserved
loop-i-preserved c =
    let A = c.args in
    let i = c.loop-i.i in
    moved-block A.s.now c.loop-i.s c.move_eight.new.s A.from A.to A.n i i (i + 8)
    c.requires.0 c.loop-i.invariant (omega arith) (omega arith) (omega arith) c.move_eight.ensures

pub returns : goal.returns
returns c =
    let A = c.args in
    begun-less A.s.now c.loop-i.s A.from A.to A.n c.loop-i.i (A.n - 8) c.loop-i.invariant (omega arith)

pub returns-2 : goal.returns-2
returns-2 c =
    let A = c.args in
    let i = c.loop-i.i in
    moved-block A.s.now c.loop-i.s c.move_eight.new.s A.from A.to A.n i i (A.n - 8)
    c.requires.0 c.loop-i.invariant (omega arith) (omega arith) (omega arith) c.move_eight.ensures
