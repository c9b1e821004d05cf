-- `bytes_copy::copy_blocks` meets its contract: each block begins behind what is copied.
use Rattle.std.proofs.Common.{◌+◌, ◌-◌, length, arith}
use Rattle.bytes_copy.proofs.Blocks.{none_yet, copied-less, copied-block}
use Rattle.bytes_copy.proofs.copy_blocks.Goals as goal

pub loop-i-init : goal.loop-i-init
loop-i-init c = none_yet c.args.dst.now c.args.src.now c.requires.0

pub loop-i-preserved : goal.loop-i-preserved
loop-i-preserved c =
    copied-block c.loop-i.dst c.args.src.now c.copy_eight.new.dst c.loop-i.i c.loop-i.i (c.loop-i.i + 8)
    c.loop-i.invariant (omega arith) (omega arith) (omega arith) c.copy_eight.ensures

pub returns : goal.returns
returns c =
    let s = c.args.src.now in
    copied-less c.loop-i.dst s c.loop-i.i (length s - 8) c.loop-i.invariant (omega arith)

pub returns-2 : goal.returns-2
returns-2 c =
    let s = c.args.src.now in
    copied-block c.loop-i.dst s c.copy_eight.new.dst c.loop-i.i c.loop-i.i (length s - 8)
    c.loop-i.invariant (omega arith) (omega arith) (omega arith) c.copy_eight.ensures
