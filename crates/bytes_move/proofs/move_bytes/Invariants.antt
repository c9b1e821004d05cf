-- `bytes_move::move_bytes`: i bytes are copied, and the others are as they were.
use Rattle.std.proofs.Common.{◌≡◌, drop}
use Rattle.std.proofs.Math.Seq.{paste}
use Rattle.bytes_move.proofs.move_bytes.Given as goal

abbrev pub invariant-loop-i : goal.invariant-loop-i
invariant-loop-i l = l.s ≡ paste l.initial.s l.to (drop l.from l.initial.s) l.i
