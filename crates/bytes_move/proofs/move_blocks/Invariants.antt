-- `bytes_move::move_blocks`: the first i bytes are copied.
use Rattle.bytes_copy.specs.Moving.{Moving}
use Rattle.bytes_move.proofs.move_blocks.Given as goal

abbrev pub invariant-loop-i : goal.invariant-loop-i
invariant-loop-i l = Moving l.initial.s l.s l.from l.to l.n l.i
