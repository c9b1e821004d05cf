-- `bytes_copy::copy_blocks`: the first i bytes are copied.
use Rattle.bytes_copy.specs.Front.{Front}
use Rattle.bytes_copy.proofs.copy_blocks.Given as goal

abbrev pub invariant-loop-i : goal.invariant-loop-i
invariant-loop-i l = Front l.dst l.src l.i
