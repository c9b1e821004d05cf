-- `bytes_zero::zero`: the bytes so far are zero, and the rest are as they were.
use Rattle.std.proofs.Common.{◌≡◌, ◌++◌, drop, replicate}
use Rattle.bytes_zero.proofs.zero.Given as goal

abbrev pub invariant-loop-b : goal.invariant-loop-b
invariant-loop-b l = l.s ≡ replicate l.b-index 0 ++ drop l.b-index l.initial.s
