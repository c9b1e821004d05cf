-- `bytes_compare::zero_few`: the bytes left decide.
use Rattle.std.proofs.Common.{◌≡◌, drop}
use Rattle.spec_file.specs.Bytes.{all_zero}
use Rattle.bytes_compare.proofs.zero_few.Given as goal

abbrev pub invariant-loop-b : goal.invariant-loop-b
invariant-loop-b l = all_zero l.s ≡ all_zero (drop l.b-index l.s)
