-- `changes_scan::next_difference`: all bytes from `from` on, below i, are equal.
use Prim.Native.Nat.{ℕ, ◌≤◌, ◌<◌}
use Rattle.std.proofs.Common.{◌≡◌}
use lib.ListN.{get_or}
use Rattle.changes_scan.proofs.next_difference.Given as goal

abbrev pub invariant-loop-i : goal.invariant-loop-i
invariant-loop-i l = (j : ℕ) → l.from ≤ j → j < l.i → get_or l.old j 0 ≡ get_or l.new j 0
