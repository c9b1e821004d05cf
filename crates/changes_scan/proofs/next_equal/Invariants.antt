-- `changes_scan::next_equal`: all bytes from `from` on, below i, are different.
use Prim.Native.Nat.{ℕ, ◌≤◌, ◌<◌}
use Rattle.changes_windows.specs.Scans.{Differ}
use Rattle.changes_scan.proofs.next_equal.Given as goal

abbrev pub invariant-loop-i : goal.invariant-loop-i
invariant-loop-i l = (j : ℕ) → l.from ≤ j → j < l.i → Differ l.old l.new j
