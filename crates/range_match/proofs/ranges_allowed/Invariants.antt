-- `range_match::ranges_allowed`: no lowest byte below i is above its highest.
use Rattle.std.proofs.Common.{ℕ, ◌<◌, ◌≤◌, get_or}
use Rattle.range_match.proofs.ranges_allowed.Given as goal

abbrev pub invariant-loop-i : goal.invariant-loop-i
invariant-loop-i l = (p : ℕ) → p < l.i → get_or l.lowest p 0 ≤ get_or l.highest p 0
