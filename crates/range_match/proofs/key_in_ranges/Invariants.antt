-- `range_match::key_in_ranges`: the bytes below i lie in their ranges; those before the first that is asked are free.
use Rattle.std.proofs.Common.{ℕ, ◌<◌}
use Rattle.law_range.proofs.Ranges.{LiesAt}
use Rattle.range_match.proofs.key_in_ranges.Given as goal

abbrev pub invariant-loop-i : goal.invariant-loop-i
invariant-loop-i l = (p : ℕ) → p < l.i → LiesAt l.lowest l.highest l.key p
