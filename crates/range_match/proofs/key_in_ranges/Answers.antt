-- `range_match::key_in_ranges` meets its contract: a byte outside its range is enough, and the bytes behind the last
-- one that is asked are free.
use Rattle.std.proofs.Common.{arith}
use Rattle.spec_range.specs.Ranges.{byte_in_range}
use Rattle.law_range.proofs.Ranges.{range-facts, lies-key, key-outside}
use Rattle.range_match.proofs.key_in_ranges.Goals as goal

pub returns-then-not-in_range : goal.returns-then-not-in_range
unfolding byte_in_range
returns-then-not-in_range c = grind (arith, key-outside, c.in_range.ensures)

pub loop-i-preserved : goal.loop-i-preserved
loop-i-preserved c = grind (arith, range-facts, c.loop-i.invariant)

pub returns : goal.returns
returns c = grind (arith, lies-key, c.loop-i.invariant, c.type_inv.key, c.requires.0.after)
