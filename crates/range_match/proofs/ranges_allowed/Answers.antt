-- `range_match::ranges_allowed` meets its contract: both lengths, and no lowest byte above its highest.
use Rattle.std.proofs.Common.{sym, arith}
use Rattle.law_range.proofs.Ranges.{paired-allowed, not-paired}
use Rattle.range_match.proofs.ranges_allowed.Goals as goal

pub returns-then-lowest-size : goal.returns-then-lowest-size
returns-then-lowest-size c = sym (not-paired _ _ _ (λ f. c.if-lowest-size.true f.lowest-length))

pub returns-then-highest-size : goal.returns-then-highest-size
returns-then-highest-size c = sym (not-paired _ _ _ (λ f. c.if-highest-size.true f.highest-length))

pub returns-then-highest-i : goal.returns-then-highest-i
returns-then-highest-i c =
    sym (not-paired _ _ _ (λ f. omega (arith, f.ordered c.loop-i.i c.loop-i-test.true)))

pub returns : goal.returns
returns c =
    sym
    (paired-allowed _ _ _
    (record {
      lowest-length = c.if-lowest-size.false;
      highest-length = c.if-highest-size.false;
      ordered = λ p l. c.loop-i.invariant p (omega arith);
    }))
