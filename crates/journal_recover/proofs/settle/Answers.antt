-- `journal_recover::settle` meets its contract: turn k does write k, a stretch or, behind the last, the mark.
use Rattle.std.proofs.Common.{arith, ◌+◌}
use Rattle.law_file.proofs.Tests.{by_le}
use Rattle.journal_recover.proofs.Reading.{sound-start}
use Rattle.journal_recover.proofs.Going.{going_start, going-reads, going_more, going-last}
use Rattle.journal_recover.proofs.settle.Goals as goal

pub overflow_mul-from : goal.overflow_mul-from
overflow_mul-from c = omega (arith, sound-start _ _ c.requires.0)

pub overflow_add-from : goal.overflow_add-from
overflow_add-from c = omega (arith, sound-start _ _ c.requires.0)

pub loop-k-init : goal.loop-k-init
loop-k-init c = rw c.requires.1 (going_start _ _ _ c.requires.0)

pub write_one-from-requires : goal.write_one-from-requires
write_one-from-requires c = (
  omega (arith, sound-start _ _ c.requires.0),
  λ h. going-reads _ _ c.requires.0 _ _ _ _ _ c.loop-k.invariant (omega arith),
)

pub loop-k-preserved : goal.loop-k-preserved
loop-k-preserved c =
    let w = c.write_one-from in
    by_le (c.loop-k.k + 1) c.args.pairs
    (λ h. going_more _ _ c.requires.0 _ _ _ _ _ c.loop-k.invariant (omega arith) _ c.requires.1 (omega arith)
    _ _ _ w.ensures.0 (w.ensures.1 (omega arith)) w.auto.image w.auto.journal)
    (λ h. going-last _ _ c.requires.0 _ _ _ _ _ c.loop-k.invariant (omega arith) _ c.requires.1 (omega arith)
    _ _ _ w.ensures.0 w.auto.image w.auto.journal)
