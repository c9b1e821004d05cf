-- `journal_recover::settle`: before turn k the first k writes are done.
use Rattle.journal_recover.proofs.Going.{Going}
use Rattle.journal_recover.proofs.settle.Given as goal

abbrev pub invariant-loop-k : goal.invariant-loop-k
invariant-loop-k l = Going l.fn.image l.fn.journal l.n l.image l.journal l.from l.k
