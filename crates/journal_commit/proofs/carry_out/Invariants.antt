-- `journal_commit::carry_out`: before turn k the first k writes are done.
use Rattle.journal_commit.proofs.Carrying.{Carrying}
use Rattle.journal_commit.proofs.carry_out.Given as goal

abbrev pub invariant-loop-k : goal.invariant-loop-k
invariant-loop-k l = Carrying l.fn.image l.new l.fn.journal l.pairs l.n l.image l.journal l.from l.k
