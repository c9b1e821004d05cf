-- `epoch_choose::choose`: the best of the slots below i is kept.
use Rattle.epoch_choose.proofs.Best.{Passes}
use Rattle.epoch_choose.proofs.choose.Given as goal

abbrev pub invariant-loop-i : goal.invariant-loop-i
invariant-loop-i l = Passes l.image l.name l.t l.shape.slots l.i l.best
