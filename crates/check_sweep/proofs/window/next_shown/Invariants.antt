-- `check_sweep::window::next_shown`: of the slots from `from` on, below i, the window shows nothing.
use Rattle.message_stretch.specs.Checked.{start_in, end_in}
use Rattle.message_stretch.specs.Windows.{Unseen}
use Rattle.check_sweep.proofs.window.next_shown.Given as goal

abbrev pub invariant-loop-i : goal.invariant-loop-i
invariant-loop-i l = Unseen (start_in l.image) (end_in l.image) l.lo l.hi l.from l.i
