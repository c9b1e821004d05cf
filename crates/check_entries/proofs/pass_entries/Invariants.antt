-- `check_entries::pass_entries`: no entry below i fails, and `count` of the slots there are taken.
use Rattle.spec_file.specs.Image.{layout_of}
use Rattle.check_entries.proofs.Turns.{Passed}
use Rattle.check_entries.proofs.pass_entries.Given as goal

abbrev pub invariant-loop-i : goal.invariant-loop-i
invariant-loop-i l = Passed (layout_of l.image) l.image l.slots l.count l.i
