-- `check_sweep::sweep`: below `lo` all is swept.
use Rattle.std.proofs.Common.{◌≤◌, ◌-◌}
use Rattle.spec_file.specs.Image.{field}
use Rattle.spec_file.specs.Limits.{data_field}
use Rattle.message_stretch.specs.Checked.{start_in, end_in}
use Rattle.message_stretch.specs.Windows.{Swept}
use Rattle.check_sweep.proofs.sweep.Given as goal

abbrev pub decreases-loop-lo : goal.decreases-loop-lo
decreases-loop-lo l = l.free - l.lo

abbrev pub invariant-loop-lo : goal.invariant-loop-lo
invariant-loop-lo l = record {
  low : field l.image data_field ≤ l.lo;
  high : l.lo ≤ l.free;
  swept : Swept (start_in l.image) (end_in l.image) l.bound l.lo l.best l.carried;
}
