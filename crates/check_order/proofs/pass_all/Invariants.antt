-- `check_order::pass_all`: what starts below `lo` is in order.
use Rattle.std.proofs.Common.{◌≤◌, ◌<◌, ◌^◌}
use Rattle.spec_file.specs.Image.{field}
use Rattle.spec_file.specs.Limits.{data_field}
use Rattle.check_order.specs.Order.{OrderIn}
use Rattle.check_order.proofs.pass_all.Given as goal

abbrev pub invariant-loop : goal.invariant-loop
invariant-loop l = record {
  low : field l.image data_field ≤ l.lo;
  high : l.lo ≤ l.free;
  some : 0 < l.width;
  narrow : l.width < 2 ^ 33;
  order : OrderIn l.image l.shape l.lo l.next;
}
