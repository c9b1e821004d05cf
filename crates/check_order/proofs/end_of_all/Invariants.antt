-- `check_order::end_of_all`: the keys so far are one behind the other, and the last of them ends at `end`.
use Rattle.std.proofs.Common.{◌≡◌}
use Rattle.message_stretch.specs.Checked.{start_in, end_in}
use Rattle.check_order.specs.Order.{Behind, end_before}
use Rattle.check_order.proofs.end_of_all.Given as goal

abbrev pub invariant-loop-key : goal.invariant-loop-key
invariant-loop-key l = record {
  ends : l.end ≡ end_before (end_in l.image) l.next l.keys l.key-index;
  behind : Behind (start_in l.image) (end_in l.image) l.shape.slots l.lo l.hi l.next l.keys l.key-index;
}
