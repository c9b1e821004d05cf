-- `convert_need::need` meets its contract: a turn takes slot i from what is to come; behind the last that is none.
use Rattle.std.proofs.Common.{◌≡◌, ◌-◌, arith}
use mathlib.Core.Bool.{and_assoc, and-true}
use Rattle.table_search.proofs.Headers.{header, layout-slots}
use Rattle.message_stretch.proofs.Reading.{checked-slot}
use Rattle.convert_need.proofs.Needing.{need-most, needs-on, told-on, needs-none, told_none}
use Rattle.convert_need.proofs.need.Goals as goal

pub loop-i-init : goal.loop-i-init
loop-i-init c =
    let e : c.args.shape.slots - 0 ≡ c.args.shape.slots = omega arith in
    record { low = omega arith; bytes = grind (arith, e); told = grind (arith, e) }

pub slot_need-one-requires : goal.slot_need-one-requires
slot_need-one-requires c =
    let e = c.new.ensures in
    (rw e (checked-slot _ _ _ c.requires.0 c.loop-i.i c.loop-i-test.true), c.requires.1, c.requires.2)

pub overflow_add-bytes : goal.overflow_add-bytes
overflow_add-bytes c =
    let most = need-most _ _ _ (checked-slot _ _ _ c.requires.0 c.loop-i.i c.loop-i-test.true) in
    omega (arith, rw c.new.ensures at c.slot_need-one.ensures.0, most, (header _ _ c.requires.0.opened).slots-high)

pub loop-i-preserved : goal.loop-i-preserved
loop-i-preserved c =
    let most = need-most _ _ _ (checked-slot _ _ _ c.requires.0 c.loop-i.i c.loop-i-test.true) in
    let one = rw c.new.ensures at c.slot_need-one.ensures in
    record {
      low = omega (arith, one.0, most);
      bytes = grind (arith, one, needs-on);
      told = grind (arith, one, told-on, and_assoc);
    }

pub returns : goal.returns
returns c =
    let e = layout-slots _ _ c.requires.0.opened.shape in
    (rw e (grind (arith, needs-none)), rw e (grind (arith, told_none, and-true)))
