-- `call_select::fill_list` meets its contract: a slot that is listed is the next number, and one that is not writes
-- none.
use Rattle.std.proofs.Common.{◌∙◌, arith}
use Rattle.spec_range.specs.Ranges.{selected}
use Rattle.table_search.proofs.Headers.{header, layout-slots}
use Rattle.call_select.proofs.Filling.{filling-take, filling-pass, filling-end, filling-few, filling-room}
use Rattle.call_select.proofs.fill_list.Goals as goal
use Rattle.call_select.proofs.fill_list.Goals.{then-is_selected, else-is_selected}

pub overflow_mul-found : goal.overflow_mul-found
overflow_mul-found c =
    omega (arith, filling-few _ _ _ _ _ _ c.loop-i.invariant, (header _ _ c.requires.0).slots-high)

pub overflow_cast-i : goal.overflow_cast-i
overflow_cast-i c = omega (arith, (header _ _ c.requires.0).slots-high)

pub write_u32-requires : goal.write_u32-requires
write_u32-requires c = filling-room _ _ _ _ _ _ c.loop-i.invariant c.requires.2 c.loop-i-test.true (cc)

pub overflow_add-found : goal.overflow_add-found
overflow_add-found c =
    omega (arith, filling-few _ _ _ _ _ _ c.loop-i.invariant, (header _ _ c.requires.0).slots-high)

pub loop-i-preserved : goal.loop-i-preserved
loop-i-preserved c =
    elim c.if-is_selected.branch [
      | then-is_selected w ↦
          rw w.found-is (filling-take _ _ _ _ _ _ c.loop-i.invariant c.requires.2 c.loop-i-test.true (cc)
          _ (w.list-is ∙ w.write_u32.ensures))
      | else-is_selected w ↦
          rw (w.found-is, w.list-is) (filling-pass _ _ _ _ _ _ c.loop-i.invariant c.loop-i-test.true (cc))
    ]

pub returns-clause-found : goal.returns-clause-found
unfolding selected
returns-clause-found c =
    cc (layout-slots _ _ c.requires.0.shape, (filling-end _ _ _ _ _ _ c.loop-i.invariant c.loop-i-test.false).0)

pub returns-clause-list : goal.returns-clause-list
unfolding selected
returns-clause-list c =
    cc (layout-slots _ _ c.requires.0.shape, (filling-end _ _ _ _ _ _ c.loop-i.invariant c.loop-i-test.false).1)
