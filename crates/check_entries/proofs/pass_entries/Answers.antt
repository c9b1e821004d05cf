-- `check_entries::pass_entries` meets its contract: a slot that is passed is empty, or its entry is sound and counts.
use Rattle.std.proofs.Common.{sym, ◌∙◌, arith}
use Rattle.table_search.proofs.Headers.{header}
use Rattle.check_entries.proofs.Turns.{passed_on, passed_over, passed-fails, passed-all}
use Rattle.check_entries.proofs.pass_entries.Goals as goal
use Rattle.check_entries.proofs.pass_entries.Goals.{then-is_taken+else-not-entry_sound, else-is_taken}

pub returns-then-not-entry_sound : goal.returns-then-not-entry_sound
returns-then-not-entry_sound c =
    passed-fails _ _ _ _ _ c.loop-i.invariant c.loop-i-test.true _ c.new-at.ensures (cc) (cc)

pub overflow_add-count : goal.overflow_add-count
overflow_add-count c = omega (arith, (header _ _ c.requires).slots-high)

pub loop-i-preserved : goal.loop-i-preserved
loop-i-preserved c =
    elim c.if-is_taken.branch [
      | then-is_taken+else-not-entry_sound w ↦
          rw w.count-is
          (passed_on _ _ _ _ _ c.loop-i.invariant c.loop-i-test.true _ c.new-at.ensures (cc) (cc))
      | else-is_taken w ↦
          rw w.count-is (passed_over _ _ _ _ _ c.loop-i.invariant c.loop-i-test.true _ c.new-at.ensures (cc))
    ]

pub returns : goal.returns
returns c = passed-all _ _ _ _ _ c.loop-i.invariant c.loop-i-test.false
