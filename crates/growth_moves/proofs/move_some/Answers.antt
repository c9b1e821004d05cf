-- `growth_moves::move_some` meets its contract: a turn makes one move more, and each end is where all moves lead.
use Rattle.std.proofs.Common.{arith}
use Rattle.growth_moves.proofs.Stages.{stage-begins, stage-done, stage-none, slot-found, stage-found, stage-refused, stage-on}
use Rattle.growth_moves.proofs.move_some.Goals as goal

pub loop-init : goal.loop-init
loop-init c = stage-begins _ _ _ _ _ c.requires

pub lowest_taken-stop-requires : goal.lowest_taken-stop-requires
lowest_taken-stop-requires c = c.loop.invariant.paired.first

pub returns-in_default : goal.returns-in_default
returns-in_default c =
    stage-none _ _ _ _ _ _ _ _ _ c.loop.invariant _ c.lowest_taken-stop.ensures c.in_default.not-At

pub move_point-number-requires : goal.move_point-number-requires
move_point-number-requires c =
    stage-found _ _ _ _ _ _ _ _ _ c.loop.invariant _ (slot-found _ _ _ c.lowest_taken-stop.ensures c.in-At.is)

pub returns-then-number-ne0 : goal.returns-then-number-ne0
returns-then-number-ne0 c =
    stage-refused _ _ _ _ _ _ _ _ _ c.loop.invariant _ (slot-found _ _ _ c.lowest_taken-stop.ensures c.in-At.is)
    _ _ _ c.move_point-number.ensures c.if-number-ne0.true

pub loop-preserved : goal.loop-preserved
loop-preserved c =
    stage-on _ _ _ _ _ _ _ _ _ c.loop.invariant _ (slot-found _ _ _ c.lowest_taken-stop.ensures c.in-At.is)
    _ _ _ c.move_point-number.ensures c.if-number-ne0.false (omega arith) _ _ c.number-from.ensures (omega arith)

pub returns : goal.returns
returns c = stage-done _ _ _ _ _ _ _ _ _ c.loop.invariant (omega arith)
