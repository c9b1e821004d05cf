-- `growth_moves::move_some`: the moves that are left lead where all of them lead.
use Rattle.std.proofs.Common.{◌-◌}
use Rattle.growth_moves.proofs.Stages.{Stage}
use Rattle.growth_moves.proofs.move_some.Given as goal

abbrev pub invariant-loop : goal.invariant-loop
invariant-loop l =
    Stage l.initial.old l.initial.new l.shape l.larger l.most l.old l.new l.from (l.most - l.counter)
