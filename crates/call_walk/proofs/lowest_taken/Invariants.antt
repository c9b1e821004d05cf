-- `call_walk::lowest_taken`: the lowest taken slot from i on is the one from the start on.
use Rattle.std.proofs.Common.{◌≡◌, ◌-◌}
use Rattle.spec_file.specs.Image.{layout_of}
use Rattle.spec_file.specs.Inspect.{lowest, taken, next_taken}
use Rattle.call_walk.proofs.lowest_taken.Given as goal

abbrev pub invariant-loop-i : goal.invariant-loop-i
invariant-loop-i l =
    next_taken (layout_of l.image) l.image l.from
    ≡ lowest (taken (layout_of l.image) l.image) (l.shape.slots - l.i) l.i
