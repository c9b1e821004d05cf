-- `compact_forget::forget_dead`: below slot i it is done.
use Rattle.std.proofs.Common.{◌≡◌}
use Rattle.spec_file.specs.Image.{layout_of}
use Rattle.law_file.proofs.Total.{total}
use Rattle.compact_stages.specs.Stages.{active_in}
use Rattle.compact_stages.proofs.Forgetting.{Forgetting}
use Rattle.compact_forget.proofs.forget_dead.Given as goal

abbrev pub invariant-loop-i : goal.invariant-loop-i
invariant-loop-i l = record {
  done : Forgetting (layout_of l.initial.image) l.initial.image l.image l.i;
  bytes : l.bytes ≡ total (active_in l.initial.image) l.i;
}
