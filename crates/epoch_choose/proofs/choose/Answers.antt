-- `epoch_choose::choose` meets its contract: a turn looks at one slot more, and behind the last the best is chosen.
use Rattle.std.proofs.Common.{arith}
use Rattle.table_search.proofs.Headers.{layout-slots}
use Rattle.epoch_choose.proofs.Best.{passes-start, passes_on, passes-all}
use Rattle.epoch_choose.proofs.choose.Goals as goal

pub look-best-requires : goal.look-best-requires
look-best-requires c =
    record {
      slot = record { named = c.requires; below = omega arith; marks = c.mark_of-mark.ensures };
      kept = c.loop-i.invariant.kept;
    }

pub loop-i-init : goal.loop-i-init
loop-i-init c = passes-start _ _ _ _ (layout-slots _ _ c.requires.opened.shape)

pub loop-i-preserved : goal.loop-i-preserved
loop-i-preserved c =
    passes_on _ _ _ _ _ _ c.loop-i.invariant _ c.new.ensures c.loop-i-test.true _ c.look-best.ensures

pub returns : goal.returns
returns c = passes-all _ _ _ _ _ _ c.loop-i.invariant c.loop-i-test.false
