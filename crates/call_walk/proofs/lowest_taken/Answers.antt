-- `call_walk::lowest_taken` meets its contract: a slot that is not taken is passed over, and behind the last one is the
-- end. Assumes nothing.
use Rattle.std.proofs.Common.{◌∙◌}
use Rattle.law_file.proofs.Verdict.{lowest-no}
use Rattle.call_walk.specs.Stops.{stop_of}
use Rattle.table_search.proofs.Headers.{layout-slots}
use Rattle.call_walk.proofs.Stopping.{walk_start, walk_here, walk_end}
use Rattle.call_walk.proofs.lowest_taken.Goals as goal

pub loop-i-init : goal.loop-i-init
loop-i-init c = walk_start _ _ _ _ (layout-slots _ _ c.requires.shape)

pub returns-then-is_taken : goal.returns-then-is_taken
unfolding stop_of
returns-then-is_taken c =
    walk_here _ _ _ _ _ c.loop-i.invariant _ c.new-at.ensures c.loop-i-test.true (cc)

pub loop-i-preserved : goal.loop-i-preserved
loop-i-preserved c = c.loop-i.invariant ∙ lowest-no _ _ _ c.loop-i-test.true (cc)

pub returns : goal.returns
unfolding stop_of
returns c = walk_end _ _ _ _ _ c.loop-i.invariant c.loop-i-test.false
