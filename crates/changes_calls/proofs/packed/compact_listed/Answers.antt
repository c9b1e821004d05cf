-- `changes_calls::packed::compact_listed` meets its contract: what is called is a compaction, and its one window is the
-- whole image. Assumes nothing.
use Rattle.std.proofs.Common.{◌≡◌, true, false, rules, arith, sym, length, ◌∙◌}
use Rattle.std.proofs.Math.ListN.{get_or-eq_default}
use Rattle.spec_file.specs.Bytes.{Bytes}
use Rattle.spec_file.specs.Calls.{Outcome}
use Rattle.spec_compaction.specs.Compact.{compact}
use Rattle.call_compact.proofs.Told.{compact-leaves, compact-small}
use Rattle.changes_extent.specs.Reaches.{Only}
use Rattle.changes_extent.proofs.Listing.{lists-16}
use Rattle.changes_windows.specs.declared.Windows.{Windows}
use Rattle.changes_windows.proofs.Windowed.{covered-1}
use Rattle.law_file.proofs.Tests.{by_le, was-no, was-yes}
use Rattle.changes_calls.proofs.packed.compact_listed.Goals as goal

-- behind a window that is the whole image, two images of its length have no byte
only-whole : (call : Bytes → Outcome Bytes) (img : Bytes) (w : Windows) → w.end1 ≡ length img
    → length (call img).after ≡ length img → Only call img w
only-whole call img w whole same z i outside =
    by_le (length img) i
    (λ h. get_or-eq_default (call img).after 0 (omega arith) ∙ sym (get_or-eq_default img 0 h))
    (λ h. let t : true ≡ false = sym (covered-1 w i (omega arith)) ∙ outside in cc)

pub returns-then-not-slices_allowed : goal.returns-then-not-slices_allowed
returns-then-not-slices_allowed c =
    lists-16 _ _ _ _ (was-no c.slices_allowed.ensures c.if-not-slices_allowed.true)

pub listed-requires-clause-fits : goal.listed-requires-clause-fits
listed-requires-clause-fits c = was-yes c.slices_allowed.ensures c.if-not-slices_allowed.false

pub listed-requires-clause-small : goal.listed-requires-clause-small
listed-requires-clause-small c = λ number after ran z. compact-small _ (search rules)

pub returns : goal.returns
returns c =
    c.listed.ensures _ (λ number after ran. search rules) (compact-leaves _)
    (only-whole compact _ c.whole.result c.whole.ensures.0)
