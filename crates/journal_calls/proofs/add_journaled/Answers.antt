-- `journal_calls::add_journaled` meets its contract: what is called on the copy is an add. Assumes nothing.
use Rattle.std.proofs.Common.{rules}
use Rattle.changes_extent.proofs.Listing.{add_small}
use Rattle.journal_calls.proofs.add_journaled.Goals as goal

pub journaled-requires-clause-small : goal.journaled-requires-clause-small
journaled-requires-clause-small c = λ number after ran z.
    add_small _ c.args.key.now c.args.bytes.now c.args.mode (search rules)

pub returns : goal.returns
returns c = c.journaled.ensures _ (λ number after ran. search rules)
