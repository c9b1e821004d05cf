-- `journal_calls::delete_journaled` meets its contract: what is called on the copy is a delete. Assumes nothing.
use Rattle.std.proofs.Common.{rules}
use Rattle.changes_extent.proofs.Listing.{delete-small}
use Rattle.journal_calls.proofs.delete_journaled.Goals as goal

pub journaled-requires-clause-small : goal.journaled-requires-clause-small
journaled-requires-clause-small c = λ number after ran z. delete-small _ c.args.key.now (search rules)

pub returns : goal.returns
returns c = c.journaled.ensures _ (λ number after ran. search rules)
