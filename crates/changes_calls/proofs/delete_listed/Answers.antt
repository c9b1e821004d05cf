-- `changes_calls::delete_listed` meets its contract: what is called is a delete, which writes in its windows only.
-- Assumes nothing.
use Rattle.std.proofs.Common.{rules}
use Rattle.changes_extent.proofs.Listing.{lists-16, delete-leaves, delete-small}
use Rattle.law_file.proofs.Tests.{was-no, was-yes}
use Rattle.changes_calls.proofs.delete_listed.Goals as goal

pub returns-then-not-slices_allowed : goal.returns-then-not-slices_allowed
returns-then-not-slices_allowed c =
    lists-16 _ _ _ _ (was-no c.slices_allowed.ensures c.if-not-slices_allowed.true)

pub listed-requires-clause-fits : goal.listed-requires-clause-fits
listed-requires-clause-fits c = was-yes c.slices_allowed.ensures c.if-not-slices_allowed.false

pub listed-requires-clause-small : goal.listed-requires-clause-small
listed-requires-clause-small c = λ number after ran z. delete-small _ c.args.key.now (search rules)

pub returns : goal.returns
returns c =
    c.listed.ensures _ (λ number after ran. search rules) (delete-leaves _ c.args.key.now)
    (λ same. c.of_delete-windows.ensures.1)
