-- `journal_calls::packed::compact_journaled` meets its contract: what is called on the copy is a compaction.
-- Assumes nothing.
use Rattle.std.proofs.Common.{rules}
use Rattle.call_compact.proofs.Told.{compact-small}
use Rattle.journal_calls.proofs.packed.compact_journaled.Goals as goal

pub journaled-requires-clause-small : goal.journaled-requires-clause-small
journaled-requires-clause-small c = λ number after ran z. compact-small _ (search rules)

pub returns : goal.returns
returns c = c.journaled.ensures _ (λ number after ran. search rules)
