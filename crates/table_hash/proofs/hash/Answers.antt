-- `table_hash::hash` meets its contract: a turn takes the hash one byte further, and behind the last byte it is the
-- key's.
use Rattle.std.proofs.Common.{arith, refl}
use Rattle.table_hash.proofs.Hashed.{hash_from-step, hash_from-end}
use Rattle.table_hash.proofs.hash.Goals as goal

pub loop-c-init : goal.loop-c-init
loop-c-init c = refl

pub loop-c-preserved : goal.loop-c-preserved
loop-c-preserved c = grind (arith, hash_from-step, c.loop-c.invariant)

pub returns : goal.returns
returns c = grind (arith, hash_from-end, c.loop-c.invariant)
