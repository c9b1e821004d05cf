-- `changes_next::lesser_of` meets its contract: the lesser is the first where it is no greater.
use Rattle.std.proofs.Common.{arith}
use Rattle.std.proofs.lemmas.Bool.Decides.{nat_tests}
use Rattle.spec_next.specs.Next.{lesser}
use Rattle.changes_next.proofs.lesser_of.Goals as goal

pub returns : goal.returns
unfolding lesser
returns c = grind (arith, nat_tests)
