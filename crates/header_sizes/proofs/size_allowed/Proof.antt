-- The code is the definition. Assumes nothing.
use Rattle.std.proofs.Common.{refl}
use Rattle.spec_file.specs.Questions.{size_allowed}
use Rattle.header_sizes.proofs.size_allowed.Statement.{statement}
use Rattle.header_sizes.proofs.size_allowed.Tie as tie

returns : tie.Need-returns
unfolding size_allowed
returns c = refl

pub size_allowed_spec : {M : Type 1} → statement M
size_allowed_spec =
    tie.close
    (tie.spec
    returns)
