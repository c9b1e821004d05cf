-- The code is the definition. Assumes nothing.
use Rattle.std.proofs.Common.{refl}
use Rattle.spec_file.specs.Questions.{key_allowed}
use Rattle.header_sizes.proofs.key_allowed.Statement.{statement}
use Rattle.header_sizes.proofs.key_allowed.Tie as tie

returns : tie.Need-returns
unfolding key_allowed
returns c = refl

pub key_allowed_spec : {M : Type 1} → statement M
key_allowed_spec =
    tie.close
    (tie.spec
    returns)
