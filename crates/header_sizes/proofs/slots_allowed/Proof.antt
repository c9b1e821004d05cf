-- The code is the definition. Assumes nothing.
use Rattle.std.proofs.Common.{refl}
use Rattle.spec_file.specs.Questions.{slots_allowed}
use Rattle.header_sizes.proofs.slots_allowed.Statement.{statement}
use Rattle.header_sizes.proofs.slots_allowed.Tie as tie

returns : tie.Need-returns
unfolding slots_allowed
returns c = refl

pub slots_allowed_spec : {M : Type 1} → statement M
slots_allowed_spec =
    tie.close
    (tie.spec
    returns)
