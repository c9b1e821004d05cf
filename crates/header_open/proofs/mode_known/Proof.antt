-- The code is the definition. Assumes nothing.
use mathlib.Core.Path.{refl}
use Rattle.spec_file.specs.Questions.{mode_known}
use Rattle.header_open.proofs.mode_known.Statement.{statement}
use Rattle.header_open.proofs.mode_known.Tie as tie

returns : tie.Need-returns
unfolding mode_known
returns c = refl

pub mode_known_spec : {M : Type 1} → statement M
mode_known_spec =
    tie.close
    (tie.spec
    returns)
