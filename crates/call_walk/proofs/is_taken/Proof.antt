-- A slot is taken where it is not empty. Assumes nothing.
use mathlib.Core.Path.{ap}
use mathlib.Core.Bool.{not}
use Rattle.spec_file.specs.Inspect.{taken}
use borrow.Author.Rules.{rules}
use Rattle.call_walk.proofs.is_taken.Statement.{statement}
use Rattle.call_walk.proofs.is_taken.Tie as tie

is-vacant-requires : tie.Need-is_vacant-requires
is-vacant-requires c κs = search rules

returns : tie.Need-returns
unfolding taken
returns c = ap not c.is_vacant.ensures

pub is_taken_spec : {M : Type 1} → statement M
is_taken_spec =
    tie.close
    (tie.spec
    is-vacant-requires
    returns)
