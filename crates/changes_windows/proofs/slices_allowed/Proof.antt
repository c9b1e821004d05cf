-- Question 16 is its two tests. Assumes nothing.
use mathlib.Core.Path.{refl}
use Rattle.spec_changes.specs.Changes.{list_allowed, work_allowed}
use Rattle.changes_windows.proofs.slices_allowed.Statement.{statement}
use Rattle.changes_windows.proofs.slices_allowed.Tie as tie

returns : tie.Need-returns
unfolding list_allowed work_allowed
returns c = refl

pub slices_allowed_spec : {M : Type 1} → statement M
slices_allowed_spec =
    tie.close
    (tie.spec
    returns)
