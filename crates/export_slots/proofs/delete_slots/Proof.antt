-- The number of slots read fits 32 bits. Assumes nothing.
use native.Mathlib.Omega.{arith}
use borrow.Author.Rules.{rules}
use Rattle.export_slots.proofs.Small.{delete-few}
use Rattle.export_slots.proofs.delete_slots.Statement.{statement}
use Rattle.export_slots.proofs.delete_slots.Tie as tie

delete-slots-requires : tie.Need-delete_slots-told-requires
delete-slots-requires c κs = search rules

cast-read : tie.Need-overflow_cast-read
cast-read c =
    let P = c in
    let A = P.args in
    omega (arith, delete-few A.image.now A.key.now, P.delete_slots-told.ensures.2)

same_length : tie.Need-shape_of-image
same_length c = search rules

returns : tie.Need-returns
returns c = record { number = search rules; image = search rules; slots = search rules }

pub delete_slots_spec : {M : Type 1} → statement M
delete_slots_spec =
    tie.close
    (tie.spec
    delete-slots-requires
    cast-read
    same_length
    returns)
