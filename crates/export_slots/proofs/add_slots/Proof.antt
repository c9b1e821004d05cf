-- The number of slots read fits 32 bits. Assumes nothing.
use native.Mathlib.Omega.{arith}
use borrow.Author.Rules.{rules}
use Rattle.export_slots.proofs.Small.{add-few}
use Rattle.export_slots.proofs.add_slots.Statement.{statement}
use Rattle.export_slots.proofs.add_slots.Tie as tie

add-slots-requires : tie.Need-add_slots-told-requires
add-slots-requires c κs = search rules

cast-read : tie.Need-overflow_cast-read
cast-read c =
    let P = c in
    let A = P.args in
    omega (arith, add-few A.image.now A.key.now A.mode, P.add_slots-told.ensures.2)

same_length : tie.Need-shape_of-image
same_length c = search rules

returns : tie.Need-returns
returns c = record { number = search rules; image = search rules; slots = search rules }

pub add_slots_spec : {M : Type 1} → statement M
add_slots_spec =
    tie.close
    (tie.spec
    add-slots-requires
    cast-read
    same_length
    returns)
