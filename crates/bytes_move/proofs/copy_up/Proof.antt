-- A run and one above it do not meet. Assumes nothing.
use native.Mathlib.Omega.{arith}
use mathlib.Core.Logic.{inl}
use borrow.Author.Rules.{rules}
use Rattle.bytes_move.proofs.copy_up.Statement.{statement}
use Rattle.bytes_move.proofs.copy_up.Tie as tie

move-bytes-requires : tie.Need-move_bytes-requires
move-bytes-requires c κs =
    let P = c.requires in
    (inl P.0, omega arith, P.1)

move-eights-requires : tie.Need-move_eights-requires
move-eights-requires c κs =
    let P = c.requires in
    ((inl P.0, omega arith, P.1), omega arith)

same_length : tie.Need-shape_of-s-then-n-lt8
same_length c = search rules

returns : tie.Need-returns-then-n-lt8
returns c = search rules

same-length-2 : tie.Need-shape_of-s-else-n-lt8
same-length-2 c = search rules

returns-2 : tie.Need-returns-else-n-lt8
returns-2 c = search rules

pub copy_up_spec : {M : Type 1} → statement M
copy_up_spec =
    tie.close
    (tie.spec
    move-bytes-requires
    move-eights-requires
    same_length
    returns
    same-length-2
    returns-2)
