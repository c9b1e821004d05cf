-- The last block begins where all before it are copied, and ends with the run. Assumes nothing.
use Prim.Native.Nat.{◌-◌}
use native.Mathlib.Omega.{arith}
use borrow.Author.Rules.{rules}
use Rattle.bytes_copy.proofs.Moved.{moved-block, moved-whole}
use Rattle.bytes_move.proofs.move_eights.Statement.{statement}
use Rattle.bytes_move.proofs.move_eights.Tie as tie

sub-last : tie.Need-overflow_sub-last
sub-last c = search rules

move-front-requires : tie.Need-move_front-requires
move-front-requires c κs = search rules

add-move-eight : tie.Need-overflow_add-from
add-move-eight c = search rules

add-move-eight-2 : tie.Need-overflow_add-to
add-move-eight-2 c = search rules

move-eight-requires : tie.Need-move_eight-requires
move-eight-requires c κs = search rules

same_length : tie.Need-shape_of-s
same_length c = search rules

returns : tie.Need-returns
returns c =
    let E = c in
    let F = c in
    let S = c in
    let A = S.args in
    let s = A.s.now in
    let n = A.n in
    let r = E.move_eight.new.s in
    moved-whole s r A.from A.to n S.requires.0
    (moved-block s F.move_front.new.s r A.from A.to n (n - 8) (n - 8) n S.requires.0 F.move_front.ensures
    (omega arith) (omega arith) (omega arith) E.move_eight.ensures)

pub move_eights_spec : {M : Type 1} → statement M
move_eights_spec =
    tie.close
    (tie.spec
    sub-last
    move-front-requires
    add-move-eight
    add-move-eight-2
    move-eight-requires
    same_length
    returns)
