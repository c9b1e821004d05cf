-- Each block begins where the bytes before it are copied. Assumes nothing.
use Prim.Native.Nat.{◌-◌}
use native.Mathlib.Omega.{arith}
use mathlib.Core.Path.{◌≡◌}
use lib.ListN.{length}
use borrow.Author.Rules.{rules}
use Rattle.bytes_copy.proofs.Moved.{begun-less, begun-here, begun-then, moved-block}
use Rattle.bytes_move.proofs.move_middle.Statement.{statement}
use Rattle.bytes_move.proofs.move_middle.Tie as tie

returns : tie.Need-returns-then-n-le16
returns c =
    let S = c in
    let A = S.args in
    begun-less A.s.now A.s.now A.from A.to A.n 8 (A.n - 8) S.requires.2 (omega arith)

sub-end : tie.Need-overflow_sub-end
sub-end c = search rules

add-move-eight : tie.Need-overflow_add-from
add-move-eight c = search rules

add-move-eight-2 : tie.Need-overflow_add-to
add-move-eight-2 c = search rules

move-eight-requires : tie.Need-move_eight-requires
move-eight-requires c κs = search rules

move-inner-requires : tie.Need-move_inner-requires
move-inner-requires c κs =
    let B = c in
    let S = c in
    let A = S.args in
    let s = A.s.now in
    let x = B.move_eight.new.s in
    let b =
    moved-block s s x A.from A.to A.n 8 8 16 S.requires.0 S.requires.2
    (omega arith) (omega arith) (omega arith) B.move_eight.ensures
    in
    let l : length x ≡ length s = b.long in (
      (S.requires.0.0, omega arith, omega arith),
      S.requires.1,
      begun-here s x A.from A.to A.n 16 S.requires.0 b (omega arith),
    )

add-move-eight-3 : tie.Need-overflow_add-from-2
add-move-eight-3 c = search rules

add-move-eight-4 : tie.Need-overflow_add-to-2
add-move-eight-4 c = search rules

move-eight-requires-2 : tie.Need-move_eight-requires-2
move-eight-requires-2 c κs = search rules

same_length : tie.Need-shape_of-s
same_length c = search rules

returns-2 : tie.Need-returns
returns-2 c =
    let E = c in
    let I = c in
    let B = c in
    let S = c in
    let A = S.args in
    let s = A.s.now in
    let n = A.n in
    let x = B.move_eight.new.s in
    let b =
    moved-block s s x A.from A.to n 8 8 16 S.requires.0 S.requires.2
    (omega arith) (omega arith) (omega arith) B.move_eight.ensures
    in
    let y = I.move_inner.new.s in
    let d =
    begun-then s x y A.from A.to n 16 (n - 16) S.requires.0 b I.move_inner.ensures (omega arith)
    in
    moved-block s y E.move_eight-2.new.s A.from A.to n (n - 16) (n - 16) (n - 8) S.requires.0 d
    (omega arith) (omega arith) (omega arith) E.move_eight-2.ensures

pub move_middle_spec : {M : Type 1} → statement M
move_middle_spec =
    tie.close
    (tie.spec
    returns
    sub-end
    add-move-eight
    add-move-eight-2
    move-eight-requires
    move-inner-requires
    add-move-eight-3
    add-move-eight-4
    move-eight-requires-2
    same_length
    returns-2)
