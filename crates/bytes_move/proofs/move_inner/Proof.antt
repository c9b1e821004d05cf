-- Each block begins where the bytes before it are copied. Assumes nothing.
use Prim.Native.Nat.{◌-◌}
use native.Mathlib.Omega.{arith}
use borrow.Author.Rules.{rules}
use Rattle.bytes_copy.proofs.Moved.{begun-less, moved-block}
use Rattle.bytes_move.proofs.move_inner.Statement.{statement}
use Rattle.bytes_move.proofs.move_inner.Tie as tie

returns : tie.Need-returns-then-n-le32
returns c =
    let S = c in
    let A = S.args in
    begun-less A.s.now A.s.now A.from A.to A.n 16 (A.n - 16) S.requires.2 (omega arith)

sub-third : tie.Need-overflow_sub-third
sub-third c = search rules

sub-fourth : tie.Need-overflow_sub-fourth
sub-fourth c = search rules

add-move-eight : tie.Need-overflow_add-from
add-move-eight c = search rules

add-move-eight-2 : tie.Need-overflow_add-to
add-move-eight-2 c = search rules

move-eight-requires : tie.Need-move_eight-requires
move-eight-requires c κs = search rules

add-move-eight-3 : tie.Need-overflow_add-from-2
add-move-eight-3 c = search rules

add-move-eight-4 : tie.Need-overflow_add-to-2
add-move-eight-4 c = search rules

move-eight-requires-2 : tie.Need-move_eight-requires-2
move-eight-requires-2 c κs = search rules

add-move-eight-5 : tie.Need-overflow_add-from-3
add-move-eight-5 c = search rules

add-move-eight-6 : tie.Need-overflow_add-to-3
add-move-eight-6 c = search rules

move-eight-requires-3 : tie.Need-move_eight-requires-3
move-eight-requires-3 c κs = search rules

add-move-eight-7 : tie.Need-overflow_add-from-4
add-move-eight-7 c = search rules

add-move-eight-8 : tie.Need-overflow_add-to-4
add-move-eight-8 c = search rules

move-eight-requires-4 : tie.Need-move_eight-requires-4
move-eight-requires-4 c κs = search rules

same_length : tie.Need-shape_of-s
same_length c = search rules

returns-2 : tie.Need-returns
returns-2 c =
    let B₄ = c in
    let B₃ = c in
    let B₂ = c in
    let B₁ = c in
    let S = c in
    let A = S.args in
    let s = A.s.now in
    let n = A.n in
    let x₁ = B₁.move_eight.new.s in
    let x₂ = B₂.move_eight-2.new.s in
    let x₃ = B₃.move_eight-3.new.s in
    let b₁ =
    moved-block s s x₁ A.from A.to n 16 16 24 S.requires.0 S.requires.2
    (omega arith) (omega arith) (omega arith) B₁.move_eight.ensures
    in
    let b₂ =
    moved-block s x₁ x₂ A.from A.to n 24 24 32 S.requires.0 b₁
    (omega arith) (omega arith) (omega arith) B₂.move_eight-2.ensures
    in
    let b₃ =
    moved-block s x₂ x₃ A.from A.to n 32 (n - 32) (n - 24) S.requires.0 b₂
    (omega arith) (omega arith) (omega arith) B₃.move_eight-3.ensures
    in
    moved-block s x₃ B₄.move_eight-4.new.s A.from A.to n (n - 24) (n - 24) (n - 16) S.requires.0 b₃
    (omega arith) (omega arith) (omega arith) B₄.move_eight-4.ensures

pub move_inner_spec : {M : Type 1} → statement M
move_inner_spec =
    tie.close
    (tie.spec
    returns
    sub-third
    sub-fourth
    add-move-eight
    add-move-eight-2
    move-eight-requires
    add-move-eight-3
    add-move-eight-4
    move-eight-requires-2
    add-move-eight-5
    add-move-eight-6
    move-eight-requires-3
    add-move-eight-7
    add-move-eight-8
    move-eight-requires-4
    same_length
    returns-2)
