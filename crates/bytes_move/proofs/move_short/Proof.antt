-- The first block, and the middle behind it. Assumes nothing.
use Prim.Native.Nat.{◌-◌}
use native.Mathlib.Omega.{arith}
use mathlib.Core.Path.{◌≡◌}
use lib.ListN.{length}
use borrow.Author.Rules.{rules}
use Rattle.bytes_copy.proofs.Moved.{begun-here, begun-then, moved-first}
use Rattle.bytes_move.proofs.move_short.Statement.{statement}
use Rattle.bytes_move.proofs.move_short.Tie as tie

move-eight-requires : tie.Need-move_eight-requires
move-eight-requires c κs = search rules

move-middle-requires : tie.Need-move_middle-requires
move-middle-requires c κs =
    let B = c in
    let S = c in
    let A = S.args in
    let s = A.s.now in
    let x = B.move_eight.new.s in
    let b = moved-first s x A.from A.to A.n S.requires.0 S.requires.1 B.move_eight.ensures in
    let l : length x ≡ length s = b.long in (
      (S.requires.0.0, omega arith, omega arith),
      S.requires.2,
      begun-here s x A.from A.to A.n 8 S.requires.0 b (omega arith),
    )

same_length : tie.Need-shape_of-s
same_length c = search rules

returns : tie.Need-returns
returns c =
    let M = c in
    let B = c in
    let S = c in
    let A = S.args in
    let s = A.s.now in
    let x = B.move_eight.new.s in
    let b = moved-first s x A.from A.to A.n S.requires.0 S.requires.1 B.move_eight.ensures in
    begun-then s x M.move_middle.new.s A.from A.to A.n 8 (A.n - 8) S.requires.0 b
    M.move_middle.ensures (omega arith)

pub move_short_spec : {M : Type 1} → statement M
move_short_spec =
    tie.close
    (tie.spec
    move-eight-requires
    move-middle-requires
    same_length
    returns)
