-- Eight stores are one, of the eight bytes that were read. Assumes nothing.
use Prim.Native.Nat.{◌+◌}
use native.Mathlib.Omega.{arith}
use mathlib.Core.Path.{sym, ap, ◌∙◌}
use lib.ListN.{get_or, length-set}
use borrow.Author.Rules.{rules}
use Rattle.spec_file.specs.Bytes.{Bytes, store}
use Rattle.bytes_compare.proofs.Little.{part-eight, store-eight}
use Rattle.bytes_move.proofs.move_eight.Statement.{statement}
use Rattle.bytes_move.proofs.move_eight.Tie as tie

slice-read-b0 : tie.Need-bounds-s-from
slice-read-b0 c = search rules

add-b1 : tie.Need-overflow_add-b1
add-b1 c = search rules

slice-read-b1 : tie.Need-bounds-s-from-2
slice-read-b1 c = search rules

add-b2 : tie.Need-overflow_add-b2
add-b2 c = search rules

slice-read-b2 : tie.Need-bounds-s-from-3
slice-read-b2 c = search rules

add-b3 : tie.Need-overflow_add-b3
add-b3 c = search rules

slice-read-b3 : tie.Need-bounds-s-from-4
slice-read-b3 c = search rules

add-b4 : tie.Need-overflow_add-b4
add-b4 c = search rules

slice-read-b4 : tie.Need-bounds-s-from-5
slice-read-b4 c = search rules

add-b5 : tie.Need-overflow_add-b5
add-b5 c = search rules

slice-read-b5 : tie.Need-bounds-s-from-6
slice-read-b5 c = search rules

add-b6 : tie.Need-overflow_add-b6
add-b6 c = search rules

slice-read-b6 : tie.Need-bounds-s-from-7
slice-read-b6 c = search rules

add-b7 : tie.Need-overflow_add-b7
add-b7 c = search rules

slice-read-b7 : tie.Need-bounds-s-from-8
slice-read-b7 c = search rules

slice-write-s : tie.Need-bounds-s-to
slice-write-s c = search rules

add-s : tie.Need-overflow_add-s
add-s c = search rules

slice-write-s-2 : tie.Need-bounds-s-to-2
slice-write-s-2 c = simp length-set (omega arith)

add-s-2 : tie.Need-overflow_add-s-2
add-s-2 c = search rules

slice-write-s-3 : tie.Need-bounds-s-to-3
slice-write-s-3 c = simp length-set (omega arith)

add-s-3 : tie.Need-overflow_add-s-3
add-s-3 c = search rules

slice-write-s-4 : tie.Need-bounds-s-to-4
slice-write-s-4 c = simp length-set (omega arith)

add-s-4 : tie.Need-overflow_add-s-4
add-s-4 c = search rules

slice-write-s-5 : tie.Need-bounds-s-to-5
slice-write-s-5 c = simp length-set (omega arith)

add-s-5 : tie.Need-overflow_add-s-5
add-s-5 c = search rules

slice-write-s-6 : tie.Need-bounds-s-to-6
slice-write-s-6 c = simp length-set (omega arith)

add-s-6 : tie.Need-overflow_add-s-6
add-s-6 c = search rules

slice-write-s-7 : tie.Need-bounds-s-to-7
slice-write-s-7 c = simp length-set (omega arith)

add-s-7 : tie.Need-overflow_add-s-7
add-s-7 c = search rules

slice-write-s-8 : tie.Need-bounds-s-to-8
slice-write-s-8 c = simp length-set (omega arith)

same_length : tie.Need-shape_of-s
same_length c = simp length-set

returns : tie.Need-returns
returns c =
    let B = c in
    let A = B.args in
    let s = A.s.now in
    let i = A.from in
    store-eight A.s.now A.to
    (get_or s i 0) (get_or s (i + 1) 0) (get_or s (i + 2) 0) (get_or s (i + 3) 0)
    (get_or s (i + 4) 0) (get_or s (i + 5) 0) (get_or s (i + 6) 0) (get_or s (i + 7) 0)
    (omega arith)
    ∙ ap (λ (t : Bytes). store A.s.now A.to t) (sym (part-eight s i (omega arith)))

pub move_eight_spec : {M : Type 1} → statement M
move_eight_spec =
    tie.close
    (tie.spec
    slice-read-b0
    add-b1
    slice-read-b1
    add-b2
    slice-read-b2
    add-b3
    slice-read-b3
    add-b4
    slice-read-b4
    add-b5
    slice-read-b5
    add-b6
    slice-read-b6
    add-b7
    slice-read-b7
    slice-write-s
    add-s
    slice-write-s-2
    add-s-2
    slice-write-s-3
    add-s-3
    slice-write-s-4
    add-s-4
    slice-write-s-5
    add-s-5
    slice-write-s-6
    add-s-6
    slice-write-s-7
    add-s-7
    slice-write-s-8
    same_length
    returns)
