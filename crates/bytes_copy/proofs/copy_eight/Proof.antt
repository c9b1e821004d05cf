-- Eight stores are one, of the eight bytes that were read. Assumes nothing.
use Prim.Native.Nat.{◌+◌}
use native.Mathlib.Omega.{arith}
use mathlib.Core.Path.{sym, ap, ◌∙◌}
use lib.ListN.{get_or, length-set}
use borrow.Author.Rules.{rules}
use Rattle.spec_file.specs.Bytes.{Bytes, store}
use Rattle.bytes_compare.proofs.Little.{part-eight, store-eight}
use Rattle.bytes_copy.proofs.copy_eight.Statement.{statement}
use Rattle.bytes_copy.proofs.copy_eight.Tie as tie

shared-slice-read-b0 : tie.Need-bounds-src-i
shared-slice-read-b0 c = search rules

add-b1 : tie.Need-overflow_add-b1
add-b1 c = search rules

shared-slice-read-b1 : tie.Need-bounds-src-i-2
shared-slice-read-b1 c = search rules

add-b2 : tie.Need-overflow_add-b2
add-b2 c = search rules

shared-slice-read-b2 : tie.Need-bounds-src-i-3
shared-slice-read-b2 c = search rules

add-b3 : tie.Need-overflow_add-b3
add-b3 c = search rules

shared-slice-read-b3 : tie.Need-bounds-src-i-4
shared-slice-read-b3 c = search rules

add-b4 : tie.Need-overflow_add-b4
add-b4 c = search rules

shared-slice-read-b4 : tie.Need-bounds-src-i-5
shared-slice-read-b4 c = search rules

add-b5 : tie.Need-overflow_add-b5
add-b5 c = search rules

shared-slice-read-b5 : tie.Need-bounds-src-i-6
shared-slice-read-b5 c = search rules

add-b6 : tie.Need-overflow_add-b6
add-b6 c = search rules

shared-slice-read-b6 : tie.Need-bounds-src-i-7
shared-slice-read-b6 c = search rules

add-b7 : tie.Need-overflow_add-b7
add-b7 c = search rules

shared-slice-read-b7 : tie.Need-bounds-src-i-8
shared-slice-read-b7 c = search rules

slice-write-dst : tie.Need-bounds-dst-i
slice-write-dst c = search rules

add-dst : tie.Need-overflow_add-dst
add-dst c = search rules

slice-write-dst-2 : tie.Need-bounds-dst-i-2
slice-write-dst-2 c = simp length-set (omega arith)

add-dst-2 : tie.Need-overflow_add-dst-2
add-dst-2 c = search rules

slice-write-dst-3 : tie.Need-bounds-dst-i-3
slice-write-dst-3 c = simp length-set (omega arith)

add-dst-3 : tie.Need-overflow_add-dst-3
add-dst-3 c = search rules

slice-write-dst-4 : tie.Need-bounds-dst-i-4
slice-write-dst-4 c = simp length-set (omega arith)

add-dst-4 : tie.Need-overflow_add-dst-4
add-dst-4 c = search rules

slice-write-dst-5 : tie.Need-bounds-dst-i-5
slice-write-dst-5 c = simp length-set (omega arith)

add-dst-5 : tie.Need-overflow_add-dst-5
add-dst-5 c = search rules

slice-write-dst-6 : tie.Need-bounds-dst-i-6
slice-write-dst-6 c = simp length-set (omega arith)

add-dst-6 : tie.Need-overflow_add-dst-6
add-dst-6 c = search rules

slice-write-dst-7 : tie.Need-bounds-dst-i-7
slice-write-dst-7 c = simp length-set (omega arith)

add-dst-7 : tie.Need-overflow_add-dst-7
add-dst-7 c = search rules

slice-write-dst-8 : tie.Need-bounds-dst-i-8
slice-write-dst-8 c = simp length-set (omega arith)

same_length : tie.Need-shape_of-dst
same_length c = simp length-set

returns : tie.Need-returns
returns c =
    let B = c in
    let A = B.args in
    let s = A.src.now in
    let i = A.i in
    store-eight A.dst.now A.i
    (get_or s i 0) (get_or s (i + 1) 0) (get_or s (i + 2) 0) (get_or s (i + 3) 0)
    (get_or s (i + 4) 0) (get_or s (i + 5) 0) (get_or s (i + 6) 0) (get_or s (i + 7) 0)
    (omega arith)
    ∙ ap (λ (t : Bytes). store A.dst.now A.i t) (sym (part-eight s i (omega arith)))

pub copy_eight_spec : {M : Type 1} → statement M
copy_eight_spec =
    tie.close
    (tie.spec
    shared-slice-read-b0
    add-b1
    shared-slice-read-b1
    add-b2
    shared-slice-read-b2
    add-b3
    shared-slice-read-b3
    add-b4
    shared-slice-read-b4
    add-b5
    shared-slice-read-b5
    add-b6
    shared-slice-read-b6
    add-b7
    shared-slice-read-b7
    slice-write-dst
    add-dst
    slice-write-dst-2
    add-dst-2
    slice-write-dst-3
    add-dst-3
    slice-write-dst-4
    add-dst-4
    slice-write-dst-5
    add-dst-5
    slice-write-dst-6
    add-dst-6
    slice-write-dst-7
    add-dst-7
    slice-write-dst-8
    same_length
    returns)
