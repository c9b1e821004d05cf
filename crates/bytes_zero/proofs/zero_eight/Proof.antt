-- Eight stores are one, of eight zeros. Assumes nothing.
use native.Mathlib.Omega.{arith}
use lib.ListN.{length-set}
use borrow.Author.Rules.{rules}
use Rattle.spec_file.specs.Bytes.{zeros}
use Rattle.bytes_compare.proofs.Little.{store-eight}
use Rattle.bytes_zero.proofs.zero_eight.Statement.{statement}
use Rattle.bytes_zero.proofs.zero_eight.Tie as tie

slice-write-s : tie.Need-bounds-s-i
slice-write-s c = search rules

add-s : tie.Need-overflow_add-s
add-s c = search rules

slice-write-s-2 : tie.Need-bounds-s-i-2
slice-write-s-2 c = simp length-set (omega arith)

add-s-2 : tie.Need-overflow_add-s-2
add-s-2 c = search rules

slice-write-s-3 : tie.Need-bounds-s-i-3
slice-write-s-3 c = simp length-set (omega arith)

add-s-3 : tie.Need-overflow_add-s-3
add-s-3 c = search rules

slice-write-s-4 : tie.Need-bounds-s-i-4
slice-write-s-4 c = simp length-set (omega arith)

add-s-4 : tie.Need-overflow_add-s-4
add-s-4 c = search rules

slice-write-s-5 : tie.Need-bounds-s-i-5
slice-write-s-5 c = simp length-set (omega arith)

add-s-5 : tie.Need-overflow_add-s-5
add-s-5 c = search rules

slice-write-s-6 : tie.Need-bounds-s-i-6
slice-write-s-6 c = simp length-set (omega arith)

add-s-6 : tie.Need-overflow_add-s-6
add-s-6 c = search rules

slice-write-s-7 : tie.Need-bounds-s-i-7
slice-write-s-7 c = simp length-set (omega arith)

add-s-7 : tie.Need-overflow_add-s-7
add-s-7 c = search rules

slice-write-s-8 : tie.Need-bounds-s-i-8
slice-write-s-8 c = simp length-set (omega arith)

same_length : tie.Need-shape_of-s
same_length c = simp length-set

returns : tie.Need-returns
unfolding zeros
returns c = store-eight c.args.s.now c.args.i 0 0 0 0 0 0 0 0 c.requires

pub zero_eight_spec : {M : Type 1} → statement M
zero_eight_spec =
    tie.close
    (tie.spec
    slice-write-s
    add-s
    slice-write-s-2
    add-s-2
    slice-write-s-3
    add-s-3
    slice-write-s-4
    add-s-4
    slice-write-s-5
    add-s-5
    slice-write-s-6
    add-s-6
    slice-write-s-7
    add-s-7
    slice-write-s-8
    same_length
    returns)
