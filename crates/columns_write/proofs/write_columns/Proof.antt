-- After each turn the records up to a stand at their places; the width is written last. Assumes nothing.
use Prim.Native.Nat.{◌-◌}
use native.Mathlib.Omega.{arith}
use mathlib.Core.Path.{◌∙◌}
use lib.ListN.{length-set}
use Rattle.spec_columns.specs.Places.{BlockNext}
use Rattle.law_columns.proofs.Turned.{whole-width, whole-count}
use Rattle.law_columns.proofs.Steps.{block-first, block-next, written_all}
use Rattle.columns_write.proofs.write_columns.Statement.{statement}
use Rattle.columns_write.proofs.write_columns.Tie as tie

abbrev invariant-loop : tie.invariant-loop-a
invariant-loop space₀ records width n a₀ space a = BlockNext width n records space a a

abbrev decreases-loop : tie.decreases-loop-a
decreases-loop space₀ records width n a₀ space a = n - a

div-n : tie.Need-nonzero_div-n invariant-loop decreases-loop
div-n c = (whole-width _ _ c.requires.0).0

loop-holds : tie.Need-loop-a-init invariant-loop decreases-loop
loop-holds c =
    let S = c in
    let l = whole-count _ _ S.requires.0 in
    block-first _ _ _ _ l (omega arith)

block-end-requires : tie.Need-block_end-e-requires invariant-loop decreases-loop
block-end-requires c κs = omega arith

write-block-requires : tie.Need-write_block-requires invariant-loop decreases-loop
write-block-requires c κs = block-next _ c.loop-a.invariant (omega arith) (omega arith)

loop-less : tie.Need-loop-a-smaller invariant-loop decreases-loop
loop-less c = omega arith

loop-again : tie.Need-loop-a-preserved invariant-loop decreases-loop
loop-again c = c.write_block.ensures

cast-space : tie.Need-overflow_cast-space invariant-loop decreases-loop
cast-space c = omega (arith, (whole-width _ _ c.requires.0).1)

slice-write-space : tie.Need-bounds-space-0 invariant-loop decreases-loop
slice-write-space c = omega (arith, c.loop-a.invariant.sized.stored-length)

same_length : tie.Need-shape_of-space invariant-loop decreases-loop
same_length c =
    let S = c in
    let l = whole-count _ _ S.requires.0 in
    length-set c.loop-a.space 0 _ ∙ omega (arith, c.loop-a.invariant.sized.stored-length)

returns : tie.Need-returns invariant-loop decreases-loop
returns c =
    let S = c in
    written_all _ _ _ _ _ c.loop-a.invariant (omega arith) (whole-width _ _ S.requires.0).0

pub write_columns_spec : {M : Type 1} → statement M
write_columns_spec =
    tie.close
    (tie.spec
    invariant-loop
    decreases-loop
    div-n
    loop-holds
    block-end-requires
    write-block-requires
    loop-less
    loop-again
    cast-space
    slice-write-space
    same_length
    returns)
