-- After each turn the records up to a stand at their places. Assumes nothing.
use Prim.Native.Nat.{◌-◌}
use native.Mathlib.Omega.{arith}
use mathlib.Core.Bool.{true}
use mathlib.Core.Path.{◌≡◌, sym}
use lib.ListN.{length}
use borrow.Author.Rules.{rules}
use Rattle.spec_columns.specs.Columns.{whole_records}
use Rattle.spec_columns.specs.Places.{BlockNext}
use Rattle.law_columns.proofs.Turned.{whole-width, whole-count, whole-read}
use Rattle.law_columns.proofs.Steps.{block-first, block-next, read_all}
use Rattle.columns_read.proofs.read_columns.Statement.{statement}
use Rattle.columns_read.proofs.read_columns.Tie as tie

abbrev invariant-loop : tie.invariant-loop-a
invariant-loop out₀ stored width n a₀ out a = BlockNext width n out stored a a

abbrev decreases-loop : tie.decreases-loop-a
decreases-loop out₀ stored width n a₀ out a = n - a

width-of-requires : tie.Need-width_of-width-requires invariant-loop decreases-loop
width-of-requires c κs = search rules

-- the bytes that are read are whole records
whole : (c : tie.After-width_of-width invariant-loop decreases-loop)
    → whole_records c.width_of-width.result (length c.args.out.now) ≡ true
whole c =
    let S = c in
    whole-read _ _ S.args.stored.now c.width_of-width.ensures S.requires.1 S.requires.0

div-n : tie.Need-nonzero_div-n invariant-loop decreases-loop
div-n c = (whole-width _ _ (whole c)).0

loop-holds : tie.Need-loop-a-init invariant-loop decreases-loop
loop-holds c =
    let l = whole-count _ _ (whole c) in
    block-first _ _ _ _ l (omega arith)

block-end-requires : tie.Need-block_end-e-requires invariant-loop decreases-loop
block-end-requires c κs = omega arith

read-block-requires : tie.Need-read_block-requires invariant-loop decreases-loop
read-block-requires c κs = block-next _ c.loop-a.invariant (omega arith) (omega arith)

loop-less : tie.Need-loop-a-smaller invariant-loop decreases-loop
loop-less c = omega arith

loop-again : tie.Need-loop-a-preserved invariant-loop decreases-loop
loop-again c = c.read_block.ensures

same_length : tie.Need-shape_of-out invariant-loop decreases-loop
same_length c =
    let l = whole-count _ _ (whole c.before.before) in
    omega (arith, c.loop-a.invariant.sized.records-length)

returns : tie.Need-returns invariant-loop decreases-loop
returns c =
    let W = c.before.before in
    read_all _ _ _ _ _ c.loop-a.invariant (omega arith) (sym W.width_of-width.ensures) (whole-width _ _ (whole W)).0

pub read_columns_spec : {M : Type 1} → statement M
read_columns_spec =
    tie.close
    (tie.spec
    invariant-loop
    decreases-loop
    width-of-requires
    div-n
    loop-holds
    block-end-requires
    read-block-requires
    loop-less
    loop-again
    same_length
    returns)
