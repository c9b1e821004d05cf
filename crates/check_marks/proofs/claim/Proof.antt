-- `check_marks::claim` meets its contract: one word of the map a turn. Assumes nothing.
use Prim.Native.Nat.{◌-◌}
use native.Mathlib.Omega.{arith}
use Rattle.check_marks.proofs.Claims.{Claiming, claiming-start, claiming-on, claiming-met, claiming-end}
use Rattle.check_marks.proofs.claim.Statement.{statement}
use Rattle.check_marks.proofs.claim.Tie as tie

abbrev invariant-loop : tie.invariant-loop-q
invariant-loop map₀ from to q₀ map q = Claiming map₀ map from to q

abbrev decreases-loop : tie.decreases-loop-q
decreases-loop map₀ from to q₀ map q = to - q

loop-holds : tie.Need-loop-q-init invariant-loop decreases-loop
loop-holds c = claiming-start _ _ _ c.requires.0

sub-lesser : tie.Need-overflow_sub-to invariant-loop decreases-loop
sub-lesser c = omega arith

add-lesser : tie.Need-overflow_add-low invariant-loop decreases-loop
add-lesser c = omega arith

lesser-requires : tie.Need-lesser-high-requires invariant-loop decreases-loop
lesser-requires c κs = tt

mask-requires : tie.Need-mask-bits-requires invariant-loop decreases-loop
mask-requires c κs = omega (arith, c.lesser-high.ensures)

mul-held : tie.Need-offset_bounds-map-cell invariant-loop decreases-loop
mul-held c = omega arith

slice-read-held : tie.Need-bounds-map-cell invariant-loop decreases-loop
slice-read-held c = omega (arith, c.loop-q.invariant.size)

same_length : tie.Need-shape_of-map-then-held-bits-ne0 invariant-loop decreases-loop
same_length c = c.loop-q.invariant.size

returns : tie.Need-returns-then-held-bits-ne0 invariant-loop decreases-loop
returns c =
    let L = c in
    let S = c in
    let M = c in
    claiming-met _ _ _ _ L.loop-q.q L.loop-q.invariant c.loop-q-test.true S.requires.1
    M.lesser-high.result M.mask-bits.result M.lesser-high.ensures M.mask-bits.ensures c.if-held-bits-ne0.true

mul-map : tie.Need-offset_bounds-map-cell-in-loop-q invariant-loop decreases-loop
mul-map c = omega arith

slice-write-map : tie.Need-bounds-map-cell-in-loop-q invariant-loop decreases-loop
slice-write-map c = omega (arith, c.loop-q.invariant.size)

sub-q : tie.Need-overflow_sub-q invariant-loop decreases-loop
sub-q c = omega (arith, c.lesser-high.ensures)

add-q : tie.Need-overflow_add-q invariant-loop decreases-loop
add-q c = omega (arith, c.lesser-high.ensures)

loop-less : tie.Need-loop-q-smaller invariant-loop decreases-loop
loop-less c = omega (arith, c.lesser-high.ensures)

loop-again : tie.Need-loop-q-preserved invariant-loop decreases-loop
loop-again c =
    let L = c in
    let S = c in
    let M = c in
    claiming-on _ _ _ _ L.loop-q.q L.loop-q.invariant c.loop-q-test.true S.requires.1
    M.lesser-high.result M.mask-bits.result M.lesser-high.ensures M.mask-bits.ensures c.if-held-bits-ne0.false

same-length-2 : tie.Need-shape_of-map invariant-loop decreases-loop
same-length-2 c = c.loop-q.invariant.size

returns-2 : tie.Need-returns invariant-loop decreases-loop
returns-2 c = claiming-end _ _ _ _ c.loop-q.q c.loop-q.invariant c.loop-q-test.false

pub claim_spec : {M : Type 1} → statement M
claim_spec =
    tie.close
    (tie.spec
    invariant-loop
    decreases-loop
    loop-holds
    sub-lesser
    add-lesser
    lesser-requires
    mask-requires
    mul-held
    slice-read-held
    same_length
    returns
    mul-map
    slice-write-map
    sub-q
    add-q
    loop-less
    loop-again
    same-length-2
    returns-2)
