-- After each turn the first j bytes of the block's records are placed. Assumes nothing.
use Prim.Native.Nat.{◌-◌, ◌≤◌}
use native.Mathlib.Omega.{arith}
use Rattle.spec_columns.specs.Places.{BlockTo}
use Rattle.columns_read.proofs.read_fours.Statement.{statement}
use Rattle.columns_read.proofs.read_fours.Tie as tie

abbrev invariant-loop : tie.invariant-loop-j
invariant-loop out₀ stored width n a e j₀ out j = (j ≤ width) × BlockTo width n out stored a e j

abbrev decreases-loop : tie.decreases-loop-j
decreases-loop out₀ stored width n a e j₀ out j = width - j

loop-holds : tie.Need-loop-j-init invariant-loop decreases-loop
loop-holds c = (omega arith, (c.requires, λ r j p q. absurd (omega arith)))

sub-loop : tie.Need-overflow_sub-width invariant-loop decreases-loop
sub-loop c = omega arith

read-four-requires : tie.Need-read_four-requires invariant-loop decreases-loop
read-four-requires c κs = (omega arith, c.loop-j.invariant.1)

add-j : tie.Need-overflow_add-j invariant-loop decreases-loop
add-j c = omega arith

loop-less : tie.Need-loop-j-smaller invariant-loop decreases-loop
loop-less c = omega arith

loop-again : tie.Need-loop-j-preserved invariant-loop decreases-loop
loop-again c = (omega arith, c.read_four.ensures)

same_length : tie.Need-shape_of-out invariant-loop decreases-loop
same_length c = omega (arith, c.loop-j.invariant.1.0.sized.records-length)

returns : tie.Need-returns invariant-loop decreases-loop
returns c = c.loop-j.invariant

pub read_fours_spec : {M : Type 1} → statement M
read_fours_spec =
    tie.close
    (tie.spec
    invariant-loop
    decreases-loop
    loop-holds
    sub-loop
    read-four-requires
    add-j
    loop-less
    loop-again
    same_length
    returns)
