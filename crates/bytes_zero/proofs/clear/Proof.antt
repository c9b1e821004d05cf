-- After each turn the first i bytes are zero; the last block may overlap the one before. Assumes nothing.
use Prim.Native.Nat.{◌+◌, ◌-◌, ◌≤◌}
use native.Mathlib.Omega.{arith}
use mathlib.Core.Path.{◌≡◌, refl, ap, ◌∙◌}
use lib.ListN.{length}
use Rattle.spec_file.specs.Bytes.{zeros}
use Rattle.law_file.proofs.Bytes.{length-store, length-zeros}
use Rattle.bytes_zero.proofs.Cleared.{Cleared, cleared-block, cleared-all}
use Rattle.bytes_zero.proofs.clear.Statement.{statement}
use Rattle.bytes_zero.proofs.clear.Tie as tie

abbrev invariant-loop : tie.invariant-loop-i
invariant-loop s₀ n last i₀ s i = Cleared s i × (i ≤ last) × (length s ≡ length s₀)

abbrev decreases-loop : tie.decreases-loop-i
decreases-loop s₀ n last i₀ s i = last - i

zero-requires : tie.Need-zero-requires invariant-loop decreases-loop
zero-requires c κs = tt

same_length : tie.Need-shape_of-s-then-n-lt8 invariant-loop decreases-loop
same_length c =
    let S = c in
    ap length c.zero.ensures ∙ length-zeros (length S.args.s.now)

returns : tie.Need-returns-then-n-lt8 invariant-loop decreases-loop
returns c = c.zero.ensures

loop-holds : tie.Need-loop-i-init invariant-loop decreases-loop
loop-holds c = ((λ j h. absurd (omega (arith, h))), omega arith, refl)

zero-eight-requires : tie.Need-zero_eight-requires invariant-loop decreases-loop
zero-eight-requires c κs =
    let L = c in
    omega (arith, L.loop-i.invariant.2, c.loop-i-test.true)

next-block-requires : tie.Need-next_block-i-requires invariant-loop decreases-loop
next-block-requires c κs =
    let T = c in
    omega (arith, T.loop-i-test.true)

loop-less : tie.Need-loop-i-smaller invariant-loop decreases-loop
loop-less c = omega (arith, c.next_block-i.ensures)

loop-again : tie.Need-loop-i-preserved invariant-loop decreases-loop
unfolding zeros
loop-again c =
    let L = c in
    let Z = c.zero_eight in
    let room : L.loop-i.i + 8 ≤ length L.loop-i.s = omega (arith, L.loop-i.invariant.2) in (
      cleared-block L.loop-i.s Z.new.s L.loop-i.i c.next_block-i.result L.loop-i.invariant.0 room Z.ensures
          (omega (arith, c.next_block-i.ensures)),
      omega (arith, c.next_block-i.ensures),
      ap length Z.ensures ∙ length-store L.loop-i.s L.loop-i.i (zeros 8) room ∙ L.loop-i.invariant.2,
    )

zero-eight-requires-2 : tie.Need-zero_eight-requires-2 invariant-loop decreases-loop
zero-eight-requires-2 c κs = omega (arith, c.loop-i.invariant.2)

-- after the last block
long : (c : tie.After-slice_known-2-1 invariant-loop decreases-loop)
    → let L = c in
    length c.zero_eight-2.new.s ≡ length L.args.s.now
unfolding zeros
long c =
    let L = c in
    let Z = c.zero_eight-2 in
    ap length Z.ensures
    ∙ length-store L.loop-i.s (length L.args.s.now - 8) (zeros 8)
    (omega (arith, L.loop-i.invariant.2))
    ∙ L.loop-i.invariant.2

same-length-2 : tie.Need-shape_of-s invariant-loop decreases-loop
same-length-2 c = long c

returns-2 : tie.Need-returns invariant-loop decreases-loop
returns-2 c =
    let L = c in
    let Z = c.zero_eight-2 in
    let n = length L.args.s.now in
    cleared-all Z.new.s n (long c)
    (cleared-block L.loop-i.s Z.new.s (n - 8) n (λ j h. L.loop-i.invariant.0 j (omega (arith, h)))
    (omega (arith, L.loop-i.invariant.2)) Z.ensures (omega arith))

pub clear_spec : {M : Type 1} → statement M
clear_spec =
    tie.close
    (tie.spec
    invariant-loop
    decreases-loop
    zero-requires
    same_length
    returns
    loop-holds
    zero-eight-requires
    next-block-requires
    loop-less
    loop-again
    zero-eight-requires-2
    same-length-2
    returns-2)
