-- After each turn what is left decides, and the last block decides what is left of it. Assumes nothing.
use Prim.Native.Nat.{ℕ, ◌≤◌, ◌-◌}
use native.Mathlib.Omega.{arith}
use mathlib.Core.Path.{◌≡◌, refl, sym, ap, ◌∙◌}
use lib.ListN.{length, drop}
use lib.Dec.{eqb}
use Rattle.spec_file.specs.Bytes.{all_zero}
use Rattle.bytes_compare.proofs.Compare.{all_zero-block, all_zero-differ, all_zero-last}
use Rattle.bytes_compare.proofs.all_zero.Statement.{statement}
use Rattle.bytes_compare.proofs.all_zero.Tie as tie

abbrev invariant-loop : tie.invariant-loop-i
invariant-loop s n last i₀ i = (i ≤ length s) × (all_zero s ≡ all_zero (drop i s))

abbrev decreases-loop : tie.decreases-loop-i
decreases-loop s n last i₀ i = length s - i

zero-short-requires : tie.Need-zero_short-requires invariant-loop decreases-loop
zero-short-requires c κs = c.if-n-lt8.true

returns : tie.Need-returns-then-n-lt8 invariant-loop decreases-loop
returns c = c.zero_short.ensures

loop-holds : tie.Need-loop-i-init invariant-loop decreases-loop
loop-holds c = (omega arith, refl)

eight-requires : tie.Need-eight-requires invariant-loop decreases-loop
eight-requires c κs = omega arith

returns-2 : tie.Need-returns-then-eight-ne0 invariant-loop decreases-loop
returns-2 c =
    let L = c in
    let s = L.args.s.now in
    sym (all_zero-differ s L.loop-i.i 8 (λ e. c.if-eight-ne0.true (c.eight.ensures ∙ e)))

add-i : tie.Need-overflow_add-i invariant-loop decreases-loop
add-i c = omega arith

loop-less : tie.Need-loop-i-smaller invariant-loop decreases-loop
loop-less c = omega arith

loop-again : tie.Need-loop-i-preserved invariant-loop decreases-loop
loop-again c =
    let L = c in
    let s = L.args.s.now in (
      omega arith,
      L.loop-i.invariant.1 ∙ all_zero-block s L.loop-i.i 8 (sym c.eight.ensures ∙ c.if-eight-ne0.false),
    )

eight-requires-2 : tie.Need-eight-requires-2 invariant-loop decreases-loop
eight-requires-2 c κs = omega arith

returns-3 : tie.Need-returns invariant-loop decreases-loop
returns-3 c =
    let L = c in
    let s = L.args.s.now in
    ap (λ (x : ℕ). eqb x 0) c.eight-2.ensures
    ∙ all_zero-last s (length s - 8) L.loop-i.i 8 (omega arith) (omega arith) L.loop-i.invariant.1

pub all_zero_spec : {M : Type 1} → statement M
all_zero_spec =
    tie.close
    (tie.spec
    invariant-loop
    decreases-loop
    zero-short-requires
    returns
    loop-holds
    eight-requires
    returns-2
    add-i
    loop-less
    loop-again
    eight-requires-2
    returns-3)
