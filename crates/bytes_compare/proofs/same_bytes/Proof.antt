-- After each turn what is left to compare decides, and the last block decides what is left of it. Assumes nothing.
use Prim.Native.Nat.{◌≤◌, ◌-◌}
use native.Mathlib.Omega.{arith}
use mathlib.Core.Path.{◌≡◌, refl, sym, ap₂, ◌∙◌}
use lib.ListN.{length, drop}
use lib.Dec.{eqb}
use Rattle.spec_file.specs.Bytes.{same}
use Rattle.law_file.proofs.Bytes.{AreBytes}
use Rattle.bytes_compare.proofs.Compare.{same_block, block-differ, same-last, same-lengths}
use Rattle.bytes_compare.proofs.same_bytes.Statement.{statement}
use Rattle.bytes_compare.proofs.same_bytes.Tie as tie

abbrev invariant-loop : tie.invariant-loop-i
invariant-loop a b n last i₀ i = (i ≤ length a) × (same a b ≡ same (drop i a) (drop i b))

abbrev decreases-loop : tie.decreases-loop-i
decreases-loop a b n last i₀ i = length a - i

returns : tie.Need-returns-then-n-b invariant-loop decreases-loop
returns c =
    let A = c.args in
    sym (same-lengths A.a.now A.b.now c.if-n-b.true)

same-short-requires : tie.Need-same_short-requires invariant-loop decreases-loop
same-short-requires c κs = (omega arith, c.if-n-lt8.true)

returns-2 : tie.Need-returns-then-n-lt8 invariant-loop decreases-loop
returns-2 c = c.same_short.ensures

loop-holds : tie.Need-loop-i-init invariant-loop decreases-loop
loop-holds c = (omega arith, refl)

eight-requires : tie.Need-eight-requires invariant-loop decreases-loop
eight-requires c κs = omega arith

eight-requires-2 : tie.Need-eight-requires-in-loop-i invariant-loop decreases-loop
eight-requires-2 c κs = omega arith

returns-3 : tie.Need-returns-then-eight invariant-loop decreases-loop
returns-3 c =
    let L = c in
    let A = L.args in
    sym
    (block-differ A.a.now A.b.now L.loop-i.i 8
    (λ e. c.if-eight.true (c.eight.ensures ∙ e ∙ sym c.eight-in-loop-i.ensures)))

add-i : tie.Need-overflow_add-i invariant-loop decreases-loop
add-i c = omega arith

loop-less : tie.Need-loop-i-smaller invariant-loop decreases-loop
loop-less c = omega arith

loop-again : tie.Need-loop-i-preserved invariant-loop decreases-loop
loop-again c =
    let L = c in
    let A = L.args in
    let ba : AreBytes A.a.now =
    λ k. omega (arith, L.shared_slice_known-1.given k) in
    let bb : AreBytes A.b.now =
    λ k. omega (arith, L.shared_slice_known-2-1.given k) in (
      omega arith,
      L.loop-i.invariant.1
          ∙ same_block A.a.now A.b.now ba bb (omega arith) L.loop-i.i 8 (omega arith)
          (sym c.eight.ensures ∙ c.if-eight.false ∙ c.eight-in-loop-i.ensures),
    )

eight-requires-3 : tie.Need-eight-requires-2 invariant-loop decreases-loop
eight-requires-3 c κs = omega arith

eight-requires-4 : tie.Need-eight-requires-3 invariant-loop decreases-loop
eight-requires-4 c κs = omega arith

returns-4 : tie.Need-returns invariant-loop decreases-loop
returns-4 c =
    let L = c in
    let A = L.args in
    let ba : AreBytes A.a.now =
    λ k. omega (arith, L.shared_slice_known-1.given k) in
    let bb : AreBytes A.b.now =
    λ k. omega (arith, L.shared_slice_known-2-1.given k) in
    ap₂ eqb c.eight-2.ensures c.eight-3.ensures
    ∙ same-last A.a.now A.b.now ba bb (omega arith) (length A.a.now - 8) L.loop-i.i 8
    (omega arith) (omega arith)
    L.loop-i.invariant.1

pub same_bytes_spec : {M : Type 1} → statement M
same_bytes_spec =
    tie.close
    (tie.spec
    invariant-loop
    decreases-loop
    returns
    same-short-requires
    returns-2
    loop-holds
    eight-requires
    eight-requires-2
    returns-3
    add-i
    loop-less
    loop-again
    eight-requires-3
    eight-requires-4
    returns-4)
