-- Each turn passes over a block that is the same, so that what is left stays. Assumes nothing.
use Prim.Native.Nat.{◌-◌, ◌≤◌}
use native.Mathlib.Omega.{arith}
use mathlib.Core.Path.{◌≡◌, refl, ◌∙◌}
use lib.ListN.{length}
use Rattle.law_file.proofs.Tests.{was-yes}
use Rattle.changes_windows.specs.Scans.{rest}
use Rattle.changes_next.proofs.Steps.{block-passed}
use Rattle.changes_next.proofs.past_blocks.Statement.{statement}
use Rattle.changes_next.proofs.past_blocks.Tie as tie

abbrev invariant-loop : tie.invariant-loop-i
invariant-loop old new from end i₀ i = (i ≤ length new) × (rest old new from ≡ rest old new i)

abbrev decreases-loop : tie.decreases-loop-i
decreases-loop old new from end i₀ i = length new - i

loop-holds : tie.Need-loop-i-init invariant-loop decreases-loop
loop-holds c = (c.requires.1, refl)

sub-loop : tie.Need-overflow_sub-end invariant-loop decreases-loop
sub-loop c = c.loop-i.invariant.0

same-block-requires : tie.Need-same_block-requires invariant-loop decreases-loop
same-block-requires c κs =
    let l = c.requires.0 in
    (omega (arith, l, c.loop-i-test.true), omega (arith, c.loop-i-test.true))

returns : tie.Need-returns-then-not-same_block invariant-loop decreases-loop
returns c = c.loop-i.invariant

add-i : tie.Need-overflow_add-i invariant-loop decreases-loop
add-i c = omega (arith, c.loop-i-test.true)

loop-less : tie.Need-loop-i-smaller invariant-loop decreases-loop
loop-less c = omega (arith, c.loop-i-test.true)

loop-again : tie.Need-loop-i-preserved invariant-loop decreases-loop
loop-again c =
    let L = c in
    let S = c in
    let A = S.args in
    let l = S.requires.0 in (
      omega (arith, c.loop-i-test.true),
      L.loop-i.invariant.1
          ∙ block-passed A.old.now A.new.now L.loop-i.i 64 l
          (omega (arith, l, c.loop-i-test.true))
          (was-yes c.same_block.ensures c.if-not-same_block.false),
    )

returns-2 : tie.Need-returns invariant-loop decreases-loop
returns-2 c = c.loop-i.invariant

pub past_blocks_spec : {M : Type 1} → statement M
past_blocks_spec =
    tie.close
    (tie.spec
    invariant-loop
    decreases-loop
    loop-holds
    sub-loop
    same-block-requires
    returns
    add-i
    loop-less
    loop-again
    returns-2)
