-- The runs up to `at` are counted, the others are left. Assumes nothing.
use Prim.Native.Nat.{ℕ, ◌-◌}
use native.Mathlib.Omega.{arith}
use mathlib.Core.Path.{◌≡◌, subst}
use lib.ListN.{length}
use borrow.Author.Rules.{rules}
use Rattle.spec_file.specs.Bytes.{Bytes}
use Rattle.spec_changes.specs.Changes.{runs}
use Rattle.changes_windows.specs.Scans.{Measured}
use Rattle.changes_windows.specs.Windows.{before}
use Rattle.changes_windows.proofs.Windowed.{length_before}
use Rattle.changes_windows.proofs.Scanning.{Counting, counting-start, counting_more, counting-end}
use Rattle.changes_pairs.proofs.measure_within.Statement.{statement}
use Rattle.changes_pairs.proofs.measure_within.Tie as tie

abbrev invariant-loop : tie.invariant-loop-at
invariant-loop work new w pairs₀ bytes₀ at₀ pairs bytes at = Counting (before w work new) new pairs bytes at

abbrev decreases-loop : tie.decreases-loop-at
decreases-loop work new w pairs₀ bytes₀ at₀ pairs bytes at = length new - at

abbrev start : tie.At-loop-at invariant-loop decreases-loop → tie.Start invariant-loop decreases-loop
start L = L.before.before.before.before

-- the image before the call, as long as the one after it
abbrev old : tie.At-loop-at invariant-loop decreases-loop → Bytes
old L = let A = (start L).args in before A.w A.work.now A.new.now

size : (L : tie.At-loop-at invariant-loop decreases-loop) → length (old L) ≡ length (start L).args.new.now
size L = length_before _ _ _ (start L).requires

next-change-requires : tie.Need-next_change-at-requires invariant-loop decreases-loop
next-change-requires c κs = (c.requires, omega arith)

loop-holds : tie.Need-loop-at-init invariant-loop decreases-loop
loop-holds c = counting-start _ _ _ c.next_change-at.ensures

run-end-requires : tie.Need-run_end-end-requires invariant-loop decreases-loop
run-end-requires c κs =
    let L = c.before in
    ((start L).requires, c.loop-at-test.true, L.loop-at.invariant.change (omega (arith, size L, c.loop-at-test.true)))

add-pairs : tie.Need-overflow_add-pairs invariant-loop decreases-loop
add-pairs c =
    let L = c.before.before in
    omega (arith, size L, L.loop-at.invariant.few, L.loop-at.invariant.high)

sub-bytes : tie.Need-overflow_sub-bytes invariant-loop decreases-loop
sub-bytes c = omega (arith, c.run_end-end.ensures.low)

add-bytes : tie.Need-overflow_add-bytes invariant-loop decreases-loop
add-bytes c =
    let L = c.before.before in
    omega (arith, size L, L.loop-at.invariant.small, c.run_end-end.ensures.low, c.run_end-end.ensures.high)

next-change-requires-2 : tie.Need-next_change-at-requires-in-loop-at invariant-loop decreases-loop
next-change-requires-2 c κs =
    let L = c.before.before in
    ((start L).requires, omega (arith, size L, c.run_end-end.ensures.high))

loop-less : tie.Need-loop-at-smaller invariant-loop decreases-loop
loop-less c =
    let R = c in
    omega (
      arith,
      size c.before.before.before,
      R.run_end-end.ensures.low,
      R.run_end-end.ensures.high,
      c.next_change-at-in-loop-at.ensures.low,
    )

loop-again : tie.Need-loop-at-preserved invariant-loop decreases-loop
loop-again c =
    let R = c in
    counting_more _ _ _ _ _ _ _ R.loop-at.invariant R.run_end-end.ensures c.next_change-at-in-loop-at.ensures

returns : tie.Need-returns invariant-loop decreases-loop
returns c =
    let L = c.before in
    subst (λ (n : ℕ). Measured (runs 0 (old L) (start L).args.new.now) n L.loop-at.pairs L.loop-at.bytes) (size L)
    (counting-end _ _ _ _ _ (size L) L.loop-at.invariant (omega (arith, size L, c.loop-at-test.false)))

pub measure_within_spec : {M : Type 1} → statement M
measure_within_spec =
    tie.close
    (tie.spec
    invariant-loop
    decreases-loop
    next-change-requires
    loop-holds
    run-end-requires
    add-pairs
    sub-bytes
    add-bytes
    next-change-requires-2
    loop-less
    loop-again
    returns)
