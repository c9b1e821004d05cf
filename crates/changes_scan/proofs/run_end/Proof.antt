-- Every byte from the run's start up to i differs, until one does not, a window ends or none is left. Assumes nothing.
use Prim.Native.Nat.{ℕ, ◌-◌, ◌≤◌, ◌<◌}
use native.Mathlib.Omega.{arith}
use mathlib.Core.Logic.{inl}
use lib.ListN.{length}
use Rattle.spec_file.specs.Bytes.{Bytes}
use Rattle.law_file.proofs.Tests.{by_le}
use Rattle.changes_windows.specs.Scans.{Differ, RunTo}
use Rattle.changes_windows.specs.Windows.{before}
use Rattle.changes_windows.proofs.Scanning.{Stops, run-to, stops-later}
use Rattle.changes_windows.proofs.Windowed.{length_before, window-differ, gap-stops, window-stops}
use Rattle.changes_scan.proofs.run_end.Statement.{statement}
use Rattle.changes_scan.proofs.run_end.Tie as tie

abbrev invariant-loop : tie.invariant-loop-i
invariant-loop work new w from size i₀ i =
    (from ≤ i) × (i ≤ length new) × ((j : ℕ) → from ≤ j → j < i → Differ (before w work new) new j)

abbrev decreases-loop : tie.decreases-loop-i
decreases-loop work new w from size i₀ i = length new - i

abbrev start : tie.At-loop-i invariant-loop decreases-loop → tie.Start invariant-loop decreases-loop
start L = L.before.before.before

-- the two images
abbrev old : tie.At-loop-i invariant-loop decreases-loop → Bytes
old L = let A = (start L).args in before A.w A.work.now A.new.now

abbrev new : tie.At-loop-i invariant-loop decreases-loop → Bytes
new L = (start L).args.new.now

-- the run ends where it stops
ends : (L : tie.At-loop-i invariant-loop decreases-loop) (i : ℕ) → (start L).args.from ≤ i → i ≤ length (new L)
    → ((j : ℕ) → (start L).args.from ≤ j → j < i → Differ (old L) (new L) j)
    → Stops (old L) (new L) (length_before _ _ _ (start L).requires.0) i
    → RunTo (old L) (new L) (start L).args.from i
ends L i low high d s =
    let S = start L in
    let size = length_before _ _ _ S.requires.0 in
    run-to (old L) (new L) size S.args.from i
    (stops-later (old L) (new L) size S.args.from i (omega (arith, S.requires.1)) S.requires.2 low s)
    (omega arith) d s

loop-holds : tie.Need-loop-i-init invariant-loop decreases-loop
loop-holds c = (omega arith, omega (arith, c.requires.1), λ j a b. absurd (omega arith))

ahead-requires : tie.Need-ahead-window-requires invariant-loop decreases-loop
ahead-requires c κs =
    let L = c.before in
    ((start L).requires.0.sorted, L.loop-i.invariant.1)

returns : tie.Need-returns-then-i-window invariant-loop decreases-loop
returns c =
    let A = c in
    let L = c.before.before.before.before in
    ends L L.loop-i.i L.loop-i.invariant.0 L.loop-i.invariant.1 L.loop-i.invariant.2
    (gap-stops _ _ _ (start L).requires.0 _ _ _ A.ahead-window.ensures c.if-i-window.true)

next-equal-requires : tie.Need-next_equal-i-requires invariant-loop decreases-loop
next-equal-requires c κs =
    let A = c in
    let S = start c.before.before.before.before in
    let a = A.ahead-window.ensures in
    (omega (arith, a.order, c.if-i-window.false), omega (arith, a.high, S.requires.0.roomy), a.high)

-- it goes on as far as the bytes of the window differ
more : (D : tie.After-next_equal-i invariant-loop decreases-loop)
    → let L : tie.At-loop-i invariant-loop decreases-loop = D.before.before.before.before.before in
    (j : ℕ) → (start L).args.from ≤ j → j < D.next_equal-i.result → Differ (old L) (new L) j
more D j l h =
    let A = D in
    let L = D.before.before.before.before.before in
    let q = D.next_equal-i.ensures in
    by_le L.loop-i.i j
    (λ m. window-differ _ _ _ (start L).requires.0 _ _ _ A.ahead-window.ensures j (omega (arith, D.if-i-window.false))
    (omega (arith, q.high)) (q.differ j m h))
    (λ m. L.loop-i.invariant.2 j l m)

returns-2 : tie.Need-returns-then-i-end invariant-loop decreases-loop
returns-2 c =
    let D = c.before in
    let A = c in
    let L = c.before.before.before.before.before.before in
    let a = A.ahead-window.ensures in
    let q = D.next_equal-i.ensures in
    ends L D.next_equal-i.result (omega (arith, L.loop-i.invariant.0, q.low)) (omega (arith, q.high, a.high)) (more D)
    (window-stops _ _ _ (start L).requires.0 _ _ _ a _ (omega (arith, D.if-i-window.false, q.low)) c.if-i-end.true
    (q.same c.if-i-end.true))

loop-less : tie.Need-loop-i-smaller invariant-loop decreases-loop
loop-less c =
    let D = c in
    let A = c in
    let I = c in
    omega (
      arith,
      A.ahead-window.ensures.more I.loop-i-test.true,
      A.ahead-window.ensures.high,
      D.next_equal-i.ensures.high,
      c.if-i-end.false,
      I.loop-i-test.true,
    )

loop-again : tie.Need-loop-i-preserved invariant-loop decreases-loop
loop-again c =
    let D = c.before in
    let A = c in
    let L = c in
    let q = D.next_equal-i.ensures in
    (omega (arith, L.loop-i.invariant.0, q.low), omega (arith, q.high, A.ahead-window.ensures.high), more D)

returns-3 : tie.Need-returns invariant-loop decreases-loop
returns-3 c =
    let L = c.before in
    ends L L.loop-i.i L.loop-i.invariant.0 L.loop-i.invariant.1 L.loop-i.invariant.2
    (inl (omega (arith, length_before _ _ _ (start L).requires.0, L.loop-i.invariant.1, c.loop-i-test.false)))

pub run_end_spec : {M : Type 1} → statement M
run_end_spec =
    tie.close
    (tie.spec
    invariant-loop
    decreases-loop
    loop-holds
    ahead-requires
    returns
    next-equal-requires
    returns-2
    loop-less
    loop-again
    returns-3)
