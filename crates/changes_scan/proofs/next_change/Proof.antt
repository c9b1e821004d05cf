-- Equal bytes are passed over, in the windows and between them: what is left from i on is what is left from the start.
-- Assumes nothing.
use Prim.Native.Nat.{◌-◌, ◌≤◌}
use native.Mathlib.Omega.{arith}
use mathlib.Core.Path.{◌≡◌, refl, ◌∙◌}
use lib.ListN.{length}
use Rattle.changes_windows.specs.Scans.{rest}
use Rattle.changes_windows.specs.Windows.{before}
use Rattle.changes_windows.proofs.Windowed.{length_before, window-passed, window-differ}
use Rattle.changes_scan.proofs.next_change.Statement.{statement}
use Rattle.changes_scan.proofs.next_change.Tie as tie

abbrev invariant-loop : tie.invariant-loop-i
invariant-loop work new w from size i₀ i =
    (from ≤ i) × (i ≤ length new) × (rest (before w work new) new from ≡ rest (before w work new) new i)

abbrev decreases-loop : tie.decreases-loop-i
decreases-loop work new w from size i₀ i = length new - i

abbrev start : tie.At-loop-i invariant-loop decreases-loop → tie.Start invariant-loop decreases-loop
start L = L.before.before.before

loop-holds : tie.Need-loop-i-init invariant-loop decreases-loop
loop-holds c = (omega arith, c.requires.1, refl)

ahead-requires : tie.Need-ahead-window-requires invariant-loop decreases-loop
ahead-requires c κs =
    let L = c.before in
    ((start L).requires.0.sorted, L.loop-i.invariant.1)

next-difference-requires : tie.Need-next_difference-i-requires invariant-loop decreases-loop
next-difference-requires c κs =
    let S = start c.before.before in
    let a = c.ahead-window.ensures in
    (a.order, omega (arith, a.high, S.requires.0.roomy), a.high)

returns : tie.Need-returns-then-i-end invariant-loop decreases-loop
returns c =
    let D = c in
    let A = c in
    let L = c.before.before.before.before in
    let S = start L in
    let a = A.ahead-window.ensures in
    let p = D.next_difference-i.ensures in
    record {
      low = omega (arith, L.loop-i.invariant.0, a.low, p.low);
      high = omega (arith, length_before _ _ _ S.requires.0, p.high, a.high);
      same = L.loop-i.invariant.2 ∙ window-passed _ _ _ S.requires.0 _ _ _ a _ p;
      change = λ h. window-differ _ _ _ S.requires.0 _ _ _ a _ p.low c.if-i-end.true (p.differ c.if-i-end.true);
    }

loop-less : tie.Need-loop-i-smaller invariant-loop decreases-loop
loop-less c =
    let D = c in
    let A = c in
    let I = c in
    omega (
      arith,
      A.ahead-window.ensures.more I.loop-i-test.true,
      A.ahead-window.ensures.high,
      D.next_difference-i.ensures.high,
      c.if-i-end.false,
      I.loop-i-test.true,
    )

loop-again : tie.Need-loop-i-preserved invariant-loop decreases-loop
loop-again c =
    let D = c in
    let A = c in
    let L = c.before.before.before.before in
    let a = A.ahead-window.ensures in
    let p = D.next_difference-i.ensures in (
      omega (arith, L.loop-i.invariant.0, a.low, p.low),
      omega (arith, p.high, a.high),
      L.loop-i.invariant.2 ∙ window-passed _ _ _ (start L).requires.0 _ _ _ a _ p,
    )

returns-2 : tie.Need-returns invariant-loop decreases-loop
returns-2 c =
    let L = c.before in
    let S = start L in
    let size = length_before _ _ _ S.requires.0 in
    record {
      low = L.loop-i.invariant.0;
      high = omega (arith, size, L.loop-i.invariant.1);
      same = L.loop-i.invariant.2;
      change = λ h. absurd (omega (arith, size, c.loop-i-test.false));
    }

pub next_change_spec : {M : Type 1} → statement M
next_change_spec =
    tie.close
    (tie.spec
    invariant-loop
    decreases-loop
    loop-holds
    ahead-requires
    next-difference-requires
    returns
    loop-less
    loop-again
    returns-2)
