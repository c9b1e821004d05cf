-- The new bytes of the runs up to `at` are written, the others are to be written behind them. Assumes nothing.
use Prim.Native.Nat.{ℕ, ◌+◌, ◌-◌, ◌≤◌}
use native.Mathlib.Omega.{arith}
use mathlib.Core.Path.{◌≡◌, sym, ap, ◌∙◌}
use mathlib.Core.List.{List}
use lib.ListN.{length}
use borrow.Author.Rules.{rules}
use Rattle.spec_file.specs.Bytes.{Bytes, part, store}
use Rattle.spec_changes.specs.Changes.{Pair}
use Rattle.spec_changes.specs.Journal.{new_bytes}
use Rattle.law_file.proofs.Bytes.{part_length}
use Rattle.changes_windows.specs.Windows.{before}
use Rattle.changes_windows.proofs.Windowed.{length_before}
use Rattle.changes_windows.proofs.Scanning.{Writing, writing_start, writing-room, writing_more, writing-end, part-piece, part_step, part-is, bytes-nil}
use Rattle.changes_bytes.proofs.write_bytes_within.Statement.{statement}
use Rattle.changes_bytes.proofs.write_bytes_within.Tie as tie

abbrev invariant-loop : tie.invariant-loop-at
invariant-loop out₀ place work new w to₀ at₀ out to at =
    Writing (λ (rs : List Pair). new_bytes rs new) out₀ place (before w work new) new out to at

abbrev decreases-loop : tie.decreases-loop-at
decreases-loop out₀ place work new w to₀ at₀ out to at = length new - at

abbrev start : tie.At-loop-at invariant-loop decreases-loop → tie.Start invariant-loop decreases-loop
start L = L.before.before.before.before.before

-- the image before the call, as long as the one after it
abbrev old : tie.At-loop-at invariant-loop decreases-loop → Bytes
old L = let A = (start L).args in before A.w A.work.now A.new.now

size : (L : tie.At-loop-at invariant-loop decreases-loop) → length (old L) ≡ length (start L).args.new.now
size L = length_before _ _ _ (start L).requires.0

next-change-requires : tie.Need-next_change-at-requires invariant-loop decreases-loop
next-change-requires c κs = (c.requires.0, omega arith)

loop-holds : tie.Need-loop-at-init invariant-loop decreases-loop
loop-holds c =
    let A = c.args in
    writing_start (λ (rs : List Pair). new_bytes rs A.new.now) _ _ _ _ _ c.next_change-at.ensures

run-end-requires : tie.Need-run_end-end-requires invariant-loop decreases-loop
run-end-requires c κs =
    let L = c.before in
    ((start L).requires.0, c.loop-at-test.true, L.loop-at.invariant.change (omega (arith, size L, c.loop-at-test.true)))

-- how long the run's bytes are
long : (R : tie.After-run_end-end invariant-loop decreases-loop)
    → let L : tie.At-loop-at invariant-loop decreases-loop = R.before.before in
    let n : ℕ = R.run_end-end.result - L.loop-at.at in
    length (part-piece (start L).args.new.now (record { at = L.loop-at.at; size = n })) ≡ n
long R =
    let L = R.before.before in
    let S = start L in
    let at = L.loop-at.at in
    let n : ℕ = R.run_end-end.result - at in
    ap (λ (t : Bytes). length t) (sym (part-is S.args.new.now at n))
    ∙ part_length S.args.new.now at n
    (omega (arith, size L, R.run_end-end.ensures.low, R.run_end-end.ensures.high))

put-part-requires : tie.Need-put_part-to-requires invariant-loop decreases-loop
put-part-requires c κs =
    let R = c.before in
    let L = c.before.before.before in
    let S = start L in
    let new = S.args.new.now in
    let r = R.run_end-end.result in
    let at = L.loop-at.at in (
      omega (arith, R.run_end-end.ensures.low),
      omega (arith, size L, R.run_end-end.ensures.high),
      omega (
        arith,
        writing-room (λ (rs : List Pair). new_bytes rs new) (part-piece new) (part_step new) S.args.out.now
            S.args.place (old L) new S.requires.1 L.loop-at.out L.loop-at.to at r L.loop-at.invariant
            R.run_end-end.ensures,
        long R,
      ),
    )

next-change-requires-2 : tie.Need-next_change-at-requires-in-loop-at invariant-loop decreases-loop
next-change-requires-2 c κs =
    let R = c in
    let L = c.before.before.before.before.before.before in
    ((start L).requires.0, omega (arith, size L, R.run_end-end.ensures.high))

loop-less : tie.Need-loop-at-smaller invariant-loop decreases-loop
loop-less c =
    let R = c in
    omega (
      arith,
      size c.before.before.before.before.before.before.before,
      R.run_end-end.ensures.low,
      R.run_end-end.ensures.high,
      c.next_change-at-in-loop-at.ensures.low,
    )

loop-again : tie.Need-loop-at-preserved invariant-loop decreases-loop
loop-again c =
    let P = c in
    let R = c.before.before.before.before.before in
    let L = c.before.before.before.before.before.before.before in
    let S = start L in
    let new = S.args.new.now in
    let r = R.run_end-end.result in
    let at = L.loop-at.at in
    writing_more (λ (rs : List Pair). new_bytes rs new) (part-piece new) (part_step new) S.args.out.now
    S.args.place (old L) new S.requires.1 L.loop-at.out L.loop-at.to at r P.put_part-to.new.out
    P.put_part-to.result c.next_change-at-in-loop-at.result L.loop-at.invariant R.run_end-end.ensures c.next_change-at-in-loop-at.ensures
    (P.put_part-to.ensures.0 ∙ ap (store L.loop-at.out L.loop-at.to) (part-is new at (r - at)))
    (P.put_part-to.ensures.1 ∙ ap (λ (n : ℕ). L.loop-at.to + n) (sym (long R)))

same_length : tie.Need-shape_of-out invariant-loop decreases-loop
same_length c = c.loop-at.invariant.size

returns : tie.Need-returns invariant-loop decreases-loop
returns c =
    let L = c.before in
    let S = start L in
    let new = S.args.new.now in
    writing-end (λ (rs : List Pair). new_bytes rs new) (part-piece new) (part_step new) S.args.out.now
    S.args.place (old L) new S.requires.1 (bytes-nil new) L.loop-at.out L.loop-at.to L.loop-at.at
    (size L) L.loop-at.invariant (omega (arith, size L, c.loop-at-test.false))

pub write_bytes_within_spec : {M : Type 1} → statement M
write_bytes_within_spec =
    tie.close
    (tie.spec
    invariant-loop
    decreases-loop
    next-change-requires
    loop-holds
    run-end-requires
    put-part-requires
    next-change-requires-2
    loop-less
    loop-again
    same_length
    returns)
