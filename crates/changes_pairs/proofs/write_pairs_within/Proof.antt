-- The pairs of the runs up to `at` are written, the others are to be written behind them. Assumes nothing.
use Prim.Native.Nat.{ℕ, ◌+◌, ◌-◌, ◌≤◌}
use native.Mathlib.Omega.{arith}
use mathlib.Core.Path.{◌≡◌, sym, ap, ◌∙◌}
use lib.ListN.{length}
use borrow.Author.Rules.{rules}
use Rattle.spec_file.specs.Bytes.{Bytes, store}
use Rattle.spec_changes.specs.Changes.{pair_bytes}
use Rattle.changes_windows.specs.Windows.{before}
use Rattle.changes_windows.proofs.Windowed.{length_before}
use Rattle.changes_windows.proofs.Scanning.{Writing, writing_start, writing-room, writing_more, writing-end, pair-piece, pair_step, length-piece, piece_is, pairs-nil}
use Rattle.changes_pairs.proofs.write_pairs_within.Statement.{statement}
use Rattle.changes_pairs.proofs.write_pairs_within.Tie as tie

abbrev invariant-loop : tie.invariant-loop-at
invariant-loop list₀ place work new w to₀ at₀ list to at = Writing pair_bytes list₀ place (before w work new) new list to at

abbrev decreases-loop : tie.decreases-loop-at
decreases-loop list₀ place work new w to₀ at₀ list to at = length new - at

abbrev start : tie.At-loop-at invariant-loop decreases-loop → tie.Start invariant-loop decreases-loop
start L = L.before.before.before.before.before

-- the image before the call, as long as the one after it
abbrev old : tie.At-loop-at invariant-loop decreases-loop → Bytes
old L = let A = (start L).args in before A.w A.work.now A.new.now

size : (L : tie.At-loop-at invariant-loop decreases-loop) → length (old L) ≡ length (start L).args.new.now
size L = length_before _ _ _ (start L).requires.0

next-change-requires : tie.Need-next_change-at-requires invariant-loop decreases-loop
next-change-requires c κs = (c.requires.0, omega arith)

loop-holds : tie.Need-loop-at-init invariant-loop decreases-loop
loop-holds c = writing_start pair_bytes _ _ _ _ _ c.next_change-at.ensures

run-end-requires : tie.Need-run_end-end-requires invariant-loop decreases-loop
run-end-requires c κs =
    let L = c.before in
    ((start L).requires.0, c.loop-at-test.true, L.loop-at.invariant.change (omega (arith, size L, c.loop-at-test.true)))

-- there is room for the pair
room : (R : tie.After-run_end-end invariant-loop decreases-loop)
    → R.loop-at.to + 8 ≤ length R.loop-at.list
room R =
    let L = R.before.before in
    let S = start L in
    let r = R.run_end-end.result in
    let at = L.loop-at.at in
    omega (
      arith,
      writing-room pair_bytes pair-piece pair_step S.args.list.now S.args.place (old L)
          S.args.new.now S.requires.2 L.loop-at.list L.loop-at.to at r L.loop-at.invariant R.run_end-end.ensures,
      length-piece (record { at = at; size = r - at }),
    )

sub-put-pair : tie.Need-overflow_sub-end invariant-loop decreases-loop
sub-put-pair c = omega (arith, c.run_end-end.ensures.low)

put-pair-requires : tie.Need-put_pair-requires invariant-loop decreases-loop
put-pair-requires c κs =
    let R = c.before in
    let L = c.before.before.before in
    let S = start L in (
      room R,
      omega (arith, size L, S.requires.1, L.loop-at.invariant.high),
      omega (arith, size L, S.requires.1, R.run_end-end.ensures.high),
    )

add-to : tie.Need-overflow_add-to invariant-loop decreases-loop
add-to c =
    let R = c.before.before.before.before in
    omega (arith, room R, R.loop-at.invariant.size)

next-change-requires-2 : tie.Need-next_change-at-requires-in-loop-at invariant-loop decreases-loop
next-change-requires-2 c κs =
    let R = c in
    let L = c.before.before.before.before.before.before in
    ((start L).requires.0, omega (arith, size L, R.run_end-end.ensures.high))

loop-less : tie.Need-loop-at-smaller invariant-loop decreases-loop
loop-less c =
    let R = c in
    omega (
      arith,
      size c.before.before.before.before.before.before.before,
      R.run_end-end.ensures.low,
      R.run_end-end.ensures.high,
      c.next_change-at-in-loop-at.ensures.low,
    )

loop-again : tie.Need-loop-at-preserved invariant-loop decreases-loop
loop-again c =
    let P = c in
    let R = c in
    let L = c.before.before.before.before.before.before.before in
    let S = start L in
    let r = R.run_end-end.result in
    let at = L.loop-at.at in
    writing_more pair_bytes pair-piece pair_step S.args.list.now S.args.place (old L)
    S.args.new.now S.requires.2 L.loop-at.list L.loop-at.to at r P.put_pair.new.list (L.loop-at.to + 8)
    c.next_change-at-in-loop-at.result L.loop-at.invariant R.run_end-end.ensures c.next_change-at-in-loop-at.ensures
    (P.put_pair.ensures ∙ ap (store L.loop-at.list L.loop-at.to) (piece_is at (r - at)))
    (ap (λ (n : ℕ). L.loop-at.to + n) (sym (length-piece (record { at = at; size = r - at }))))

same_length : tie.Need-shape_of-list invariant-loop decreases-loop
same_length c = c.loop-at.invariant.size

returns : tie.Need-returns invariant-loop decreases-loop
returns c =
    let L = c.before in
    let S = start L in
    writing-end pair_bytes pair-piece pair_step S.args.list.now S.args.place (old L)
    S.args.new.now S.requires.2 pairs-nil L.loop-at.list L.loop-at.to L.loop-at.at (size L) L.loop-at.invariant
    (omega (arith, size L, c.loop-at-test.false))

pub write_pairs_within_spec : {M : Type 1} → statement M
write_pairs_within_spec =
    tie.close
    (tie.spec
    invariant-loop
    decreases-loop
    next-change-requires
    loop-holds
    run-end-requires
    sub-put-pair
    put-pair-requires
    add-to
    next-change-requires-2
    loop-less
    loop-again
    same_length
    returns)
