-- What is left after equal blocks, and then what a scan of the whole says of it. Assumes nothing.
use native.Mathlib.Omega.{arith}
use mathlib.Core.Path.{sym, ap}
use Rattle.spec_changes.specs.Changes.{Pair}
use Rattle.changes_windows.proofs.Windowed.{kept_whole, length_before}
use Rattle.changes_next.proofs.Steps.{next_past, scan-none, scan-some}
use Rattle.changes_next.proofs.next_within.Statement.{statement}
use Rattle.changes_next.proofs.next_within.Tie as tie

returns : tie.Need-returns-then-end-from
returns c =
    let S = c in
    let e = next_past S.args.from S.args.old.now S.args.new.now S.requires c.if-end-from.true in
    (sym (ap (λ (r : Pair). r.at) e), sym (ap (λ (r : Pair). r.size) e))

past-blocks-requires : tie.Need-past_blocks-near-requires
past-blocks-requires c κs = (c.requires, omega (arith, c.if-end-from.false))

whole-requires : tie.Need-whole-w-requires
whole-requires c κs = tt

next-change-requires : tie.Need-next_change-at-requires
next-change-requires c κs =
    let P = c in
    let S = c in
    (kept_whole _ _ _ S.requires c.whole-w.ensures, P.past_blocks-near.ensures.0)

returns-2 : tie.Need-returns-then-end-at
returns-2 c =
    let N = c in
    let W = c in
    let P = c in
    let S = c in
    let e =
    scan-none S.args.old.now S.args.new.now S.requires W.whole-w.result W.whole-w.ensures S.args.from
    P.past_blocks-near.result N.next_change-at.result P.past_blocks-near.ensures.1 N.next_change-at.ensures
    c.if-end-at.true in
    (sym (ap (λ (r : Pair). r.at) e), sym (ap (λ (r : Pair). r.size) e))

run-end-requires : tie.Need-run_end-stop-requires
run-end-requires c κs =
    let N = c in
    let W = c in
    let S = c in
    let k = kept_whole _ _ _ S.requires W.whole-w.ensures in
    let size = length_before _ _ _ k in
    (k, omega (arith, c.if-end-at.false), N.next_change-at.ensures.change (omega (arith, size, c.if-end-at.false)))

sub-t10 : tie.Need-overflow_sub-result
sub-t10 c = omega (arith, c.run_end-stop.ensures.low)

returns-3 : tie.Need-returns
returns-3 c =
    let N = c in
    let W = c in
    let P = c in
    let S = c in
    let e =
    scan-some S.args.old.now S.args.new.now S.requires W.whole-w.result W.whole-w.ensures S.args.from
    P.past_blocks-near.result N.next_change-at.result P.past_blocks-near.ensures.1 N.next_change-at.ensures
    c.run_end-stop.result c.run_end-stop.ensures in
    (sym (ap (λ (r : Pair). r.at) e), sym (ap (λ (r : Pair). r.size) e))

pub next_within_spec : {M : Type 1} → statement M
next_within_spec =
    tie.close
    (tie.spec
    returns
    past-blocks-requires
    whole-requires
    next-change-requires
    returns-2
    run-end-requires
    sub-t10
    returns-3)
