-- Both are cut where the shorter ends, and what is behind does not count. Assumes nothing.
use native.Mathlib.Omega.{arith}
use mathlib.Core.Path.{refl, sym, ap, ◌∙◌}
use lib.ListN.{length}
use lib.Seq.{length-take-le}
use Rattle.spec_changes.specs.Changes.{Pair}
use Rattle.changes_next.proofs.Steps.{lesser-low, next-taken}
use Rattle.changes_next.proofs.next_run.Statement.{statement}
use Rattle.changes_next.proofs.next_run.Tie as tie

lesser-of-requires : tie.Need-lesser_of-end-requires
lesser-of-requires c κs = tt

slice-aggregate-next-within : tie.Need-slice_bounds-next_within-end
slice-aggregate-next-within c =
    let A = c.args in
    sym (length-take-le _ A.old.now
    (omega (arith, c.lesser_of-end.ensures, (lesser-low (length A.old.now) (length A.new.now)).0)))

slice-aggregate-next-within-2 : tie.Need-slice_bounds-next_within-end-2
slice-aggregate-next-within-2 c =
    let M = c in
    let A = M.args in
    sym (length-take-le _ A.new.now
    (omega (arith, M.lesser_of-end.ensures, (lesser-low (length A.old.now) (length A.new.now)).1)))

next-within-requires : tie.Need-next_within-run-requires
next-within-requires c κs =
    let M = c in
    let A = M.args in
    let low = lesser-low (length A.old.now) (length A.new.now) in
    let end = M.lesser_of-end.result in
    length-take-le end A.old.now (omega (arith, M.lesser_of-end.ensures, low.0))
    ∙ sym (length-take-le end A.new.now (omega (arith, M.lesser_of-end.ensures, low.1)))

returns : tie.Need-returns
returns c =
    let M = c in
    let A = M.args in
    let e = next-taken A.from M.lesser_of-end.result A.old.now A.new.now M.lesser_of-end.ensures in
    record {
      place = c.next_within-run.ensures.0 ∙ ap (λ (r : Pair). r.at) e;
      many = c.next_within-run.ensures.1 ∙ ap (λ (r : Pair). r.size) e;
      before = refl;
      after = refl;
    }

pub next_run_spec : {M : Type 1} → statement M
next_run_spec =
    tie.close
    (tie.spec
    lesser-of-requires
    slice-aggregate-next-within
    slice-aggregate-next-within-2
    next-within-requires
    returns)
