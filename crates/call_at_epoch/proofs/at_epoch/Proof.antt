-- `call_at_epoch::at_epoch` meets its contract: the part from the start that `locate_at` answers, as long as it says.
-- Assumes nothing.
use native.Mathlib.Omega.{arith}
use mathlib.Core.Path.{◌≡◌, ap, ap₂, ◌∙◌}
use Prim.Native.Nat.{ℕ, ◌+◌, ◌≤◌}
use mathlib.Core.Bool.{not}
use lib.ListN.{length}
use lib.Dec.{eqb}
use borrow.Author.Rules.{rules}
use Rattle.spec_file.specs.Bytes.{part}
use Rattle.spec_epoch.specs.Epochs.{at_epoch}
use Rattle.law_file.proofs.Stores.{part-lent}
use Rattle.law_epoch.proofs.Answers.{at_part, at-shown, at-inside, at_length}
use Rattle.call_at_epoch.proofs.at_epoch.Statement.{statement}
use Rattle.call_at_epoch.proofs.at_epoch.Tie as tie

locate-at-requires : tie.Need-locate_at-dated-requires
locate-at-requires c κs = search rules

at-requires : tie.Need-at-start-requires
at-requires c κs = search rules

-- the part ends in the image
ends : (c : tie.After-at-start)
    → c.at-start.result + c.locate_at-dated.result.located.length
    ≤ length c.args.image.now
ends c =
    let L = c in
    let A = L.args in
    omega (
      arith,
      at-inside A.image.now A.name.now A.t,
      c.at-start.ensures,
      L.locate_at-dated.ensures.start,
      L.locate_at-dated.ensures.length,
    )

add-end : tie.Need-overflow_add-end
add-end c = omega (arith, ends c.before)

sub-result : tie.Need-slice_bounds-result-count
sub-result c = search rules

part-result-start : tie.Need-slice_bounds-result-start
part-result-start c = search rules

part-result-end : tie.Need-slice_bounds-result-end
part-result-end c = ends c.before

returns : tie.Need-returns
returns c =
    let P = c in
    let l = P.locate_at-dated in
    let A = P.args in
    let is : _ ≡ part A.image.now (at_epoch A.image.now A.name.now A.t).start
    (at_epoch A.image.now A.name.now A.t).length =
    part-lent A.image.now P.at-start.result l.result.located.length
    ∙ ap₂ (part A.image.now) (P.at-start.ensures ∙ l.ensures.start) l.ensures.length in
    let text = is ∙ at_part A.image.now A.name.now A.t in (
      l.ensures.number,
      (
        l.ensures.epoch,
        (
          ap (λ (n : ℕ). not (eqb n 0)) (P.at-start.ensures ∙ l.ensures.start)
              ∙ at-shown A.image.now A.name.now A.t,
          (text, ap length text ∙ at_length A.image.now A.name.now A.t),
        ),
      ),
    )

pub at_epoch_spec : {M : Type 1} → statement M
at_epoch_spec =
    tie.close
    (tie.spec
    locate-at-requires
    at-requires
    add-end
    sub-result
    part-result-start
    part-result-end
    returns)
