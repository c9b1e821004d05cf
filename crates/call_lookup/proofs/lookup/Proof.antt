-- The part from the start that `locate` answers, as long as it says; both 0 make it the image's first 0 bytes.
-- Assumes nothing.
use borrow.Author.Rules.{rules}
use mathlib.Core.Path.{ap₂, ◌∙◌}
use native.Mathlib.Omega.{arith}
use Rattle.spec_file.specs.Bytes.{part}
use Rattle.law_file.proofs.Stores.{part-lent}
use Rattle.call_lookup.proofs.Answers.{inside, lookup-answer}
use Rattle.call_lookup.proofs.lookup.Statement.{statement}
use Rattle.call_lookup.proofs.lookup.Tie as tie

locate-requires : tie.Need-locate-found-requires
locate-requires c κs = search rules

at-requires : tie.Need-at-start-requires
at-requires c κs = search rules

add-end : tie.Need-overflow_add-end
add-end c =
    let L = c in
    let A = L.args in
    omega (
      arith,
      inside A.image.now A.key.now,
      c.at-start.ensures,
      L.locate-found.ensures.1,
      L.locate-found.ensures.2,
    )

sub-result : tie.Need-slice_bounds-result-count
sub-result c = search rules

part-result-start : tie.Need-slice_bounds-result-start
part-result-start c = search rules

part-result-end : tie.Need-slice_bounds-result-end
part-result-end c =
    let L = c in
    let A = L.args in
    omega (
      arith,
      inside A.image.now A.key.now,
      c.at-start.ensures,
      L.locate-found.ensures.1,
      L.locate-found.ensures.2,
    )

returns : tie.Need-returns
returns c =
    let P = c in
    let L = c in
    let A = L.args in
    lookup-answer A.image.now A.key.now _ _ _ L.locate-found.ensures.0
    (P.at-start.ensures ∙ L.locate-found.ensures.1)
    (part-lent A.image.now P.at-start.result L.locate-found.result.length
    ∙ ap₂ (part A.image.now) (P.at-start.ensures ∙ L.locate-found.ensures.1) L.locate-found.ensures.2)

pub lookup_spec : {M : Type 1} → statement M
lookup_spec =
    tie.close
    (tie.spec
    locate-requires
    at-requires
    add-end
    sub-result
    part-result-start
    part-result-end
    returns)
