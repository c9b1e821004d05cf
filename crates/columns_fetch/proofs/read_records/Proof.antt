-- Refused as lookup is; else the slice is filled from the text that lookup shows. Assumes nothing.
use Prim.Native.Nat.{◌+◌}
use native.Mathlib.Omega.{arith}
use mathlib.Core.Path.{◌≡◌, refl, sym, ap₂, ◌∙◌}
use borrow.Author.Rules.{rules}
use Rattle.spec_file.specs.Bytes.{part}
use Rattle.spec_file.specs.Calls.{lookup}
use Rattle.law_file.proofs.Stores.{part-lent}
use Rattle.spec_records.specs.Records.{stored_bytes}
use Rattle.call_lookup.proofs.Answers.{inside, lookup-answer}
use Rattle.columns_fetch.proofs.Filled.{reads-refused, reads-filled}
use Rattle.columns_fetch.proofs.read_records.Statement.{statement}
use Rattle.columns_fetch.proofs.read_records.Tie as tie

locate-requires : tie.Need-locate-found-requires
locate-requires c κs = search rules

abbrev start-at-locate : tie.After-locate-found → tie.Start
start-at-locate c = c.before.before.before.before

refused-requires : tie.Need-refused-requires
refused-requires c κs = search rules

returns : tie.Need-returns-then-number-ne0
returns c =
    let T = c in
    let L = c.before.before in
    let A = (start-at-locate L).args in
    let r = c.refused.ensures in
    reads-refused A.image.now A.key.now A.out.now _ _ (r.0 ∙ L.locate-found.ensures.0)
    (λ z. T.if-number-ne0.true (sym r.0 ∙ z)) r.1

at-requires : tie.Need-at-start-requires
at-requires c κs = search rules

add-end : tie.Need-overflow_add-end
add-end c =
    let L = c.before.before.before.before in
    let A = (start-at-locate L).args in
    omega (
      arith,
      inside A.image.now A.key.now,
      c.at-start.ensures,
      L.locate-found.ensures.1,
      L.locate-found.ensures.2,
    )

sub-fill : tie.Need-slice_bounds-fill-count
sub-fill c = search rules

part-fill-start : tie.Need-slice_bounds-fill-start
part-fill-start c = search rules

part-fill-end : tie.Need-slice_bounds-fill-end
part-fill-end c =
    let P = c in
    let L = c.before.before.before.before.before in
    let A = (start-at-locate L).args in
    omega (
      arith,
      inside A.image.now A.key.now,
      P.at-start.ensures,
      L.locate-found.ensures.1,
      L.locate-found.ensures.2,
    )

fill-requires : tie.Need-fill-requires
fill-requires c κs = search rules

same_length : tie.Need-shape_of-out
same_length c = search rules

returns-2 : tie.Need-returns
unfolding lookup stored_bytes
returns-2 c =
    let F = c in
    let P = c in
    let E = c in
    let L = c.before.before.before.before.before.before.before.before.before in
    let A = (start-at-locate L).args in
    let img = A.image.now in
    let key = A.key.now in
    let found = L.locate-found.ensures in
    let shown =
    lookup-answer img key _ _ _ found.0 (P.at-start.ensures ∙ found.1)
    (part-lent img P.at-start.result L.locate-found.result.length
    ∙ ap₂ (part img) (P.at-start.ensures ∙ found.1) found.2) in
    reads-filled img key A.out.now (sym found.0 ∙ E.if-number-ne0.false) _ _ _ _ shown.2 F.fill.ensures

pub read_records_spec : {M : Type 1} → statement M
read_records_spec =
    tie.close
    (tie.spec
    locate-requires
    refused-requires
    returns
    at-requires
    add-end
    sub-fill
    part-fill-start
    part-fill-end
    fill-requires
    same_length
    returns-2)
