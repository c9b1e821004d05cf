-- A point that was met is present, any other absent. Assumes nothing.
use mathlib.Core.Path.{◌≡◌, sym, ap, ap₂, ◌∙◌}
use borrow.Author.Rules.{rules}
use Rattle.spec_file.specs.Bytes.{Bytes}
use Rattle.spec_file.specs.Image.{layout_of}
use Rattle.spec_file.specs.Search.{Probe}
use Rattle.spec_file.specs.Messages.{added_at}
use Rattle.spec_file.specs.Questions.{first_no, point_asks}
use Rattle.spec_file.specs.Calls.{settled}
use Rattle.spec_columns.specs.Columns.{columns}
use Rattle.table_search.proofs.Taken.{other-met, met-is, met-within, met-key}
use Rattle.columns_store.proofs.store_found.Statement.{statement}
use Rattle.columns_store.proofs.store_found.Tie as tie

enum-known-found : tie.Need-enum_known-found
enum-known-found c = search rules

abbrev start-at-store-absent-arg : tie.After-store_absent-arg-1 → tie.Start
start-at-store-absent-arg c = c.before.before.before.before.before

store-absent-requires : tie.Need-store_absent-requires
store-absent-requires c κs =
    let S = start-at-store-absent-arg c in
    (S.requires.0, S.requires.1, S.requires.3, other-met S.args.found c.in_default.in_default-own.keys2, S.requires.4)

same_length : tie.Need-shape_of-image-in_default
same_length c = search rules

returns : tie.Need-returns-in_default
returns c = c.store_absent.ensures

abbrev start-at-found : tie.In-Met → tie.Start
start-at-found c = c.before.before.before.before

store-present-requires : tie.Need-store_present-requires
store-present-requires c κs =
    let F = c.before in
    let S = start-at-found F in
    (S.requires.0, met-within F.in-Met.is S.requires.1, S.requires.4)

same-length-2 : tie.Need-shape_of-image
same-length-2 c = search rules

abbrev found-at-end : tie.After-slice_known-2-1 → tie.In-Met
found-at-end c = c.before.before.before.before

returns-2 : tie.Need-returns
returns-2 c =
    let F = found-at-end c in
    let S = start-at-found F in
    let A = S.args in
    let img = A.image.now in
    let g = layout_of img in
    let text = columns A.width A.records.now in
    let p = c.store_present in
    let met' = F.in-Met.is in (
      p.ensures.0 ∙ ap (λ (s : Probe). first_no (point_asks g img s text 2)) (sym (met-is met')),
      p.ensures.1
          ∙ ap₂ (λ (s : Probe) (key : Bytes). settled p.result img (added_at g img s key text 2))
          (sym (met-is met')) (met-key img met' S.requires.2),
    )

pub store_found_spec : {M : Type 1} → statement M
store_found_spec =
    tie.close
    (tie.spec
    enum-known-found
    store-absent-requires
    same_length
    returns
    store-present-requires
    same-length-2
    returns-2)
