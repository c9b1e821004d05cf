-- A point that was met is present, any other absent. Assumes nothing.
use mathlib.Core.Path.{◌≡◌, sym, ap, ap₂, ◌∙◌}
use borrow.Author.Rules.{rules}
use Rattle.spec_file.specs.Bytes.{Bytes}
use Rattle.spec_file.specs.Image.{layout_of}
use Rattle.spec_file.specs.Search.{Probe}
use Rattle.spec_file.specs.Messages.{added_at}
use Rattle.spec_file.specs.Questions.{first_no, point_asks}
use Rattle.spec_file.specs.Calls.{settled}
use Rattle.table_search.proofs.Taken.{other-met, met-is, met-within, met-key}
use Rattle.call_add.proofs.put_found.Statement.{statement}
use Rattle.call_add.proofs.put_found.Tie as tie

enum-known-found : tie.Need-enum_known-found
enum-known-found c = search rules

abbrev start-at-add-absent-arg : tie.After-add_absent-arg-1 → tie.Start
start-at-add-absent-arg c = c.before.before.before.before.before

add-absent-requires : tie.Need-add_absent-requires
add-absent-requires c κs =
    let S = (start-at-add-absent-arg c) in
    (S.requires.0, S.requires.1, S.requires.3, other-met S.args.found c.in_default.in_default-own.keys2)

same_length : tie.Need-shape_of-image-in_default
same_length c = search rules

returns : tie.Need-returns-in_default
returns c = c.add_absent.ensures

abbrev start-at-add-present-arg : tie.After-add_present-arg-1 → tie.Start
start-at-add-present-arg c = c.before.before.before.before.before

add-present-requires : tie.Need-add_present-requires
add-present-requires c κs =
    let S = (start-at-add-present-arg c) in
    (S.requires.0, met-within c.in-Met.is S.requires.1, S.requires.4)

same-length-2 : tie.Need-shape_of-image
same-length-2 c = search rules

abbrev shared-slice-known2-at-slice-known3 : tie.After-slice_known-2-1 → tie.After-shared_slice_known-2-1
shared-slice-known2-at-slice-known3 c = c.before.before.before.before.before

abbrev start-at-slice-known3 : tie.After-slice_known-2-1 → tie.Start
start-at-slice-known3 c = c.before.before.before.before.before.before.before.before

abbrev found-at-slice-known3 : tie.After-slice_known-2-1 → tie.In-Met
found-at-slice-known3 c = c.before.before.before.before

returns-2 : tie.Need-returns
returns-2 c =
    let S = start-at-slice-known3 c in
    let A = S.args in
    let img = A.image.now in
    let g = layout_of img in
    let p = c.add_present in
    let found = (found-at-slice-known3 c).in-Met.is in (
      p.ensures.0 ∙ ap (λ (s : Probe). first_no (point_asks g img s A.bytes.now A.mode)) (sym (met-is found)),
      p.ensures.1 ∙ ap₂ (λ (s : Probe) (key : Bytes). settled p.result img
          (added_at g img s key A.bytes.now A.mode)) (sym (met-is found)) (met-key img found S.requires.2),
    )

pub put_found_spec : {M : Type 1} → statement M
put_found_spec =
    tie.close
    (tie.spec
    enum-known-found
    add-absent-requires
    same_length
    returns
    add-present-requires
    same-length-2
    returns-2)
