-- The list's end is lent, and filled from its start. Assumes nothing.
use native.Mathlib.Omega.{arith}
use mathlib.Core.Path.{◌≡◌}
use lib.ListN.{length}
use borrow.Author.Rules.{rules}
use Rattle.spec_file.specs.Image.{layout_of}
use Rattle.spec_range.specs.Ranges.{selected, slot_numbers}
use Rattle.law_range.proofs.Chosen.{length-numbers}
use Rattle.law_range.proofs.Selected.{selected-few}
use Rattle.table_search.proofs.Headers.{layout-slots}
use Rattle.call_grow_select.proofs.Numbers.{store-behind}
use Rattle.call_grow_select.proofs.fill_behind.Statement.{statement}
use Rattle.call_grow_select.proofs.fill_behind.Tie as tie

sub-fill-list : tie.Need-slice_bounds-fill_list-count
sub-fill-list c = search rules

part-fill-list-start : tie.Need-slice_bounds-fill_list-start
part-fill-list-start c = search rules

part-fill-list-end : tie.Need-slice_bounds-fill_list-end
part-fill-list-end c = search rules

fill-list-requires : tie.Need-fill_list-requires
fill-list-requires c κs = search rules

same_length : tie.Need-shape_of-list
same_length c = search rules

returns : tie.Need-returns
returns c =
    let F = c in
    let S = c in
    let A = S.args in
    let img = A.image.now in
    let first = selected (layout_of img) img A.lowest.now A.highest.now in (
      F.fill_list.ensures.0,
      store-behind A.list.now A.from (slot_numbers first) _
          (omega (
            arith,
            length-numbers first,
            selected-few img A.lowest.now A.highest.now,
            layout-slots img A.shape S.requires.0.shape,
            S.requires.2,
          ))
          F.fill_list.ensures.1,
    )

pub fill_behind_spec : {M : Type 1} → statement M
fill_behind_spec =
    tie.close
    (tie.spec
    sub-fill-list
    part-fill-list-start
    part-fill-list-end
    fill-list-requires
    same_length
    returns)
