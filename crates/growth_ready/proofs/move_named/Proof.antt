-- By the search in the old image; the move is accepted. Assumes nothing.
use Rattle.table_search.proofs.Taken.{not-met, met-slot}
use Rattle.growth_number.proofs.Turns.{named-slot}
use Rattle.growth_ready.proofs.Acting.{ready-other, ready-met, movable}
use borrow.Author.Rules.{rules}
use Rattle.growth_ready.proofs.move_named.Statement.{statement}
use Rattle.growth_ready.proofs.move_named.Tie as tie

search-requires : tie.Need-search-probed-requires
search-requires c κs = search rules

enum-known-found : tie.Need-enum_known-found
enum-known-found c = search rules

same_length : tie.Need-shape_of-old-in_default
same_length c = search rules

returns : tie.Need-returns-in_default
returns c =
    let S = c in
    let A = S.args in
    ready-other A.old.now A.new.now A.key.now
    (not-met A.old.now A.key.now A.shape S.requires.0.first.shape c.search-probed.result.found
    c.search-probed.ensures.0
    c.in_default.in_default-own.keys2)

abbrev start-at-shared-slice-known : tie.After-shared_slice_known-1 → tie.Start
start-at-shared-slice-known c = c.before.before.before

abbrev start-at-move-point-arg2 : tie.After-move_point-arg-2-1 → tie.Start
start-at-move-point-arg2 c = c.before.before.before.before.before.before.before

move-point-requires : tie.Need-move_point-requires
move-point-requires c κs =
    let S = (start-at-move-point-arg2 c) in
    let A = S.args in
    movable A.old.now A.new.now A.key.now
    (named-slot A.old.now A.new.now A.key.now S.requires.0
    c.search-probed.result.found
    c.search-probed.ensures.0 _
    c.in-Met.is)

same-length-2 : tie.Need-shape_of-old
same-length-2 c = search rules

same-length-3 : tie.Need-shape_of-new
same-length-3 c = search rules

abbrev start-at-slice-known : tie.After-slice_known-1 → tie.Start
start-at-slice-known c = c.before

abbrev start-at-known-told : tie.In-Met → tie.Start
start-at-known-told c = c.before.before.before.before.before

abbrev start-at-slice-known4 : tie.After-slice_known-4-1 → tie.Start
start-at-slice-known4 c = c.before.before.before.before.before.before.before.before.before.before.before.before

abbrev search-at-known-told : tie.In-Met → tie.After-search-probed
search-at-known-told c = c.before

abbrev search-at-slice-known4 : tie.After-slice_known-4-1 → tie.After-search-probed
search-at-slice-known4 c = c.before.before.before.before.before.before.before.before

abbrev found-at-known-told : tie.In-Met → tie.In-Met
found-at-known-told c = c

abbrev found-at-slice-known4 : tie.After-slice_known-4-1 → tie.In-Met
found-at-slice-known4 c = c.before.before.before.before.before.before.before

returns-2 : tie.Need-returns
returns-2 c =
    let S = (start-at-slice-known4 c) in
    let A = S.args in
    let m = met-slot A.old.now A.key.now A.shape S.requires.0.first.shape
    (search-at-slice-known4 c).search-probed.result.found
    (search-at-slice-known4 c).search-probed.ensures.0 _ (found-at-slice-known4 c).in-Met.is in
    ready-met A.old.now A.new.now A.key.now _ m S.requires.1
    c.move_point.result _ _ c.move_point.ensures

pub move_named_spec : {M : Type 1} → statement M
move_named_spec =
    tie.close
    (tie.spec
    search-requires
    enum-known-found
    same_length
    returns
    move-point-requires
    same-length-2
    same-length-3
    returns-2)
