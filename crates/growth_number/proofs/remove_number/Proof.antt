-- By the search in the old image. Assumes nothing.
use mathlib.Core.Path.{sym, ◌∙◌}
use Rattle.table_search.proofs.Taken.{not-met, met-slot}
use Rattle.growth_number.proofs.Turns.{named-slot, remove-other, remove-met}
use borrow.Author.Rules.{rules}
use Rattle.growth_number.proofs.remove_number.Statement.{statement}
use Rattle.growth_number.proofs.remove_number.Tie as tie

search-requires : tie.Need-search-probed-requires
search-requires c κs = search rules

enum-known-found : tie.Need-enum_known-found
enum-known-found c = search rules

removed-number-requires : tie.Need-removed_number-requires
removed-number-requires c κs = search rules

returns : tie.Need-returns-in_default
returns c =
    let S = c in
    let A = S.args in
    c.removed_number.ensures
    ∙ sym (remove-other A.old.now A.new.now A.key.now
    (not-met A.old.now A.key.now A.shape S.requires.first.shape c.search-probed.result.found
    c.search-probed.ensures.0
    c.in_default.in_default-own.keys2))

move-number-requires : tie.Need-move_number-requires
move-number-requires c κs =
    let S = c in
    let A = S.args in
    named-slot A.old.now A.new.now A.key.now S.requires c.search-probed.result.found
    c.search-probed.ensures.0 _
    c.in-Met.is

abbrev start-at-shared-slice-known : tie.After-shared_slice_known-1 → tie.Start
start-at-shared-slice-known c = c.before

abbrev start-at-move-number : tie.After-move_number → tie.Start
start-at-move-number c = c.before.before.before.before.before.before

returns-2 : tie.Need-returns
returns-2 c =
    let S = (start-at-move-number c) in
    let A = S.args in
    let f = c.search-probed.result.found in
    let n = named-slot A.old.now A.new.now A.key.now S.requires f
    c.search-probed.ensures.0 _ c.in-Met.is in
    let m = met-slot A.old.now A.key.now A.shape S.requires.first.shape f
    c.search-probed.ensures.0 _
    c.in-Met.is in
    c.move_number.ensures ∙ sym (remove-met A.old.now A.new.now A.key.now _ m n)

pub remove_number_spec : {M : Type 1} → statement M
remove_number_spec =
    tie.close
    (tie.spec
    search-requires
    enum-known-found
    removed-number-requires
    returns
    move-number-requires
    returns-2)
