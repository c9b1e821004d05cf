-- By how the search in the new image ended. Assumes nothing.
use mathlib.Core.Path.{◌≡◌, sym, ap, ◌∙◌, subst}
use Rattle.spec_file.specs.Bytes.{Bytes}
use Rattle.table_search.specs.Probes.{Within, probe_of}
use Rattle.table_search.proofs.Taken.{other-met, met-is, met-within, search-within}
use Rattle.growth_beside.proofs.Asked.{own_is}
use borrow.Author.Rules.{rules}
use Rattle.growth_beside.proofs.own_number.Statement.{statement}
use Rattle.growth_beside.proofs.own_number.Tie as tie

search-requires : tie.Need-search-probed-requires
search-requires c κs = search rules

enum-known-found : tie.Need-enum_known-found
enum-known-found c = search rules

absent-number-requires : tie.Need-absent_number-requires
absent-number-requires c κs =
    let S = c in
    (S.requires.0, S.requires.1, other-met c.search-probed.result.found c.in_default.in_default-own.keys2)

returns : tie.Need-returns-in_default
returns c =
    let S = c in
    let A = S.args in
    λ bytes l.
    own_is A.old.now A.new.now A.m A.mode A.key.now
    (probe_of c.search-probed.result.found)
    c.search-probed.ensures.0 c.absent_number.result c.absent_number.ensures bytes l

present-number-requires : tie.Need-present_number-requires
present-number-requires c κs =
    let S = c in
    let A = S.args in
    let w = subst (Within A.larger.slots) (sym c.search-probed.ensures.0)
    (search-within _ A.key.now _ S.requires.1) in
    (S.requires.0, S.requires.1, met-within c.in-Met.is w, S.requires.2, S.requires.3)

abbrev start-at-shared-slice-known : tie.After-shared_slice_known-1 → tie.Start
start-at-shared-slice-known c = c.before

abbrev start-at-present-number : tie.After-present_number → tie.Start
start-at-present-number c = c.before.before.before.before.before.before

returns-2 : tie.Need-returns
returns-2 c =
    let S = (start-at-present-number c) in
    let A = S.args in
    λ bytes l.
    own_is A.old.now A.new.now A.m A.mode A.key.now _
    (sym (met-is c.in-Met.is) ∙ c.search-probed.ensures.0)
    c.present_number.result c.present_number.ensures bytes l

pub own_number_spec : {M : Type 1} → statement M
own_number_spec =
    tie.close
    (tie.spec
    search-requires
    enum-known-found
    absent-number-requires
    returns
    present-number-requires
    returns-2)
