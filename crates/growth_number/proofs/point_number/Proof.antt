-- By the search in the old image. Assumes nothing.
use Rattle.table_search.proofs.Taken.{not-met, met-slot}
use Rattle.growth_named.proofs.Naming.{points-other}
use Rattle.growth_number.proofs.Turns.{named-slot}
use borrow.Author.Rules.{rules}
use Rattle.growth_number.proofs.point_number.Statement.{statement}
use Rattle.growth_number.proofs.point_number.Tie as tie

search-requires : tie.Need-search-probed-requires
search-requires c κs = search rules

enum-known-found : tie.Need-enum_known-found
enum-known-found c = search rules

own-number-requires : tie.Need-own_number-requires
own-number-requires c κs = search rules

returns : tie.Need-returns-in_default
returns c =
    let S = c in
    let A = S.args in
    points-other A.old.now A.new.now A.key.now A.m A.mode
    (not-met A.old.now A.key.now A.shape S.requires.0.first.shape c.search-probed.result.found
    c.search-probed.ensures.0
    c.in_default.in_default-own.keys2) c.own_number.result c.own_number.ensures

named-number-requires : tie.Need-named_number-requires
named-number-requires c κs =
    let S = c in
    let A = S.args in
    let f = c.search-probed.result.found in (
      named-slot A.old.now A.new.now A.key.now S.requires.0 f c.search-probed.ensures.0
          _ c.in-Met.is,
      met-slot A.old.now A.key.now A.shape S.requires.0.first.shape f
          c.search-probed.ensures.0 _ c.in-Met.is,
      S.requires.1,
      S.requires.2,
    )

returns-2 : tie.Need-returns
returns-2 c = search rules

pub point_number_spec : {M : Type 1} → statement M
point_number_spec =
    tie.close
    (tie.spec
    search-requires
    enum-known-found
    own-number-requires
    returns
    named-number-requires
    returns-2)
