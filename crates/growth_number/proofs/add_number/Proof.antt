-- The pair's questions, 7, 8, then the point's. Assumes nothing.
use native.Mathlib.Omega.{arith}
use mathlib.Core.Path.{sym, ◌∙◌}
use Rattle.law_file.proofs.Tests.{was-no, was-yes}
use Rattle.table_search.proofs.Taken.{named-no, named-yes}
use Rattle.growth_open.proofs.Pairs.{pair-open}
use Rattle.growth_number.proofs.Turns.{paired, add-stop, add-7, add-8, add-on}
use borrow.Author.Rules.{rules}
use Rattle.growth_number.proofs.add_number.Statement.{statement}
use Rattle.growth_number.proofs.add_number.Tie as tie

pair-number-requires : tie.Need-pair_number-number-requires
pair-number-requires c κs = search rules

returns : tie.Need-returns-then-number-ne0
returns c =
    let A = c.args in
    c.pair_number-number.ensures
    ∙ sym (add-stop A.old.now A.new.now A.key.now A.bytes.now A.mode
    (λ z. c.if-number-ne0.true (c.pair_number-number.ensures ∙ z)))

read-shape-requires : tie.Need-read_shape-shape-requires
read-shape-requires c κs = (pair-open _ (sym c.pair_number-number.ensures ∙ c.if-number-ne0.false)).first

name-allowed-requires : tie.Need-name_allowed-requires
name-allowed-requires c κs = search rules

abbrev start-at-shared-slice-known2 : tie.After-shared_slice_known-2-1 → tie.Start
start-at-shared-slice-known2 c = c.before.before

abbrev start-at-then2 : tie.Then-not-name_allowed → tie.Start
start-at-then2 c = c.before.before.before.before.before.before.before.before.before

returns-2 : tie.Need-returns-then-not-name_allowed
returns-2 c =
    let A = (start-at-then2 c).args in
    sym (add-7 A.old.now A.new.now A.key.now A.bytes.now A.mode
    (sym c.pair_number-number.ensures ∙ c.if-number-ne0.false)
    (named-no A.old.now A.key.now _ c.read_shape-shape.ensures c.name_allowed.ensures
    c.if-not-name_allowed.true))

mode-known-requires : tie.Need-mode_known-requires
mode-known-requires c κs = search rules

abbrev start-at-shared-slice-known4 : tie.After-shared_slice_known-4-1 → tie.Start
start-at-shared-slice-known4 c = c.before.before.before.before

abbrev start-at-then3 : tie.Then-not-mode_known → tie.Start
start-at-then3 c = c.before.before.before.before.before.before.before.before.before.before.before

returns-3 : tie.Need-returns-then-not-mode_known
returns-3 c =
    let A = (start-at-then3 c).args in
    sym (add-8 A.old.now A.new.now A.key.now A.bytes.now A.mode
    (sym c.pair_number-number.ensures
    ∙ c.if-number-ne0.false)
    (named-yes A.old.now A.key.now _ c.read_shape-shape.ensures
    c.name_allowed.ensures c.if-not-name_allowed.false)
    (was-no c.mode_known.ensures c.if-not-mode_known.true))

read-shape-requires-2 : tie.Need-read_shape-larger-requires
read-shape-requires-2 c κs =
    (pair-open _ (sym c.pair_number-number.ensures
    ∙ c.if-number-ne0.false)).second

abbrev start-at-pair-number : tie.After-pair_number-number → tie.Start
start-at-pair-number c = c.before.before.before.before.before

abbrev start-at-read-shape2 : tie.After-read_shape-larger → tie.Start
start-at-read-shape2 c = c.before.before.before.before.before.before.before.before.before.before.before.before

point-number-requires : tie.Need-point_number-requires
point-number-requires c κs =
    let A = (start-at-read-shape2 c).args in (
      paired A.old.now A.new.now A.key.now
          (sym c.pair_number-number.ensures
          ∙ c.if-number-ne0.false) _ _
          c.read_shape-shape.ensures c.read_shape-larger.ensures
          (was-yes c.name_allowed.ensures c.if-not-name_allowed.false),
      was-yes c.mode_known.ensures c.if-not-mode_known.false,
      omega (arith, (start-at-read-shape2 c).well_formed.1.1.1.0),
    )

abbrev start-at-else1 : tie.Else-number-ne0 → tie.Start
start-at-else1 c = c.before.before.before.before.before.before

abbrev start-at-point-number : tie.After-point_number → tie.Start
start-at-point-number c = c.before.before.before.before.before.before.before.before.before.before.before.before.before

abbrev pair-number-at-else1 : tie.Else-number-ne0 → tie.After-pair_number-number
pair-number-at-else1 c = c.before

abbrev pair-number-at-point-number : tie.After-point_number → tie.After-pair_number-number
pair-number-at-point-number c = c.before.before.before.before.before.before.before.before

returns-4 : tie.Need-returns
returns-4 c =
    let A = (start-at-point-number c).args in
    add-on A.old.now A.new.now A.key.now A.bytes.now A.mode
    (sym (pair-number-at-point-number c).pair_number-number.ensures
    ∙ c.if-number-ne0.false)
    (named-yes A.old.now A.key.now _ c.read_shape-shape.ensures
    c.name_allowed.ensures c.if-not-name_allowed.false)
    (was-yes c.mode_known.ensures c.if-not-mode_known.false) c.point_number.result
    c.point_number.ensures

pub add_number_spec : {M : Type 1} → statement M
add_number_spec =
    tie.close
    (tie.spec
    pair-number-requires
    returns
    read-shape-requires
    name-allowed-requires
    returns-2
    mode-known-requires
    returns-3
    read-shape-requires-2
    point-number-requires
    returns-4)
