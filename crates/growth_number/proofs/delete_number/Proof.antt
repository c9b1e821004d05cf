-- The pair's questions, 7, then the point's. Assumes nothing.
use mathlib.Core.Path.{sym, ◌∙◌}
use Rattle.law_file.proofs.Tests.{was-yes}
use Rattle.table_search.proofs.Taken.{named-no, named-yes}
use Rattle.growth_open.proofs.Pairs.{pair-open}
use Rattle.growth_number.proofs.Turns.{paired, delete-stop, delete-7, delete-on}
use borrow.Author.Rules.{rules}
use Rattle.growth_number.proofs.delete_number.Statement.{statement}
use Rattle.growth_number.proofs.delete_number.Tie as tie

pair-number-requires : tie.Need-pair_number-number-requires
pair-number-requires c κs = search rules

returns : tie.Need-returns-then-number-ne0
returns c =
    let A = c.args in
    c.pair_number-number.ensures
    ∙ sym (delete-stop A.old.now A.new.now A.key.now
    (λ z. c.if-number-ne0.true (c.pair_number-number.ensures ∙ z)))

read-shape-requires : tie.Need-read_shape-shape-requires
read-shape-requires c κs = (pair-open _ (sym c.pair_number-number.ensures ∙ c.if-number-ne0.false)).first

name-allowed-requires : tie.Need-name_allowed-requires
name-allowed-requires c κs = search rules

abbrev start-at-shared-slice-known : tie.After-shared_slice_known-1 → tie.Start
start-at-shared-slice-known c = c.before

abbrev start-at-then2 : tie.Then-not-name_allowed → tie.Start
start-at-then2 c = c.before.before.before.before.before.before.before.before

returns-2 : tie.Need-returns-then-not-name_allowed
returns-2 c =
    let A = (start-at-then2 c).args in
    sym (delete-7 A.old.now A.new.now A.key.now
    (sym c.pair_number-number.ensures ∙ c.if-number-ne0.false)
    (named-no A.old.now A.key.now _ c.read_shape-shape.ensures c.name_allowed.ensures
    c.if-not-name_allowed.true))

read-shape-requires-2 : tie.Need-read_shape-larger-requires
read-shape-requires-2 c κs =
    (pair-open _ (sym c.pair_number-number.ensures
    ∙ c.if-number-ne0.false)).second

abbrev start-at-shared-slice-known2 : tie.After-shared_slice_known-2-1 → tie.Start
start-at-shared-slice-known2 c = c.before.before

abbrev start-at-read-shape2 : tie.After-read_shape-larger → tie.Start
start-at-read-shape2 c = c.before.before.before.before.before.before.before.before.before

remove-number-requires : tie.Need-remove_number-requires
remove-number-requires c κs =
    let A = (start-at-read-shape2 c).args in
    paired A.old.now A.new.now A.key.now
    (sym c.pair_number-number.ensures
    ∙ c.if-number-ne0.false) _ _
    c.read_shape-shape.ensures c.read_shape-larger.ensures
    (was-yes c.name_allowed.ensures c.if-not-name_allowed.false)

abbrev start-at-shared-slice-known3 : tie.After-shared_slice_known-3-1 → tie.Start
start-at-shared-slice-known3 c = c.before.before.before

abbrev start-at-remove-number : tie.After-remove_number → tie.Start
start-at-remove-number c = c.before.before.before.before.before.before.before.before.before.before

returns-3 : tie.Need-returns
returns-3 c =
    let A = (start-at-remove-number c).args in
    c.remove_number.ensures
    ∙ sym (delete-on A.old.now A.new.now A.key.now
    (sym c.pair_number-number.ensures
    ∙ c.if-number-ne0.false)
    (named-yes A.old.now A.key.now _ c.read_shape-shape.ensures
    c.name_allowed.ensures c.if-not-name_allowed.false))

pub delete_number_spec : {M : Type 1} → statement M
delete_number_spec =
    tie.close
    (tie.spec
    pair-number-requires
    returns
    read-shape-requires
    name-allowed-requires
    returns-2
    read-shape-requires-2
    remove-number-requires
    returns-3)
