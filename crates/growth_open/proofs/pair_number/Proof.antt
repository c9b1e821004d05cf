-- Each question in turn: those that are passed over were answered yes. Assumes nothing.
use mathlib.Core.Path.{◌≡◌, sym, ◌∙◌}
use mathlib.Core.List.{[]}
use borrow.Author.Rules.{rules}
use Rattle.spec_file.specs.Questions.{open_number}
use Rattle.spec_moves.specs.Moves.{Pair}
use Rattle.law_file.proofs.Tests.{was-no, was-yes}
use Rattle.growth_open.proofs.Pairs.{pair-closed, pair-21-closed, pair-21-kind, pair-0}
use Rattle.growth_open.proofs.pair_number.Statement.{statement}
use Rattle.growth_open.proofs.pair_number.Tie as tie

-- the pair that is lent
abbrev pair : tie.Start → Pair
pair S = record { old = S.args.old.now; new = S.args.new.now }

abbrev start : tie.Else-number-ne0 → tie.Start
start c = c.before.before.before.before

old-open : (c : tie.Else-number-ne0) → open_number (pair (start c)).old ≡ 0
old-open c = sym c.open_number-number.ensures ∙ c.if-number-ne0.false

new-open : (c : tie.Else-open_number-ne0) → open_number (pair (start c.before.before)).new ≡ 0
new-open c = sym c.open_number.ensures ∙ c.if-open_number-ne0.false

open-number-requires : tie.Need-open_number-number-requires
open-number-requires c κs = search rules

returns : tie.Need-returns-then-number-ne0
returns c =
    let e = c.open_number-number.ensures in
    e ∙ sym (pair-closed (pair c.before.before.before.before) [] (λ z. c.if-number-ne0.true (e ∙ z)))

open-number-requires-2 : tie.Need-open_number-requires
open-number-requires-2 c κs = search rules

returns-2 : tie.Need-returns-then-open_number-ne0
returns-2 c =
    let E = c.before.before in
    let e = c.open_number.ensures in
    sym (pair-21-closed (pair (start E)) [] (old-open E) (λ z. c.if-open_number-ne0.true (e ∙ z)))

same-kind-requires : tie.Need-same_kind-requires
same-kind-requires c κs = (old-open c.before.before, new-open c)

returns-3 : tie.Need-returns-then-not-same_kind
returns-3 c =
    let N = c.before.before in
    let E = c.before.before.before.before in
    let other = was-no c.same_kind.ensures c.if-not-same_kind.true in
    sym (pair-21-kind (pair (start E)) [] (old-open E) (new-open N) other)

returns-4 : tie.Need-returns
returns-4 c =
    let N = c.before.before in
    let E = c.before.before.before.before in
    sym (pair-0 (pair (start E)) (old-open E) (new-open N) (was-yes c.same_kind.ensures c.if-not-same_kind.false))

pub pair_number_spec : {M : Type 1} → statement M
pair_number_spec =
    tie.close
    (tie.spec
    open-number-requires
    returns
    open-number-requires-2
    returns-2
    same-kind-requires
    returns-3
    returns-4)
