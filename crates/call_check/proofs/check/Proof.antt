-- Questions 1, 5 and 6, then the table. Assumes nothing.
use native.Mathlib.Omega.{arith}
use mathlib.Core.Path.{◌≡◌, sym, ◌∙◌}
use borrow.Author.Rules.{rules}
use Rattle.spec_file.specs.Questions.{open_number}
use Rattle.law_file.proofs.Opened.{opened-facts}
use Rattle.call_check.specs.Verdicts.{verdict_in}
use Rattle.check_entries.proofs.Turns.{check-closed, check-open}
use Rattle.call_check.proofs.check.Statement.{statement}
use Rattle.call_check.proofs.check.Tie as tie

open-number-requires : tie.Need-open_number-number-requires
open-number-requires c κs = search rules

returns : tie.Need-returns-then-number-ne0
unfolding verdict_in
returns c =
    let O = c.open_number-number in
    check-closed c.args.image.now O.result O.ensures c.if-number-ne0.true

-- behind the questions
opened : (c : tie.Else-number-ne0) → open_number c.args.image.now ≡ 0
opened c = sym c.open_number-number.ensures ∙ c.if-number-ne0.false

read-shape-requires : tie.Need-read_shape-requires
read-shape-requires c κs = opened c

check-table-requires : tie.Need-check_table-requires
check-table-requires c κs = record { accepted = opened c.before; shape = c.read_shape.ensures }

returns-2 : tie.Need-returns
returns-2 c =
    let E = c.before.before in
    c.check_table.ensures ∙ check-open E.args.image.now (opened E)

pub check_spec : {M : Type 1} → statement M
check_spec =
    tie.close
    (tie.spec
    open-number-requires
    returns
    read-shape-requires
    check-table-requires
    returns-2)
