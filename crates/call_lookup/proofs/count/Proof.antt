-- The number is that of questions 1, 5 and 6; C is read where they are answered yes. Assumes nothing.
use borrow.Author.Rules.{rules}
use mathlib.Core.Path.{sym, ◌∙◌}
use native.Mathlib.Omega.{arith}
use Rattle.law_file.proofs.Opened.{opened-facts}
use Rattle.call_lookup.proofs.Answers.{count-refused, count-accepted}
use Rattle.call_lookup.proofs.count.Statement.{statement}
use Rattle.call_lookup.proofs.count.Tie as tie

open-number-requires : tie.Need-open_number-number-requires
open-number-requires c κs = search rules

returns : tie.Need-returns-then-number-ne0
returns c = count-refused _ _ c.open_number-number.ensures c.if-number-ne0.true

read-u32-requires : tie.Need-read_u32-points-requires
read-u32-requires c κs =
    omega (arith, (opened-facts _ (sym c.open_number-number.ensures ∙ c.if-number-ne0.false)).size_low)

returns-2 : tie.Need-returns
returns-2 c =
    count-accepted _ _ (sym c.open_number-number.ensures ∙ c.if-number-ne0.false) c.read_u32-points.ensures

pub count_spec : {M : Type 1} → statement M
count_spec =
    tie.close
    (tie.spec
    open-number-requires
    returns
    read-u32-requires
    returns-2)
