-- A width of 0 is told apart first, so that no remainder by 0 is taken. Assumes nothing.
use native.Mathlib.Omega.{arith}
use mathlib.Core.Path.{sym}
use borrow.Author.Rules.{rules}
use borrow.Author.Tests.{le-leb, lt-leb}
use Rattle.spec_columns.specs.Columns.{whole_records}
use Rattle.columns_width.proofs.whole_records.Statement.{statement}
use Rattle.columns_width.proofs.whole_records.Tie as tie

returns : tie.Need-returns-then-width-lt1
unfolding whole_records
returns c = sym (rw (lt-leb 1 c.args.width (omega arith)))

rem-result : tie.Need-nonzero_rem-result
rem-result c = search rules

returns-2 : tie.Need-returns
unfolding whole_records
returns-2 c = sym (rw (le-leb 1 c.args.width (omega arith)))

pub whole_records_spec : {M : Type 1} → statement M
whole_records_spec =
    tie.close
    (tie.spec
    returns
    rem-result
    returns-2)
