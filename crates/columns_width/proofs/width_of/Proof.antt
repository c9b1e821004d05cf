-- Where nothing is stored, no byte stands at 0. Assumes nothing.
use native.Mathlib.Omega.{arith}
use mathlib.Core.Path.{refl, sym}
use lib.ListN.{get_or-eq_default}
use borrow.Author.Rules.{rules}
use Rattle.spec_columns.specs.Columns.{width_of}
use Rattle.columns_width.proofs.width_of.Statement.{statement}
use Rattle.columns_width.proofs.width_of.Tie as tie

returns : tie.Need-returns-then-stored-eq0
unfolding width_of
returns c = sym (get_or-eq_default c.args.stored.now 0 (omega arith))

shared-slice-read-result : tie.Need-bounds-stored-0
shared-slice-read-result c = search rules

cast-result : tie.Need-overflow_cast-result
cast-result c = omega (arith, c.shared_slice_known-1.given 0)

returns-2 : tie.Need-returns
unfolding width_of
returns-2 c = refl

pub width_of_spec : {M : Type 1} → statement M
width_of_spec =
    tie.close
    (tie.spec
    returns
    shared-slice-read-result
    cast-result
    returns-2)
