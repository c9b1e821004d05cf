-- By cases of the test. Assumes nothing.
use mathlib.Core.Path.{refl, sym}
use borrow.Author.Tests.{eq-eqb, ne_eqb}
use Rattle.header_layout.specs.Shapes.{mask_by}
use Rattle.header_layout.proofs.shape.length_mask.Statement.{statement}
use Rattle.header_layout.proofs.shape.length_mask.Tie as tie

returns : tie.Need-returns-then-head-eq-WIDE_HEAD
unfolding mask_by
returns c = sym (rw (eq-eqb _ 5 c.if-head-eq-WIDE_HEAD.true) refl)

returns-2 : tie.Need-returns
unfolding mask_by
returns-2 c = sym (rw (ne_eqb _ 5 c.if-head-eq-WIDE_HEAD.false) refl)

pub length_mask_spec : {M : Type 1} → statement M
length_mask_spec =
    tie.close
    (tie.spec
    returns
    returns-2)
