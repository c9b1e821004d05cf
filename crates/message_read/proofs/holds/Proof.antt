-- No offset holds nothing; another as much as its header's length. Assumes nothing.
use mathlib.Core.Path.{◌≡◌, refl, sym, ap, ◌∙◌}
use lib.Dec.{leb}
use borrow.Author.Rules.{rules}
use borrow.Author.Tests.{eq-eqb, ne_eqb}
use Rattle.spec_file.specs.Image.{layout_of}
use Rattle.law_file.proofs.Stretch.{held-some}
use Rattle.message_read.proofs.holds.Statement.{statement}
use Rattle.message_read.proofs.holds.Tie as tie

at-requires : tie.Need-at-requires
at-requires c κs = search rules

returns : tie.Need-returns-then-at-eq0
returns c =
    let A = c.args in
    rw (eq-eqb A.o.0 0 (sym c.at.ensures ∙ c.if-at-eq0.true)) refl

length-at-requires : tie.Need-length_at-requires
length-at-requires c κs = search rules

returns-2 : tie.Need-returns
returns-2 c =
    let A = c.args in
    let z : A.o.0 ≡ 0 → ⊥ = λ e. c.if-at-eq0.false (c.at.ensures ∙ e) in
    rw (ne_eqb A.o.0 0 z, held-some (layout_of A.image.now) A.image.now A.o.0 z)
    (ap (leb A.m) c.length_at.ensures)

pub holds_spec : {M : Type 1} → statement M
holds_spec =
    tie.close
    (tie.spec
    at-requires
    returns
    length-at-requires
    returns-2)
