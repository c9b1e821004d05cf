-- The last page, by the specification's two cases. Assumes nothing.
use Prim.Native.Nat.{ℕ, ◌-◌, ◌/◌}
use mathlib.Core.Path.{sym, ap₂, ◌∙◌}
use borrow.Author.Rules.{rules}
use borrow.Author.Tests.{eq-eqb, ne_eqb}
use Rattle.spec_file.specs.Image.{last_page}
use Rattle.message_write.proofs.last_page.Statement.{statement}
use Rattle.message_write.proofs.last_page.Tie as tie

at-requires : tie.Need-at-d-requires
at-requires c κs = search rules

at-requires-2 : tie.Need-at-x-requires
at-requires-2 c κs = search rules

returns : tie.Need-returns-then-x-d
unfolding last_page
returns c =
    let d = c.at-d.ensures in
    let x = c.at-x.ensures in
    rw (eq-eqb _ _ (sym x ∙ c.if-x-d.true ∙ d))

sub-result : tie.Need-overflow_sub-result
sub-result c = search rules

sub-result-2 : tie.Need-overflow_sub-result-2
sub-result-2 c = search rules

cast-result : tie.Need-overflow_cast-result
cast-result c = search rules

returns-2 : tie.Need-returns
unfolding last_page
returns-2 c =
    let d = c.at-d.ensures in
    let x = c.at-x.ensures in
    rw (ne_eqb _ _ (λ e. c.if-x-d.false (x ∙ e ∙ sym d))) (ap₂ (λ (a b : ℕ). (a - b - 1) / 4096) x d)

pub last_page_spec : {M : Type 1} → statement M
last_page_spec =
    tie.close
    (tie.spec
    at-requires
    at-requires-2
    returns
    sub-result
    sub-result-2
    cast-result
    returns-2)
