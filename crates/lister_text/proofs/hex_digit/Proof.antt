-- `lister_text::hex_digit` meets its contract.
-- Assumes nothing.
use mathlib.Core.Path.{refl, sym}
use borrow.Author.Tests.{lt-ltb, le-ltb}
use Rattle.lister_text.specs.Text.{hex_digit}
use borrow.Author.Rules.{rules}
use Rattle.lister_text.proofs.hex_digit.Statement.{statement}
use Rattle.lister_text.proofs.hex_digit.Tie as tie

add-result : tie.Need-overflow_add-result
add-result c = search rules

returns : tie.Need-returns-then-d-lt10
unfolding hex_digit
returns c = sym (rw (lt-ltb c.args.d 10 c.if-d-lt10.true) refl)

add-result-2 : tie.Need-overflow_add-result-2
add-result-2 c = search rules

returns-2 : tie.Need-returns
unfolding hex_digit
returns-2 c = sym (rw (le-ltb c.args.d 10 c.if-d-lt10.false) refl)

pub hex_digit_spec : {M : Type 1} → statement M
hex_digit_spec =
    tie.close
    (tie.spec
    add-result
    returns
    add-result-2
    returns-2)
