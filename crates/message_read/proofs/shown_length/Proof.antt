-- An active message shows its length, another shows nothing. Assumes nothing.
use native.Mathlib.Omega.{arith}
use mathlib.Core.Path.{sym, ◌∙◌}
use borrow.Author.Rules.{rules}
use Rattle.spec_file.specs.Image.{layout_of}
use Rattle.header_layout.proofs.Shaped.{head-range}
use Rattle.message_read.proofs.Sound.{length-shown-yes, length-shown-no}
use Rattle.message_read.proofs.shown_length.Statement.{statement}
use Rattle.message_read.proofs.shown_length.Tie as tie

is-active-requires : tie.Need-is_active-requires
is-active-requires c κs = omega (arith, head-range c.requires.0, c.requires.1)

length-at-requires : tie.Need-length_at-requires
length-at-requires c κs = search rules

returns : tie.Need-returns-then-is_active
returns c =
    let A = c.args in
    c.length_at.ensures
    ∙ sym (length-shown-yes (layout_of A.image.now) A.image.now A.o.0
    (sym c.is_active.ensures ∙ c.if-is_active.true))

returns-2 : tie.Need-returns
returns-2 c =
    let A = c.args in
    sym (length-shown-no (layout_of A.image.now) A.image.now A.o.0
    (sym c.is_active.ensures ∙ c.if-is_active.false))

pub shown_length_spec : {M : Type 1} → statement M
shown_length_spec =
    tie.close
    (tie.spec
    is-active-requires
    length-at-requires
    returns
    returns-2)
