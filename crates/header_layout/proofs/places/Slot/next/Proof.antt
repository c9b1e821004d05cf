-- The slot after a slot: one up, or the first. Assumes nothing.
use borrow.Author.Rules.{rules}
use mathlib.Core.Path.{sym}
use Rattle.law_file.proofs.Cyclic.{next_up, next-wrap}
use Rattle.header_layout.proofs.places.Slot.next.Statement.{statement}
use Rattle.header_layout.proofs.places.Slot.next.Tie as tie

add-if1 : tie.Need-overflow_add-self
add-if1 c = search rules

add-t6 : tie.Need-overflow_add-result
add-t6 c = search rules

returns : tie.Need-returns-then-self-slots
returns c =
    sym (next_up c.args.slots c.args.self.0
    c.if-self-slots.true)

returns-2 : tie.Need-returns-else-self-slots
returns-2 c = sym (next-wrap c.args.slots c.args.self.0 c.if-self-slots.false)

pub next_spec : {M : Type 1} → statement M
next_spec =
    tie.close
    (tie.spec
    add-if1
    add-t6
    returns
    returns-2)
