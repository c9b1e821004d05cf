-- 0 means the default. Assumes nothing.
use borrow.Author.Tests.{eq-eqb, ne_eqb}
use Rattle.spec_file.specs.Create.{slots_asked}
use Rattle.call_create.proofs.asked.slots_asked.Statement.{statement}
use Rattle.call_create.proofs.asked.slots_asked.Tie as tie

returns : tie.Need-returns-then-slots-eq0
unfolding slots_asked
returns c = rw (eq-eqb c.args.slots 0 c.if-slots-eq0.true)

returns-2 : tie.Need-returns-else-slots-eq0
unfolding slots_asked
returns-2 c = rw (ne_eqb c.args.slots 0 c.if-slots-eq0.false)

pub slots_asked_spec : {M : Type 1} → statement M
slots_asked_spec =
    tie.close
    (tie.spec
    returns
    returns-2)
