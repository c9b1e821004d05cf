-- `check_sweep::window::carried_on` meets its contract. Assumes nothing.
use Rattle.std.proofs.Common.{le-ltb, lt-ltb}
use Rattle.check_sweep.proofs.window.carried_on.Statement.{statement}
use Rattle.check_sweep.proofs.window.carried_on.Tie as tie

returns : tie.Need-returns-then-hi-end
returns c = rw (lt-ltb c.args.hi c.args.end c.if-hi-end.true)

returns-2 : tie.Need-returns-else-hi-end
returns-2 c = rw (le-ltb c.args.hi c.args.end c.if-hi-end.false)

pub carried_on_spec : {M : Type 1} → statement M
carried_on_spec =
    tie.close
    (tie.spec
    returns
    returns-2)
