-- `call_at_epoch::refused` meets its contract. Assumes nothing.
use mathlib.Core.Path.{refl}
use borrow.Author.Rules.{rules}
use Rattle.spec_epoch.specs.Epochs.{refused_dated}
use Rattle.call_at_epoch.proofs.refused.Statement.{statement}
use Rattle.call_at_epoch.proofs.refused.Tie as tie

nothing-requires : tie.Need-nothing-located-requires
nothing-requires c κs = search rules

returns : tie.Need-returns
unfolding refused_dated
returns c =
    let n = c.nothing-located.ensures in
    record { number = n.0; epoch = refl; start = n.1; length = n.2 }

pub refused_spec : {M : Type 1} → statement M
refused_spec =
    tie.close
    (tie.spec
    nothing-requires
    returns)
