-- Both C as `count_pair` answers them. Assumes nothing.
use mathlib.Core.Path.{refl}
use borrow.Author.Rules.{rules}
use Rattle.export_pair.proofs.grow_count.Statement.{statement}
use Rattle.export_pair.proofs.grow_count.Tie as tie

count-pair-requires : tie.Need-count_pair-both-requires
count-pair-requires c κs = search rules

returns : tie.Need-returns
returns c =
    let e = c.count_pair-both.ensures in
    record { number = e.0; amount = e.1; old = refl; new = refl }

pub grow_count_spec : {M : Type 1} → statement M
grow_count_spec =
    tie.close
    (tie.spec
    count-pair-requires
    returns)
