-- C as `count` answers it. Assumes nothing.
use borrow.Author.Rules.{rules}
use mathlib.Core.Path.{refl}
use Rattle.spec_file.specs.Calls.{count}
use Rattle.export_lookup.proofs.count.Statement.{statement}
use Rattle.export_lookup.proofs.count.Tie as tie

count-requires : tie.Need-count-counted-requires
count-requires c κs = search rules

returns : tie.Need-returns
unfolding count
returns c = record { number = c.count-counted.ensures.0; amount = c.count-counted.ensures.1; image = refl }

pub count_spec : {M : Type 1} → statement M
count_spec =
    tie.close
    (tie.spec
    count-requires
    returns)
