-- `compact_sweep::sweep_wide` meets its contract. Assumes nothing.
use borrow.Author.Rules.{rules}
use Rattle.compact_sweep.proofs.sweep_wide.Statement.{statement}
use Rattle.compact_sweep.proofs.sweep_wide.Tie as tie

sweep-requires : tie.Need-sweep-requires
sweep-requires c κs = search rules

same_length : tie.Need-shape_of-image
same_length c = search rules

returns : tie.Need-returns
returns c = search rules

pub sweep_wide_spec : {M : Type 1} → statement M
sweep_wide_spec =
    tie.close
    (tie.spec
    sweep-requires
    same_length
    returns)
