-- `compact_sweep::sweep_small` meets its contract. Assumes nothing.
use borrow.Author.Rules.{rules}
use Rattle.compact_sweep.proofs.sweep_small.Statement.{statement}
use Rattle.compact_sweep.proofs.sweep_small.Tie as tie

slice-aggregate-sweep : tie.Need-slice_bounds-sweep-end
slice-aggregate-sweep c = search rules

sweep-requires : tie.Need-sweep-requires
sweep-requires c κs = search rules

same_length : tie.Need-shape_of-image
same_length c = search rules

returns : tie.Need-returns
returns c = search rules

pub sweep_small_spec : {M : Type 1} → statement M
sweep_small_spec =
    tie.close
    (tie.spec
    slice-aggregate-sweep
    sweep-requires
    same_length
    returns)
