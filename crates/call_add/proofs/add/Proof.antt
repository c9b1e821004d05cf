-- The search is for the mode that is asked. Assumes nothing.
use mathlib.Core.Path.{subst}
use mathlib.Core.Bool.{Bool}
use borrow.Author.Rules.{rules}
use Rattle.table_seek.specs.Seeks.{SoughtIs}
use Rattle.call_add.proofs.add.Statement.{statement}
use Rattle.call_add.proofs.add.Tie as tie

mode-known-requires : tie.Need-mode_known-requires
mode-known-requires c κs = search rules

seek-requires : tie.Need-seek-sought-requires
seek-requires c κs = search rules

add-sought-requires : tie.Need-add_sought-requires
add-sought-requires c κs =
    let A = c.args in
    subst (λ (k : Bool). SoughtIs A.image.now A.key.now k c.seek-sought.result)
    c.mode_known.ensures c.seek-sought.ensures

same_length : tie.Need-shape_of-image
same_length c = search rules

returns : tie.Need-returns
returns c = search rules

pub add_spec : {M : Type 1} → statement M
add_spec =
    tie.close
    (tie.spec
    mode-known-requires
    seek-requires
    add-sought-requires
    same_length
    returns)
