-- Four bytes, as they are read. Assumes nothing.
use mathlib.Core.Path.{◌∙◌}
use borrow.Author.Rules.{rules}
use Rattle.bytes_compare.proofs.Little.{little-four}
use Rattle.bytes_compare.proofs.blocks.four.Statement.{statement}
use Rattle.bytes_compare.proofs.blocks.four.Tie as tie

read-little-requires : tie.Need-read_little-requires
read-little-requires c κs = search rules

returns : tie.Need-returns
returns c =
    let S = c in
    c.read_little.ensures ∙ little-four S.args.s.now S.args.at S.requires

pub four_spec : {M : Type 1} → statement M
four_spec =
    tie.close
    (tie.spec
    read-little-requires
    returns)
