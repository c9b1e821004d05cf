-- `table_close::home_of` meets its contract.
-- Assumes nothing.
use mathlib.Core.Path.{ap, ◌∙◌}
use Rattle.spec_file.specs.Image.{layout_of, home}
use borrow.Author.Rules.{rules}
use Rattle.table_close.proofs.home_of.Statement.{statement}
use Rattle.table_close.proofs.home_of.Tie as tie

key-of-requires : tie.Need-key_of-requires
key-of-requires c κs = search rules

home-requires : tie.Need-home-requires
home-requires c κs = search rules

returns : tie.Need-returns
returns c =
    c.home.ensures ∙ ap (home (layout_of c.args.image.now)) c.key_of.ensures

pub home_of_spec : {M : Type 1} → statement M
home_of_spec =
    tie.close
    (tie.spec
    key-of-requires
    home-requires
    returns)
