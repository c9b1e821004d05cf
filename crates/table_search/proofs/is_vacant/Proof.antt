-- `table_search::is_vacant` meets its contract.
-- Assumes nothing.
use mathlib.Core.Path.{ap, ◌∙◌}
use Rattle.spec_file.specs.Bytes.{all_zero}
use Rattle.spec_file.specs.Image.{vacant}
use borrow.Author.Rules.{rules}
use Rattle.table_search.proofs.is_vacant.Statement.{statement}
use Rattle.table_search.proofs.is_vacant.Tie as tie

key-of-requires : tie.Need-key_of-requires
key-of-requires c κs = search rules

all-zero-requires : tie.Need-all_zero-requires
all-zero-requires c κs = search rules

returns : tie.Need-returns
unfolding vacant
returns c = c.all_zero.ensures ∙ ap all_zero c.key_of.ensures

pub is_vacant_spec : {M : Type 1} → statement M
is_vacant_spec =
    tie.close
    (tie.spec
    key-of-requires
    all-zero-requires
    returns)
