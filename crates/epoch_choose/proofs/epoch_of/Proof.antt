-- `epoch_choose::epoch_of` meets its contract: the last four bytes as a number. Assumes nothing.
use mathlib.Core.Path.{◌∙◌}
use borrow.Author.Rules.{rules}
use Rattle.epoch_choose.proofs.Keys.{epoch-read}
use Rattle.epoch_choose.proofs.epoch_of.Statement.{statement}
use Rattle.epoch_choose.proofs.epoch_of.Tie as tie

sub-read-u32 : tie.Need-overflow_sub-end
sub-read-u32 c = search rules

read-u32-requires : tie.Need-read_u32-requires
read-u32-requires c κs = search rules

returns : tie.Need-returns
returns c =
    let S = c in
    c.read_u32.ensures ∙ epoch-read S.args.key.now S.requires

pub epoch_of_spec : {M : Type 1} → statement M
epoch_of_spec =
    tie.close
    (tie.spec
    sub-read-u32
    read-u32-requires
    returns)
