-- The mark is the last byte. Assumes nothing.
use mathlib.Core.Path.{refl}
use Rattle.journal_recover.proofs.Settling.{mark-stored}
use borrow.Author.Rules.{rules}
use Rattle.journal_recover.proofs.clear_mark.Statement.{statement}
use Rattle.journal_recover.proofs.clear_mark.Tie as tie

sub-last : tie.Need-overflow_sub-last
sub-last c = search rules

slice-write-journal : tie.Need-bounds-journal-last
slice-write-journal c = search rules

same_length : tie.Need-shape_of-journal
same_length c = search rules

returns : tie.Need-returns
returns c = mark-stored c.args.journal.now c.args.journal.now 0 refl c.requires

pub clear_mark_spec : {M : Type 1} → statement M
clear_mark_spec =
    tie.close
    (tie.spec
    sub-last
    slice-write-journal
    same_length
    returns)
