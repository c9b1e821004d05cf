-- `check_overlap::meeting_in` meets its contract. Assumes nothing.
use borrow.Author.Rules.{rules}
use Rattle.check_overlap.proofs.meeting_in.Statement.{statement}
use Rattle.check_overlap.proofs.meeting_in.Tie as tie

seen-apart-requires : tie.Need-seen_apart-requires
seen-apart-requires c κs = search rules

same_length : tie.Need-shape_of-room-then-seen_apart
same_length c = search rules

returns : tie.Need-returns-then-seen_apart
returns c = c.seen_apart.ensures c.if-seen_apart.true

sweep-requires : tie.Need-sweep-requires
sweep-requires c κs = search rules

same-length-2 : tie.Need-shape_of-room
same-length-2 c = search rules

returns-2 : tie.Need-returns
returns-2 c = search rules

pub meeting_in_spec : {M : Type 1} → statement M
meeting_in_spec =
    tie.close
    (tie.spec
    seen-apart-requires
    same_length
    returns
    sweep-requires
    same-length-2
    returns-2)
