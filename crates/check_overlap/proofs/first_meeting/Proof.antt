-- `check_overlap::first_meeting` meets its contract: X is not below D. Assumes nothing.
use native.Mathlib.Omega.{arith}
use Rattle.law_file.proofs.Opened.{opened-facts}
use Rattle.header_layout.proofs.Shaped.{area-field}
use borrow.Author.Rules.{rules}
use Rattle.check_overlap.proofs.first_meeting.Statement.{statement}
use Rattle.check_overlap.proofs.first_meeting.Tie as tie

read-u32-requires : tie.Need-read_u32-requires
read-u32-requires c κs =
    let S = c in
    omega (arith, (opened-facts S.args.image.now S.requires.opened.accepted).size_low)

cast-span : tie.Need-overflow_cast-span
cast-span c = search rules

at-requires : tie.Need-at-requires
at-requires c κs = search rules

sub-span : tie.Need-overflow_sub-span
sub-span c =
    let S = c in
    let o = opened-facts S.args.image.now S.requires.opened.accepted in
    omega (arith, c.at.ensures, area-field S.requires.opened, o.free-low, c.read_u32.ensures)

mul-if1 : tie.Need-overflow_mul-t-7
mul-if1 c = search rules

meeting-small-requires : tie.Need-meeting_small-requires
meeting-small-requires c κs = search rules

returns : tie.Need-returns-then-span
returns c = search rules

mul-if2 : tie.Need-overflow_mul-t-8
mul-if2 c = search rules

meeting-middle-requires : tie.Need-meeting_middle-requires
meeting-middle-requires c κs = search rules

returns-2 : tie.Need-returns-then-span-2
returns-2 c = search rules

meeting-large-requires : tie.Need-meeting_large-requires
meeting-large-requires c κs = search rules

returns-3 : tie.Need-returns
returns-3 c = search rules

pub first_meeting_spec : {M : Type 1} → statement M
first_meeting_spec =
    tie.close
    (tie.spec
    read-u32-requires
    cast-span
    at-requires
    sub-span
    mul-if1
    meeting-small-requires
    returns
    mul-if2
    meeting-middle-requires
    returns-2
    meeting-large-requires
    returns-3)
