-- `check_overlap::meeting_large` meets its contract. Assumes nothing.
use native.Mathlib.Omega.{arith}
use borrow.Author.Rules.{rules}
use Rattle.check_overlap.proofs.meeting_large.Statement.{statement}
use Rattle.check_overlap.proofs.meeting_large.Tie as tie

slice-aggregate-meeting-in : tie.Need-slice_bounds-meeting_in-end
slice-aggregate-meeting-in c = search rules

meeting-in-requires : tie.Need-meeting_in-requires
meeting-in-requires c κs = (c.requires, omega arith, omega arith)

returns : tie.Need-returns
returns c = search rules

pub meeting_large_spec : {M : Type 1} → statement M
meeting_large_spec =
    tie.close
    (tie.spec
    slice-aggregate-meeting-in
    meeting-in-requires
    returns)
