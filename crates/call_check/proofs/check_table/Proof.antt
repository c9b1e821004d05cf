-- Entries up to the first that fails, then stretches that meet below it, then C. Assumes nothing.
use native.Mathlib.Omega.{arith}
use mathlib.Core.Path.{sym, ◌∙◌}
use borrow.Author.Rules.{rules}
use Rattle.law_file.proofs.Opened.{opened-facts}
use Rattle.table_search.proofs.Headers.{layout-slots}
use Rattle.call_check.specs.Verdicts.{verdict_in}
use Rattle.check_entries.proofs.Turns.{entries-checked, verdict-slot, verdict-count, verdict-sound}
use Rattle.call_check.proofs.check_table.Statement.{statement}
use Rattle.call_check.proofs.check_table.Tie as tie

pass-entries-requires : tie.Need-pass_entries-entries-requires
pass-entries-requires c κs = search rules

first-meeting-requires : tie.Need-first_meeting-first-requires
first-meeting-requires c κs =
    let S = c in
    let p = c.pass_entries-entries in
    entries-checked S.args.image.now S.args.shape p.result.bound p.result.count S.requires p.ensures

new-requires : tie.Need-new-requires
new-requires c κs = search rules

abbrev start-at-new : tie.After-new → tie.Start
start-at-new c = c.before.before.before.before.before.before

abbrev pass-entries-at-new : tie.After-new → tie.After-pass_entries-entries
pass-entries-at-new c = c.before.before.before.before

returns : tie.Need-returns-then-first-shape
unfolding verdict_in
returns c =
    let S = (start-at-new c) in
    let A = S.args in
    let p = (pass-entries-at-new c).pass_entries-entries in
    let f = c.first_meeting-first in
    verdict-slot A.image.now A.shape.slots (layout-slots A.image.now A.shape S.requires.shape)
    p.result.bound p.result.count p.ensures f.result f.ensures c.if-first-shape.true _
    c.new.ensures

abbrev start-at-else1 : tie.Else-first-shape → tie.Start
start-at-else1 c = c.before.before.before.before.before

read-u32-requires : tie.Need-read_u32-requires
read-u32-requires c κs = omega (arith, (opened-facts _ (start-at-else1 c).requires.accepted).size_low)

cast-if2 : tie.Need-overflow_cast-read_u32
cast-if2 c = search rules

abbrev shared-slice-known-at-then2 : tie.Then-read_u32-entries → tie.After-shared_slice_known-1
shared-slice-known-at-then2 c = c.before.before.before.before.before.before.before

abbrev start-at-then2 : tie.Then-read_u32-entries → tie.Start
start-at-then2 c = c.before.before.before.before.before.before.before.before

abbrev pass-entries-at-then2 : tie.Then-read_u32-entries → tie.After-pass_entries-entries
pass-entries-at-then2 c = c.before.before.before.before.before.before

abbrev first-meeting-at-then2 : tie.Then-read_u32-entries → tie.After-first_meeting-first
first-meeting-at-then2 c = c.before.before.before.before.before

returns-2 : tie.Need-returns-then-read_u32-entries
unfolding verdict_in
returns-2 c =
    let S = (start-at-then2 c) in
    let A = S.args in
    let p = (pass-entries-at-then2 c).pass_entries-entries in
    let f = (first-meeting-at-then2 c).first_meeting-first in
    verdict-count A.image.now A.shape.slots (layout-slots A.image.now A.shape S.requires.shape)
    p.result.bound p.result.count p.ensures f.result f.ensures c.if-first-shape.false
    (λ q. c.if-read_u32-entries.true (c.read_u32.ensures ∙ q))

abbrev shared-slice-known-at-else2 : tie.Else-read_u32-entries → tie.After-shared_slice_known-1
shared-slice-known-at-else2 c = c.before.before.before.before.before.before.before

abbrev start-at-else2 : tie.Else-read_u32-entries → tie.Start
start-at-else2 c = c.before.before.before.before.before.before.before.before

abbrev pass-entries-at-else2 : tie.Else-read_u32-entries → tie.After-pass_entries-entries
pass-entries-at-else2 c = c.before.before.before.before.before.before

abbrev first-meeting-at-else2 : tie.Else-read_u32-entries → tie.After-first_meeting-first
first-meeting-at-else2 c = c.before.before.before.before.before

returns-3 : tie.Need-returns
unfolding verdict_in
returns-3 c =
    let S = (start-at-else2 c) in
    let A = S.args in
    let p = (pass-entries-at-else2 c).pass_entries-entries in
    let f = (first-meeting-at-else2 c).first_meeting-first in
    verdict-sound A.image.now A.shape.slots (layout-slots A.image.now A.shape S.requires.shape)
    p.result.bound p.result.count p.ensures f.result f.ensures c.if-first-shape.false
    (sym c.read_u32.ensures ∙ c.if-read_u32-entries.false)

pub check_table_spec : {M : Type 1} → statement M
check_table_spec =
    tie.close
    (tie.spec
    pass-entries-requires
    first-meeting-requires
    new-requires
    returns
    read-u32-requires
    cast-if2
    returns-2
    returns-3)
