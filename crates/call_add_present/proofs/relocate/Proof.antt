-- The old message is retired, the new text placed, and its offset put into the slot. Assumes nothing.
use native.Mathlib.Omega.{arith}
use mathlib.Core.Path.{◌∙◌}
use borrow.Author.Rules.{rules}
use Rattle.law_file.proofs.Opened.{opened-facts}
use Rattle.header_layout.proofs.Shaped.{head-range}
use Rattle.table_search.proofs.Headers.{placed-opened}
use Rattle.table_search.proofs.Heads.{same-open}
use Rattle.message_write.proofs.Steps.{head-retire, retired-free, head-relocated, relocated-steps}
use Rattle.call_add_present.proofs.Shown.{head-fits}
use Rattle.call_add_present.proofs.relocate.Statement.{statement}
use Rattle.call_add_present.proofs.relocate.Tie as tie

abbrev start-at-read-u32-arg : tie.After-shared_slice_known-1 → tie.Start
start-at-read-u32-arg c = c.before.before

read-u32-requires : tie.Need-read_u32-requires
read-u32-requires c κs = omega (arith, (opened-facts _ (start-at-read-u32-arg c).requires.0.accepted).size_low)

cast-new : tie.Need-overflow_cast-read_u32
cast-new c = search rules

new-requires : tie.Need-new-free-requires
new-requires c κs = search rules

abbrev start-at-retire-arg : tie.After-retire-arg-1 → tie.Start
start-at-retire-arg c = c.before.before.before.before.before

retire-requires : tie.Need-retire-requires
retire-requires c κs =
    let S = start-at-retire-arg c in
    omega (arith, head-range S.requires.0, head-fits S.requires.0 S.args.o.0 S.requires.2)

text-start-requires : tie.Need-text_start-requires
text-start-requires c κs = search rules

abbrev read-u32-at-text-start : tie.After-text_start → tie.After-read_u32
read-u32-at-text-start c = c.before.before.before.before.before.before.before

abbrev start-at-read-u32 : tie.After-read_u32 → tie.Start
start-at-read-u32 c = c.before.before.before

abbrev start-at-text-start : tie.After-text_start → tie.Start
start-at-text-start c = c.before.before.before.before.before.before.before.before.before.before

abbrev retire-at-text-start : tie.After-text_start → tie.After-retire
retire-at-text-start c = c.before.before.before.before

take-space-requires : tie.Need-take_space-requires
take-space-requires c κs =
    let S = start-at-text-start c in
    let old = (retire-at-text-start c).retire in
    let open₀ = S.requires.0 in
    let o = S.args.o.0 in
    let same = head-retire open₀ old.new.image o S.requires.2 old.ensures in
    let free = retired-free open₀ old.new.image o S.requires.2 old.ensures in (
      same-open same open₀,
      omega (arith, c.text_start.ensures, free, S.requires.3),
      record { small = S.requires.4.small; room = omega (arith, free, same.size, S.requires.4.room) },
    )

abbrev image-at-set-offset-arg : tie.After-set_offset-arg-1 → tie.After-image-1
image-at-set-offset-arg c = c.before.before.before.before.before.before.before

abbrev shared-slice-known-at-image : tie.After-image-1 → tie.After-shared_slice_known-1
shared-slice-known-at-image c = c.before.before.before.before.before

abbrev start-at-image : tie.After-image-1 → tie.Start
start-at-image c = c.before.before.before.before.before.before.before

abbrev start-at-set-offset-arg : tie.After-set_offset-arg-1 → tie.Start
start-at-set-offset-arg c = c.before.before.before.before.before.before.before.before.before.before.before.before.before.before

abbrev retire-at-set-offset-arg : tie.After-set_offset-arg-1 → tie.After-retire
retire-at-set-offset-arg c = c.before.before.before.before.before.before.before.before

abbrev text-start-at-set-offset-arg : tie.After-set_offset-arg-1 → tie.After-text_start
text-start-at-set-offset-arg c = c.before.before.before.before

abbrev new-at-set-offset-arg : tie.After-set_offset-arg-1 → tie.After-new-free
new-at-set-offset-arg c = c.before.before.before.before.before.before.before.before.before.before

set-offset-requires : tie.Need-set_offset-requires
set-offset-requires c κs =
    let S = start-at-set-offset-arg c in
    let old = (retire-at-set-offset-arg c).retire in
    let start = (text-start-at-set-offset-arg c).text_start in
    let space = c.take_space in
    let x = new-at-set-offset-arg c in
    let open₀ = S.requires.0 in
    let f = opened-facts _ open₀.accepted in
    let same =
    head-relocated open₀ old.new.image S.args.o.0 S.requires.2 old.ensures
    space.new.image S.args.bytes.now start.result.0 S.args.before start.ensures
    S.requires.3 S.requires.4 space.ensures in (
      placed-opened space.new.image S.args.shape (same-open same open₀),
      S.requires.1,
      omega (arith, x.new-free.ensures, x.read_u32.ensures, f.free-high, f.size-high),
    )

same_length : tie.Need-shape_of-image
same_length c = search rules

abbrev text-start-at-slice-known4 : tie.After-slice_known-4-1 → tie.After-text_start
text-start-at-slice-known4 c = c.before.before.before.before.before.before.before

abbrev start-at-slice-known4 : tie.After-slice_known-4-1 → tie.Start
start-at-slice-known4 c = c.before.before.before.before.before.before.before.before.before.before.before.before.before.before.before.before.before

abbrev retire-at-slice-known4 : tie.After-slice_known-4-1 → tie.After-retire
retire-at-slice-known4 c = c.before.before.before.before.before.before.before.before.before.before.before

abbrev take-space-at-slice-known4 : tie.After-slice_known-4-1 → tie.After-take_space
take-space-at-slice-known4 c = c.before.before.before.before.before.before

abbrev new-at-text-start : tie.After-text_start → tie.After-new-free
new-at-text-start c = c.before.before.before.before.before.before

abbrev new-at-slice-known4 : tie.After-slice_known-4-1 → tie.After-new-free
new-at-slice-known4 c = c.before.before.before.before.before.before.before.before.before.before.before.before.before

returns : tie.Need-returns
returns c =
    let S = start-at-slice-known4 c in
    let A = S.args in
    let old = (retire-at-slice-known4 c).retire in
    let start = (text-start-at-slice-known4 c).text_start in
    let space = (take-space-at-slice-known4 c).take_space in
    let x = new-at-slice-known4 c in
    let entry = c.set_offset in
    relocated-steps S.requires.0 old.new.image A.o.0 S.requires.2 old.ensures space.new.image A.bytes.now
    start.result.0 A.before start.ensures S.requires.3 S.requires.4 space.ensures
    entry.new.image A.slot.0 x.new-free.result.0 S.requires.1 (x.new-free.ensures ∙ x.read_u32.ensures)
    entry.ensures

pub relocate_spec : {M : Type 1} → statement M
relocate_spec =
    tie.close
    (tie.spec
    read-u32-requires
    cast-new
    new-requires
    retire-requires
    text-start-requires
    take-space-requires
    set-offset-requires
    same_length
    returns)
