-- The old message is retired, the columns placed, and their offset put into the slot. Assumes nothing.
use Prim.Native.Nat.{ℕ, ◌+◌, ◌≤◌}
use native.Mathlib.Omega.{arith}
use mathlib.Core.Path.{◌≡◌, refl, sym, ap, ◌∙◌}
use mathlib.Core.List.{◌++◌}
use lib.ListN.{length}
use borrow.Author.Rules.{rules}
use Rattle.spec_file.specs.Bytes.{Bytes, part}
use Rattle.spec_file.specs.Limits.{free_field}
use Rattle.spec_file.specs.Image.{field, layout_of}
use Rattle.spec_file.specs.Messages.{take_space, relocated}
use Rattle.law_file.proofs.Opened.{opened-facts}
use Rattle.spec_columns.specs.Columns.{columns}
use Rattle.law_columns.proofs.Turned.{length-stored}
use Rattle.header_layout.proofs.Shaped.{head-width}
use Rattle.table_search.proofs.Headers.{placed-opened}
use Rattle.table_search.proofs.Heads.{SameHead, same-open}
use Rattle.table_search.specs.Slots.{key_in}
use Rattle.message_write.specs.Fits.{Fits}
use Rattle.message_write.proofs.Steps.{head-retire, retired-free, head-relocated, relocated-steps}
use Rattle.call_add_present.proofs.Shown.{head-fits, head-end, text-none}
use Rattle.columns_present.proofs.relocate_records.Statement.{statement}
use Rattle.columns_present.proofs.relocate_records.Tie as tie

abbrev text : tie.Start → Bytes
text c = columns c.args.width c.args.records.now

-- the columns have room, with none of the old text before them
fits : (c : tie.Start) → Fits c.args.image.now c.args.shape (0 + length (text c))
fits c =
    let A = c.args in
    let long = length-stored A.width A.records.now c.requires.4 in
    record { small = omega (arith, long, c.requires.3.small); room = omega (arith, long, c.requires.3.room) }

abbrev start-at-read-u32-arg : tie.After-shared_slice_known-1 → tie.Start
start-at-read-u32-arg c = c.before.before

read-u32-requires : tie.Need-read_u32-requires
read-u32-requires c κs = omega (arith, (opened-facts _ (start-at-read-u32-arg c).requires.0.accepted).size_low)

cast-new : tie.Need-overflow_cast-read_u32
cast-new c = search rules

new-requires : tie.Need-new-free-requires
new-requires c κs = search rules

abbrev start-at-retire-arg : tie.After-retire-arg-1 → tie.Start
start-at-retire-arg c = c.before.before.before.before.before

retire-requires : tie.Need-retire-requires
retire-requires c κs =
    let S = start-at-retire-arg c in
    omega (arith, head-width S.requires.0, head-fits S.requires.0 S.args.o.0 S.requires.2)

abbrev start-at-retire : tie.After-retire → tie.Start
start-at-retire c = c.before.before.before.before.before.before

place-records-requires : tie.Need-place_records-requires
place-records-requires c κs =
    let R = c.before.before.before in
    let S = start-at-retire R in
    let o = S.args.o.0 in
    let same = head-retire S.requires.0 R.retire.new.image o S.requires.2 R.retire.ensures in
    let free = retired-free S.requires.0 R.retire.new.image o S.requires.2 R.retire.ensures in (
      same-open same S.requires.0,
      record { small = S.requires.3.small; room = omega (arith, free, same.size, S.requires.3.room) },
      S.requires.4,
    )

-- ---- with the columns placed

abbrev retire-at-place : tie.After-place_records → tie.After-retire
retire-at-place c = c.before.before.before.before

abbrev start-at-place : tie.After-place_records → tie.Start
start-at-place c = c.before.before.before.before.before.before.before.before.before.before

-- the text has none of the old one before it
placed : (c : tie.After-place_records)
    → let S : tie.Start = start-at-place c in
    let img₁ : Bytes = (retire-at-place c).retire.new.image in
    c.place_records.new.image
    ≡ take_space (layout_of img₁) img₁ (part img₁ (S.args.o.0 + S.args.shape.head) 0 ++ text S)
placed c =
    let S = start-at-place c in
    let img₁ = (retire-at-place c).retire.new.image in
    c.place_records.ensures
    ∙ ap (take_space (layout_of img₁) img₁) (sym (text-none img₁ (S.args.o.0 + S.args.shape.head) (text S)))

below : (c : tie.Start) → c.args.o.0 + c.args.shape.head + 0 ≤ field c.args.image.now free_field
below c = omega (arith, head-end c.requires.0 c.args.o.0 c.requires.2)

same : (c : tie.After-place_records) → SameHead (start-at-place c).args.image.now c.place_records.new.image
same c =
    let S = start-at-place c in
    let old = (retire-at-place c).retire in
    head-relocated S.requires.0 old.new.image S.args.o.0 S.requires.2 old.ensures
    c.place_records.new.image (text S) (S.args.o.0 + S.args.shape.head) 0 refl
    (below S) (fits S) (placed c)

-- X before
abbrev new-at-place : tie.After-place_records → tie.After-new-free
new-at-place c = c.before.before.before.before.before.before

set-offset-requires : tie.Need-set_offset-requires
set-offset-requires c κs =
    let P = c.before.before.before in
    let S = start-at-place P in
    let x = new-at-place P in
    let f = opened-facts _ S.requires.0.accepted in (
      placed-opened P.place_records.new.image S.args.shape (same-open (same P) S.requires.0),
      S.requires.1,
      omega (arith, x.new-free.ensures, x.read_u32.ensures, f.free-high, f.size-high),
    )

same_length : tie.Need-shape_of-image
same_length c = search rules

abbrev place-at-end : tie.After-slice_known-4-1 → tie.After-place_records
place-at-end c = c.before.before.before.before.before.before

returns : tie.Need-returns
returns c =
    let P = place-at-end c in
    let S = start-at-place P in
    let A = S.args in
    let img = A.image.now in
    let old = (retire-at-place P).retire in
    let x = new-at-place P in
    let entry = c.set_offset in
    relocated-steps S.requires.0 old.new.image A.o.0 S.requires.2 old.ensures P.place_records.new.image (text S)
    (A.o.0 + A.shape.head) 0 refl (below S) (fits S) (placed P)
    entry.new.image A.slot.0 x.new-free.result.0 S.requires.1 (x.new-free.ensures ∙ x.read_u32.ensures)
    entry.ensures
    ∙ ap (relocated (layout_of img) img A.slot.0 A.o.0 (key_in img A.slot.0))
    (text-none img (A.o.0 + A.shape.head) (text S))

pub relocate_records_spec : {M : Type 1} → statement M
relocate_records_spec =
    tie.close
    (tie.spec
    read-u32-requires
    cast-new
    new-requires
    retire-requires
    place-records-requires
    set-offset-requires
    same_length
    returns)
