-- Written over, refused, or relocated. Assumes nothing.
use Prim.Native.Nat.{ℕ, ◌+◌, ◌≤◌}
use native.Mathlib.Omega.{arith}
use mathlib.Core.Path.{◌≡◌, sym, ap, ◌∙◌}
use mathlib.Core.Bool.{Bool, not, ◌&&◌}
use mathlib.Core.Option.{Option, none, some}
use lib.Dec.{eqb, leb}
use lib.ListN.{length}
use borrow.Author.Rules.{rules}
use Rattle.spec_file.specs.Bytes.{Bytes}
use Rattle.spec_file.specs.Image.{layout_of}
use Rattle.spec_file.specs.Messages.{held, renewed_text, renewed_at}
use Rattle.spec_file.specs.Questions.{place_number}
use Rattle.law_file.proofs.Texts.{replaced-none, replaced-some, replaced-held, replaced-written, renewed-moved}
use Rattle.message_room.proofs.Rooms.{place-nothing, place-refused, place-done}
use Rattle.spec_columns.specs.Columns.{columns}
use Rattle.law_columns.proofs.Turned.{length-stored}
use Rattle.table_search.specs.Slots.{key_in}
use Rattle.message_write.proofs.Steps.{place-fits}
use Rattle.call_add_present.proofs.Shown.{head-fits}
use Rattle.columns_present.proofs.replace_records.Statement.{statement}
use Rattle.columns_present.proofs.replace_records.Tie as tie

-- ---- what is stored, its length, and what is placed of it
abbrev text : tie.Start → Bytes
text c = columns c.args.width c.args.records.now

long : (c : tie.Start) → length (text c) ≡ 1 + length c.args.records.now
long c = length-stored c.args.width c.args.records.now c.requires.3

abbrev placed : tie.Start → Option Bytes
placed c = let img : Bytes = c.args.image.now in renewed_text (layout_of img) img c.args.o.0 (text c) 2

-- the image that an accepted storing leaves
abbrev after : tie.Start → Bytes
after c =
    let img : Bytes = c.args.image.now in
    renewed_at (layout_of img) img c.args.slot.0 c.args.o.0 (key_in img c.args.slot.0) (text c) 2

-- as many bytes are held, asked with the length that the code reckons
abbrev in_place : tie.Start → ℕ → Bool
in_place c m =
    let img : Bytes = c.args.image.now in
    not (eqb c.args.o.0 0) && leb m (held (layout_of img) img c.args.o.0)

add-m : tie.Need-overflow_add-m
add-m c = search rules

abbrev start-at-holds-arg : tie.After-shared_slice_known-1 → tie.Start
start-at-holds-arg c = c.before.before

holds-requires : tie.Need-holds-requires
holds-requires c κs =
    let S = start-at-holds-arg c in
    (S.requires.0, head-fits S.requires.0 S.args.o.0 S.requires.2)

-- ---- the columns fit where the old message stands

abbrev start-at-then1 : tie.Then-holds → tie.Start
start-at-then1 c = c.before.before.before.before

nothing : (c : tie.Then-holds) → placed (start-at-then1 c) ≡ none
nothing c =
    let S = start-at-then1 c in
    let A = S.args in
    let img = A.image.now in
    replaced-none (layout_of img) img A.slot.0 A.o.0 (key_in img A.slot.0) (text S)
    (ap (in_place S) (long S) ∙ sym c.holds.ensures ∙ c.if-holds.true)

overwrite-records-requires : tie.Need-overwrite_records-requires
overwrite-records-requires c κs =
    let T = c.before in
    let S = start-at-then1 T in
    let A = S.args in
    let img = A.image.now in
    let there =
    replaced-held (layout_of img) img A.slot.0 A.o.0 (key_in img A.slot.0) (text S) (nothing T) in
    (S.requires.0, S.requires.2, omega (arith, there.0), omega (arith, there.1, long S), S.requires.3)

same_length : tie.Need-shape_of-image-then-holds
same_length c = search rules

abbrev then1-at-end : tie.After-slice_known-then-holds-1 → tie.Then-holds
then1-at-end c = c.before.before.before.before

returns : tie.Need-returns-then-holds
returns c =
    let T = then1-at-end c in
    let S = start-at-then1 T in
    let A = S.args in
    let img = A.image.now in
    let g = layout_of img in
    let new = c.overwrite_records in
    place-nothing g img (placed S) (after S) (nothing T) new.new.image
    (new.ensures
    ∙ sym (replaced-written g img A.slot.0 A.o.0 (key_in img A.slot.0) (text S) (nothing T)))

-- ---- they do not, or there is no offset, so that all of them are placed

room-number-requires : tie.Need-room_number-number-requires
room-number-requires c κs = search rules

abbrev start-at-else1 : tie.Else-holds → tie.Start
start-at-else1 c = c.before.before.before.before

longer : (c : tie.Else-holds) → placed (start-at-else1 c) ≡ some (text (start-at-else1 c))
longer c =
    let S = start-at-else1 c in
    let A = S.args in
    let img = A.image.now in
    replaced-some (layout_of img) img A.slot.0 A.o.0 (key_in img A.slot.0) (text S)
    (ap (in_place S) (long S) ∙ sym c.holds.ensures ∙ c.if-holds.false)

abbrev else1-at-room : tie.After-room_number-number → tie.Else-holds
else1-at-room c = c.before

-- 12 and 13, as the code has asked them
asked : (c : tie.After-room_number-number)
    → let S : tie.Start = start-at-else1 (else1-at-room c) in
    let img : Bytes = S.args.image.now in
    c.room_number-number.result ≡ place_number (layout_of img) img (some (text S))
asked c = let S = start-at-else1 (else1-at-room c) in c.room_number-number.ensures (text S) (long S)

same-length-2 : tie.Need-shape_of-image-then-number-ne0
same-length-2 c = search rules

returns-2 : tie.Need-returns-then-number-ne0
returns-2 c =
    let R = c.before in
    let E = else1-at-room R in
    let S = start-at-else1 E in
    let img = S.args.image.now in
    place-refused (layout_of img) img (placed S) (after S) (text S) (longer E) R.room_number-number.result (asked R)
    c.if-number-ne0.true

relocate-records-requires : tie.Need-relocate_records-requires
relocate-records-requires c κs =
    let Z = c in
    let R = c.before.before in
    let S = start-at-else1 (else1-at-room R) in
    let fits = place-fits S.requires.0 (text S) (sym (asked R) ∙ Z.if-number-ne0.false) in (
      S.requires.0,
      S.requires.1,
      S.requires.2,
      record { small = omega (arith, long S, fits.small); room = omega (arith, long S, fits.room) },
      S.requires.3,
    )

same-length-3 : tie.Need-shape_of-image
same-length-3 c = search rules

abbrev else2-at-end : tie.After-slice_known-2-1 → tie.Else-number-ne0
else2-at-end c = c.before.before.before.before

returns-3 : tie.Need-returns
returns-3 c =
    let Z = else2-at-end c in
    let R = Z.before in
    let E = else1-at-room R in
    let S = start-at-else1 E in
    let A = S.args in
    let img = A.image.now in
    let g = layout_of img in
    let new = c.relocate_records in
    place-done g img (placed S) (after S) (text S) (longer E) R.room_number-number.result (asked R) Z.if-number-ne0.false
    new.new.image
    (new.ensures
    ∙ sym (renewed-moved g img A.slot.0 A.o.0 (key_in img A.slot.0) (text S) 2 (text S) (longer E)))

pub replace_records_spec : {M : Type 1} → statement M
replace_records_spec =
    tie.close
    (tie.spec
    add-m
    holds-requires
    overwrite-records-requires
    same_length
    returns
    room-number-requires
    same-length-2
    returns-2
    relocate-records-requires
    same-length-3
    returns-3)
