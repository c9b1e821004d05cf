-- Mode 2: written over, refused, or relocated. Assumes nothing.
use native.Mathlib.Omega.{arith}
use mathlib.Core.Path.{◌≡◌, refl, sym, ap, ◌∙◌, subst}
use mathlib.Core.Option.{none, some}
use Prim.Native.Nat.{◌+◌, ◌≤◌}
use native.Mathlib.Nat.{zero-add}
use lib.ListN.{length}
use borrow.Author.Rules.{rules}
use Rattle.spec_file.specs.Bytes.{Bytes}
use Rattle.spec_file.specs.Image.{layout_of}
use Rattle.spec_file.specs.Messages.{relocated, renewed_text, renewed_at}
use Rattle.law_file.proofs.Texts.{replaced-none, replaced-some, replaced-held, replaced-written, renewed-moved}
use Rattle.message_room.proofs.Rooms.{place-nothing, place-refused, place-done}
use Rattle.message_write.specs.Fits.{Fits}
use Rattle.table_search.specs.Slots.{key_in}
use Rattle.message_write.proofs.Steps.{place-fits}
use Rattle.call_add_present.proofs.Shown.{head-fits, head-end, text-none}
use Rattle.call_add_present.proofs.replace.Statement.{statement}
use Rattle.call_add_present.proofs.replace.Tie as tie

abbrev start-at-holds-arg : tie.After-shared_slice_known-1 → tie.Start
start-at-holds-arg c = c.before.before

holds-requires : tie.Need-holds-requires
holds-requires c κs =
    let S = start-at-holds-arg c in
    (S.requires.0, head-fits S.requires.0 S.args.o.0 S.requires.2)

-- ---- the bytes fit where the old message stands

abbrev start-at-then1 : tie.Then-holds → tie.Start
start-at-then1 c = c.before.before.before.before

nothing : (c : tie.Then-holds)
    → let S : tie.Start = start-at-then1 c in
    let img : Bytes = S.args.image.now in
    renewed_text (layout_of img) img S.args.o.0 S.args.bytes.now 2 ≡ none
nothing c =
    let A = (start-at-then1 c).args in
    let img = A.image.now in
    replaced-none (layout_of img) img A.slot.0 A.o.0 (key_in img A.slot.0) A.bytes.now
    (sym c.holds.ensures ∙ c.if-holds.true)

overwrite-requires : tie.Need-overwrite-requires
overwrite-requires c κs =
    let S = start-at-then1 c.before in
    let A = S.args in
    let img = A.image.now in
    let held =
    replaced-held (layout_of img) img A.slot.0 A.o.0 (key_in img A.slot.0) A.bytes.now
    (nothing c.before) in
    (S.requires.0, S.requires.2, omega (arith, held.0), held.1)

same_length : tie.Need-shape_of-image-then-holds
same_length c = search rules

abbrev then1-at-slice-known2 : tie.After-slice_known-then-holds-1 → tie.Then-holds
then1-at-slice-known2 c = c.before.before.before.before

returns : tie.Need-returns-then-holds
returns c =
    let T = then1-at-slice-known2 c in
    let A = (start-at-then1 T).args in
    let img = A.image.now in
    let bytes = A.bytes.now in
    let o = A.o.0 in
    let g = layout_of img in
    let new = c.overwrite in
    place-nothing g img (renewed_text g img o bytes 2) (renewed_at g img A.slot.0 o (key_in img A.slot.0) bytes 2)
    (nothing T) new.new.image
    (new.ensures ∙ sym (replaced-written g img A.slot.0 o (key_in img A.slot.0) bytes (nothing T)))

-- ---- they do not, or there is no offset, so that all of them are placed

room-number-requires : tie.Need-room_number-number-requires
room-number-requires c κs = search rules

abbrev start-at-else1 : tie.Else-holds → tie.Start
start-at-else1 c = c.before.before.before.before

longer : (c : tie.Else-holds)
    → let S : tie.Start = start-at-else1 c in
    let img : Bytes = S.args.image.now in
    let bytes : Bytes = S.args.bytes.now in
    renewed_text (layout_of img) img S.args.o.0 bytes 2 ≡ some bytes
longer c =
    let A = (start-at-else1 c).args in
    let img = A.image.now in
    replaced-some (layout_of img) img A.slot.0 A.o.0 (key_in img A.slot.0) A.bytes.now
    (sym c.holds.ensures ∙ c.if-holds.false)

same-length-2 : tie.Need-shape_of-image-then-number-ne0
same-length-2 c = search rules

returns-2 : tie.Need-returns-then-number-ne0
returns-2 c =
    let E = c.before.before in
    let A = (start-at-else1 E).args in
    let img = A.image.now in
    let bytes = A.bytes.now in
    let o = A.o.0 in
    let g = layout_of img in
    let room = c.room_number-number in
    place-refused g img (renewed_text g img o bytes 2) (renewed_at g img A.slot.0 o (key_in img A.slot.0) bytes 2)
    bytes (longer E) room.result (room.ensures bytes refl) c.if-number-ne0.true

relocate-requires : tie.Need-relocate-requires
relocate-requires c κs =
    let S = start-at-else1 c.before.before.before in
    let bytes = S.args.bytes.now in
    let room = c.room_number-number in
    let fits = place-fits S.requires.0 bytes (sym (room.ensures bytes refl) ∙ c.if-number-ne0.false) in (
      S.requires.0,
      S.requires.1,
      S.requires.2,
      omega (arith, head-end S.requires.0 S.args.o.0 S.requires.2),
      subst (Fits S.args.image.now S.args.shape) (sym (zero-add (length bytes))) fits,
    )

same-length-3 : tie.Need-shape_of-image
same-length-3 c = search rules

abbrev else2-at-slice-known3 : tie.After-slice_known-2-1 → tie.Else-number-ne0
else2-at-slice-known3 c = c.before.before.before.before

returns-3 : tie.Need-returns
returns-3 c =
    let E = else2-at-slice-known3 c in
    let A = (start-at-else1 E.before.before).args in
    let img = A.image.now in
    let bytes = A.bytes.now in
    let o = A.o.0 in
    let g = layout_of img in
    let room = E.room_number-number in
    let new = c.relocate in
    let more = longer E.before.before in
    place-done g img (renewed_text g img o bytes 2) (renewed_at g img A.slot.0 o (key_in img A.slot.0) bytes 2)
    bytes more room.result (room.ensures bytes refl) E.if-number-ne0.false new.new.image
    (new.ensures
    ∙ ap (relocated g img A.slot.0 o (key_in img A.slot.0)) (text-none img (o + A.shape.head) bytes)
    ∙ sym (renewed-moved g img A.slot.0 o (key_in img A.slot.0) bytes 2 bytes more))

pub replace_spec : {M : Type 1} → statement M
replace_spec =
    tie.close
    (tie.spec
    holds-requires
    overwrite-requires
    same_length
    returns
    room-number-requires
    same-length-2
    returns-2
    relocate-requires
    same-length-3
    returns-3)
