-- Mode 3: unchanged, refused, or relocated with the old text in front. Assumes nothing.
use native.Mathlib.Omega.{arith}
use mathlib.Core.Path.{◌≡◌, sym, ap, ◌∙◌, subst}
use mathlib.Core.List.{◌++◌}
use Prim.Native.Nat.{ℕ, ◌+◌}
use lib.ListN.{length}
use borrow.Author.Rules.{rules}
use Rattle.spec_file.specs.Bytes.{Bytes, part}
use Rattle.spec_file.specs.Image.{layout_of}
use Rattle.spec_file.specs.Messages.{shown, bytes_of, relocated, renewed_text, renewed_at}
use Rattle.law_file.proofs.Opened.{opened-facts}
use Rattle.law_file.proofs.Texts.{appended-none, appended-some, appended-same, renewed-moved}
use Rattle.message_room.proofs.Rooms.{place-nothing, place-refused, place-done}
use Rattle.message_write.specs.Fits.{Fits}
use Rattle.table_search.specs.Slots.{key_in}
use Rattle.message_write.proofs.Steps.{place-fits}
use Rattle.call_add_present.proofs.Shown.{head-fits, shown-part, shown-end, length-appended}
use Rattle.call_add_present.proofs.append.Statement.{statement}
use Rattle.call_add_present.proofs.append.Tie as tie

abbrev start-at-then1 : tie.Then-bytes-eq0 → tie.Start
start-at-then1 c = c.before.before.before

returns : tie.Need-returns-then-bytes-eq0
returns c =
    let A = (start-at-then1 c).args in
    let img = A.image.now in
    let bytes = A.bytes.now in
    let o = A.o.0 in
    let g = layout_of img in
    place-nothing g img (renewed_text g img o bytes 3) (renewed_at g img A.slot.0 o (key_in img A.slot.0) bytes 3)
    (appended-none g img A.slot.0 o (key_in img A.slot.0) bytes c.if-bytes-eq0.true) img
    (sym (appended-same g img A.slot.0 o (key_in img A.slot.0) bytes c.if-bytes-eq0.true))

abbrev start-at-shown-length-arg : tie.Else-bytes-eq0 → tie.Start
start-at-shown-length-arg c = c.before.before.before

shown-length-requires : tie.Need-shown_length-before-requires
shown-length-requires c κs =
    let S = start-at-shown-length-arg c in
    (S.requires.0, head-fits S.requires.0 S.args.o.0 S.requires.2)

abbrev start-at-room-number-arg : tie.After-shown_length-before → tie.Start
start-at-room-number-arg c = c.before.before.before.before

add-room-number : tie.Need-overflow_add-before
add-room-number c =
    let S = start-at-room-number-arg c in
    let f = opened-facts _ S.requires.0.accepted in
    omega (
      arith,
      c.shown_length-before.ensures,
      shown-end S.requires.0 S.args.o.0 S.requires.2,
      f.free-high,
      f.size-high,
    )

room-number-requires : tie.Need-room_number-number-requires
room-number-requires c κs = search rules

-- the text to be placed, and its length
abbrev text : tie.Start → Bytes
text S = bytes_of (shown (layout_of S.args.image.now) S.args.image.now S.args.o.0) ++ S.args.bytes.now

abbrev start-at-shown-length : tie.After-shown_length-before → tie.Start
start-at-shown-length c = c.before.before.before.before

sized : (c : tie.After-shown_length-before)
    → let S : tie.Start = start-at-shown-length c in
    length (text S) ≡ c.shown_length-before.result + length S.args.bytes.now
sized c =
    let S = start-at-shown-length c in
    let bytes = S.args.bytes.now in
    length-appended S.requires.0 S.args.o.0 S.requires.2 bytes
    ∙ ap (λ (k : ℕ). k + length bytes) (sym c.shown_length-before.ensures)

same_length : tie.Need-shape_of-image-then-number-ne0
same_length c = search rules

abbrev shared-slice-known-at-then2 : tie.Then-number-ne0 → tie.After-shared_slice_known-1
shared-slice-known-at-then2 c = c.before.before.before.before

abbrev start-at-then2 : tie.Then-number-ne0 → tie.Start
start-at-then2 c = c.before.before.before.before.before.before

abbrev else1-at-then2 : tie.Then-number-ne0 → tie.Else-bytes-eq0
else1-at-then2 c = c.before.before.before

returns-2 : tie.Need-returns-then-number-ne0
returns-2 c =
    let S = start-at-then2 c in
    let A = S.args in
    let img = A.image.now in
    let bytes = A.bytes.now in
    let o = A.o.0 in
    let g = layout_of img in
    let room = c.room_number-number in
    place-refused g img (renewed_text g img o bytes 3) (renewed_at g img A.slot.0 o (key_in img A.slot.0) bytes 3)
    (text S) (appended-some g img A.slot.0 o (key_in img A.slot.0) bytes (else1-at-then2 c).if-bytes-eq0.false)
    room.result (room.ensures (text S) (sized c.before.before)) c.if-number-ne0.true

abbrev shared-slice-known-at-relocate-arg : tie.After-relocate-arg-1 → tie.After-shared_slice_known-1
shared-slice-known-at-relocate-arg c = c.before.before.before.before.before

abbrev start-at-relocate-arg : tie.After-relocate-arg-1 → tie.Start
start-at-relocate-arg c = c.before.before.before.before.before.before.before

abbrev shown-length-at-relocate-arg : tie.After-relocate-arg-1 → tie.After-shown_length-before
shown-length-at-relocate-arg c = c.before.before.before

relocate-requires : tie.Need-relocate-requires
relocate-requires c κs =
    let S = start-at-relocate-arg c in
    let L = shown-length-at-relocate-arg c in
    let size = sized L in
    let accepted = sym (c.room_number-number.ensures (text S) size) ∙ c.if-number-ne0.false in (
      S.requires.0,
      S.requires.1,
      S.requires.2,
      omega (arith, L.shown_length-before.ensures, shown-end S.requires.0 S.args.o.0 S.requires.2),
      subst (Fits S.args.image.now S.args.shape) size (place-fits S.requires.0 (text S) accepted),
    )

same-length-2 : tie.Need-shape_of-image
same-length-2 c = search rules

abbrev shown-length-at-slice-known2 : tie.After-slice_known-2-1 → tie.After-shown_length-before
shown-length-at-slice-known2 c = c.before.before.before.before.before.before

abbrev start-at-slice-known2 : tie.After-slice_known-2-1 → tie.Start
start-at-slice-known2 c = c.before.before.before.before.before.before.before.before.before.before

abbrev room-number-at-slice-known2 : tie.After-slice_known-2-1 → tie.After-room_number-number
room-number-at-slice-known2 c = c.before.before.before.before.before

abbrev else1-at-slice-known2 : tie.After-slice_known-2-1 → tie.Else-bytes-eq0
else1-at-slice-known2 c = c.before.before.before.before.before.before.before

abbrev else2-at-slice-known2 : tie.After-slice_known-2-1 → tie.Else-number-ne0
else2-at-slice-known2 c = c.before.before.before.before

returns-3 : tie.Need-returns
returns-3 c =
    let S = start-at-slice-known2 c in
    let A = S.args in
    let img = A.image.now in
    let bytes = A.bytes.now in
    let o = A.o.0 in
    let g = layout_of img in
    let room = (room-number-at-slice-known2 c).room_number-number in
    let new = c.relocate in
    let L = shown-length-at-slice-known2 c in
    let longer =
    appended-some g img A.slot.0 o (key_in img A.slot.0) bytes (else1-at-slice-known2 c).if-bytes-eq0.false in
    place-done g img (renewed_text g img o bytes 3) (renewed_at g img A.slot.0 o (key_in img A.slot.0) bytes 3)
    (text S) longer room.result (room.ensures (text S) (sized L)) (else2-at-slice-known2 c).if-number-ne0.false
    new.new.image
    (new.ensures
    ∙ ap (λ (t : Bytes). relocated g img A.slot.0 o (key_in img A.slot.0) (t ++ bytes))
    (ap (part img (o + A.shape.head)) L.shown_length-before.ensures ∙ shown-part S.requires.0 o)
    ∙ sym (renewed-moved g img A.slot.0 o (key_in img A.slot.0) bytes 3 (text S) longer))

pub append_spec : {M : Type 1} → statement M
append_spec =
    tie.close
    (tie.spec
    returns
    shown-length-requires
    add-room-number
    room-number-requires
    same_length
    returns-2
    relocate-requires
    same-length-2
    returns-3)
