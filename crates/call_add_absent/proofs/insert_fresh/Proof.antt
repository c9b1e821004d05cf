-- No bytes in mode 3 give offset 0; others are asked for, and placed. Assumes nothing.
use native.Mathlib.Omega.{arith}
use mathlib.Core.Path.{◌≡◌, refl, sym, ap, ap₂, ◌∙◌}
use mathlib.Core.Option.{Option}
use borrow.Author.Rules.{rules}
use Rattle.spec_file.specs.Bytes.{Bytes}
use Rattle.spec_file.specs.Image.{layout_of}
use Rattle.spec_file.specs.Messages.{enter, fresh_text, inserted}
use Rattle.law_file.proofs.Texts.{fresh-none, fresh-some}
use Rattle.message_room.proofs.Rooms.{place-nothing, place-refused, place-done}
use Rattle.message_write.proofs.Steps.{place-fits}
use Rattle.call_add_absent.proofs.insert_fresh.Statement.{statement}
use Rattle.call_add_absent.proofs.insert_fresh.Tie as tie

-- the text that is placed, if any, and the image where the point entered with it
abbrev text : tie.Start → Option Bytes
text c = fresh_text c.args.bytes.now c.args.mode

abbrev entered : tie.Start → Option Bytes → Bytes
entered c p = inserted (layout_of c.args.image.now) c.args.image.now c.args.slot.0 c.args.key.now p

new-requires : tie.Need-new-requires
new-requires c κs = search rules

enter-requires : tie.Need-enter-requires
enter-requires c κs = search rules

same_length : tie.Need-shape_of-image-then-mode-bytes
same_length c = search rules

abbrev shared-slice-known-at-slice-known2 : tie.After-slice_known-then-mode-bytes-1 → tie.After-shared_slice_known-1
shared-slice-known-at-slice-known2 c = c.before.before.before.before.before.before.before

abbrev start-at-slice-known2 : tie.After-slice_known-then-mode-bytes-1 → tie.Start
start-at-slice-known2 c = c.before.before.before.before.before.before.before.before.before

abbrev then1-at-slice-known2 : tie.After-slice_known-then-mode-bytes-1 → tie.Then-mode-bytes
then1-at-slice-known2 c = c.before.before.before.before.before

returns : tie.Need-returns-then-mode-bytes
unfolding inserted
returns c =
    let S = (start-at-slice-known2 c) in
    let A = S.args in
    let img = A.image.now in
    let none' = fresh-none A.bytes.now A.mode (then1-at-slice-known2 c).if-mode-bytes.true in
    place-nothing (layout_of img) img (text S) (entered S (text S)) none' c.enter.new.image
    (c.enter.ensures
    ∙ ap (enter (layout_of img) img A.slot.0 A.key.now) c.new.ensures
    ∙ sym (ap (entered S) none'))

room-number-requires : tie.Need-room_number-number-requires
room-number-requires c κs = search rules

same-length-2 : tie.Need-shape_of-image-then-number-ne0
same-length-2 c = search rules

abbrev start-at-then2 : tie.Then-number-ne0 → tie.Start
start-at-then2 c = c.before.before.before.before.before.before

returns-2 : tie.Need-returns-then-number-ne0
returns-2 c =
    let S = (start-at-then2 c) in
    let A = S.args in
    let img = A.image.now in
    place-refused (layout_of img) img (text S) (entered S (text S)) A.bytes.now
    (fresh-some A.bytes.now A.mode c.if-mode-bytes.false) _
    (c.room_number-number.ensures A.bytes.now refl) c.if-number-ne0.true

abbrev slice-known-at-insert-arg : tie.After-insert-arg-1 → tie.After-slice_known-1
slice-known-at-insert-arg c = c.before.before.before.before.before.before

abbrev start-at-insert-arg : tie.After-insert-arg-1 → tie.Start
start-at-insert-arg c = c.before.before.before.before.before.before.before

insert-requires : tie.Need-insert-requires
insert-requires c κs =
    let S = (start-at-insert-arg c) in (
      S.requires.0,
      S.requires.1,
      S.requires.2,
      place-fits S.requires.0 S.args.bytes.now
          (sym (c.room_number-number.ensures S.args.bytes.now refl) ∙ c.if-number-ne0.false),
    )

same-length-3 : tie.Need-shape_of-image
same-length-3 c = search rules

abbrev else1-at-slice-known3 : tie.After-slice_known-2-1 → tie.Else-mode-bytes
else1-at-slice-known3 c = c.before.before.before.before.before.before

abbrev start-at-else1 : tie.Else-mode-bytes → tie.Start
start-at-else1 c = c.before.before.before.before

abbrev start-at-slice-known3 : tie.After-slice_known-2-1 → tie.Start
start-at-slice-known3 c = c.before.before.before.before.before.before.before.before.before.before

abbrev room-number-at-slice-known3 : tie.After-slice_known-2-1 → tie.After-room_number-number
room-number-at-slice-known3 c = c.before.before.before.before.before

abbrev else2-at-slice-known3 : tie.After-slice_known-2-1 → tie.Else-number-ne0
else2-at-slice-known3 c = c.before.before.before.before

returns-3 : tie.Need-returns
returns-3 c =
    let S = (start-at-slice-known3 c) in
    let A = S.args in
    let img = A.image.now in
    let some' = fresh-some A.bytes.now A.mode (else1-at-slice-known3 c).if-mode-bytes.false in
    place-done (layout_of img) img (text S) (entered S (text S)) A.bytes.now some' _
    ((room-number-at-slice-known3 c).room_number-number.ensures A.bytes.now refl) (else2-at-slice-known3 c).if-number-ne0.false
    c.insert.new.image
    (c.insert.ensures ∙ ap (entered S) (sym some'))

pub insert_fresh_spec : {M : Type 1} → statement M
insert_fresh_spec =
    tie.close
    (tie.spec
    new-requires
    enter-requires
    same_length
    returns
    room-number-requires
    same-length-2
    returns-2
    insert-requires
    same-length-3
    returns-3)
