-- Question 11, then the message is replaced. Assumes nothing.
use Prim.Native.Nat.{ℕ}
use native.Mathlib.Omega.{arith}
use mathlib.Core.Path.{◌≡◌, refl, sym, ap, ◌∙◌}
use mathlib.Core.Bool.{true}
use borrow.Author.Rules.{rules}
use Rattle.spec_file.specs.Bytes.{Bytes}
use Rattle.spec_file.specs.Image.{layout_of}
use Rattle.spec_file.specs.Messages.{renewed_text, renewed_at, added_at}
use Rattle.spec_file.specs.Questions.{message_sound, place_number}
use Rattle.spec_file.specs.Calls.{settled}
use Rattle.law_file.proofs.Tests.{was-no, was-yes}
use Rattle.law_file.proofs.Outcomes.{settled-no, point-11, point-renewed}
use Rattle.spec_columns.specs.Columns.{columns}
use Rattle.table_search.specs.Slots.{key_in}
use Rattle.columns_present.proofs.store_present.Statement.{statement}
use Rattle.columns_present.proofs.store_present.Tie as tie

abbrev text : tie.Start → Bytes
text c = columns c.args.width c.args.records.now

offset-of-requires : tie.Need-offset_of-o-requires
offset-of-requires c κs = search rules

message-sound-requires : tie.Need-message_sound-requires
message-sound-requires c κs = search rules

same_length : tie.Need-shape_of-image-then-not-message_sound
same_length c = search rules

abbrev start-at-sound : tie.After-message_sound → tie.Start
start-at-sound c = c.before.before.before.before

abbrev offset-at-sound : tie.After-message_sound → tie.After-offset_of-o
offset-at-sound c = c.before

returns : tie.Need-returns-then-not-message_sound
returns c =
    let M = c.before in
    let S = start-at-sound M in
    let img = S.args.image.now in
    let g = layout_of img in
    let unsound = was-no M.message_sound.ensures c.if-not-message_sound.true in (
      sym
          (point-11 g img (text S) 2 S.args.slot.0 refl
          (ap (message_sound g img) (sym (offset-at-sound M).offset_of-o.ensures) ∙ unsound)),
      sym (settled-no 11 img _ (λ z. omega arith)),
    )

-- the message passed question 11
sound : (c : tie.Else-not-message_sound)
    → let img : Bytes = (start-at-sound c.before).args.image.now in
    message_sound (layout_of img) img (offset-at-sound c.before).offset_of-o.result.0 ≡ true
sound c = was-yes c.message_sound.ensures c.if-not-message_sound.false

replace-records-requires : tie.Need-replace_records-requires
replace-records-requires c κs =
    let E = c.before in
    let S = start-at-sound c.before.before in
    (S.requires.0, S.requires.1, sound E, S.requires.2)

same-length-2 : tie.Need-shape_of-image
same-length-2 c = search rules

abbrev else1-at-end : tie.After-slice_known-2-1 → tie.Else-not-message_sound
else1-at-end c = c.before.before.before.before

returns-2 : tie.Need-returns
unfolding added_at
returns-2 c =
    let E = else1-at-end c in
    let S = start-at-sound E.before in
    let A = S.args in
    let img = A.image.now in
    let g = layout_of img in
    let eo = (offset-at-sound E.before).offset_of-o.ensures in
    let d = c.replace_records in (
      d.ensures.0
          ∙ ap (λ (o : ℕ). place_number g img (renewed_text g img o (text S) 2)) eo
          ∙ sym
          (point-renewed g img (text S) 2 A.slot.0 refl (ap (message_sound g img) (sym eo) ∙ sound E)),
      d.ensures.1
          ∙ ap (λ (o : ℕ). settled d.result img
          (renewed_at g img A.slot.0 o (key_in img A.slot.0) (text S) 2)) eo,
    )

pub store_present_spec : {M : Type 1} → statement M
store_present_spec =
    tie.close
    (tie.spec
    offset-of-requires
    message-sound-requires
    same_length
    returns
    replace-records-requires
    same-length-2
    returns-2)
