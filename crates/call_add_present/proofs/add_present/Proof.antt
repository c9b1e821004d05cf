-- Question 9, then 11; then the mode decides. Assumes nothing.
use native.Mathlib.Omega.{arith}
use mathlib.Core.Path.{◌≡◌, sym, ap, ap₂, ◌∙◌}
use mathlib.Core.Bool.{true}
use Prim.Native.Nat.{ℕ}
use borrow.Author.Tests.{eq-eqb, ne_eqb}
use borrow.Author.Rules.{rules}
use Rattle.spec_file.specs.Bytes.{Bytes}
use Rattle.spec_file.specs.Image.{layout_of}
use Rattle.spec_file.specs.Search.{met}
use Rattle.spec_file.specs.Messages.{renewed_text, renewed_at, added_at}
use Rattle.spec_file.specs.Questions.{first_no, point_asks, message_sound, place_number}
use Rattle.spec_file.specs.Calls.{settled}
use Rattle.law_file.proofs.Tests.{was-no, was-yes}
use Rattle.law_file.proofs.Outcomes.{settled-no, point-9, point-11, point-renewed}
use Rattle.law_file.proofs.Texts.{mode-three, withdrawn-none, withdrawn-retired}
use Rattle.header_layout.proofs.Shaped.{head-range}
use Rattle.table_search.specs.Slots.{key_in}
use Rattle.message_room.proofs.Rooms.{place-nothing}
use Rattle.call_add_present.proofs.Shown.{head-fits}
use Rattle.call_add_present.proofs.add_present.Statement.{statement}
use Rattle.call_add_present.proofs.add_present.Tie as tie

abbrev start-at-then1 : tie.Then-mode-eq-NEW → tie.Start
start-at-then1 c = c.before.before.before

returns : tie.Need-returns-then-mode-eq-NEW
returns c =
    let A = (start-at-then1 c).args in
    let img = A.image.now in (
      sym (point-9 (layout_of img) img A.bytes.now A.mode A.slot.0 (eq-eqb A.mode 1 c.if-mode-eq-NEW.true)),
      sym (settled-no 9 img _ (λ z. omega arith)),
    )

offset-of-requires : tie.Need-offset_of-o-requires
offset-of-requires c κs = search rules

message-sound-requires : tie.Need-message_sound-requires
message-sound-requires c κs = search rules

same_length : tie.Need-shape_of-image-then-not-message_sound
same_length c = search rules

abbrev shared-slice-known-at-then2 : tie.Then-not-message_sound → tie.After-shared_slice_known-1
shared-slice-known-at-then2 c = c.before.before.before.before

abbrev start-at-then2 : tie.Then-not-message_sound → tie.Start
start-at-then2 c = c.before.before.before.before.before.before

abbrev else1-at-then2 : tie.Then-not-message_sound → tie.Else-mode-eq-NEW
else1-at-then2 c = c.before.before.before

returns-2 : tie.Need-returns-then-not-message_sound
returns-2 c =
    let A = (start-at-then2 c).args in
    let img = A.image.now in
    let g = layout_of img in
    let unsound = was-no c.message_sound.ensures c.if-not-message_sound.true in (
      sym
          (point-11 g img A.bytes.now A.mode A.slot.0 (ne_eqb A.mode 1 (else1-at-then2 c).if-mode-eq-NEW.false)
          (ap (message_sound g img) (sym c.offset_of-o.ensures) ∙ unsound)),
      sym (settled-no 11 img _ (λ z. omega arith)),
    )

abbrev shared-slice-known-at-else2 : tie.Else-not-message_sound → tie.After-shared_slice_known-1
shared-slice-known-at-else2 c = c.before.before.before.before

abbrev start-at-else2 : tie.Else-not-message_sound → tie.Start
start-at-else2 c = c.before.before.before.before.before.before

-- the message passed question 11
sound : (c : tie.Else-not-message_sound)
    → let img : Bytes = (start-at-else2 c).args.image.now in
    message_sound (layout_of img) img c.offset_of-o.result.0 ≡ true
sound c = was-yes c.message_sound.ensures c.if-not-message_sound.false

abbrev else1-at-else2 : tie.Else-not-message_sound → tie.Else-mode-eq-NEW
else1-at-else2 c = c.before.before.before

-- the answer r and the image x of the mode k are the call's
renewed : (c : tie.Else-not-message_sound) (k r : ℕ) (x : Bytes) → (start-at-else2 c).args.mode ≡ k
    → let S : tie.Start = start-at-else2 c in
    let img : Bytes = S.args.image.now in
    let bytes : Bytes = S.args.bytes.now in
    let i : ℕ = S.args.slot.0 in
    let key : Bytes = key_in img i in
    let o : ℕ = c.offset_of-o.result.0 in
    r ≡ place_number (layout_of img) img (renewed_text (layout_of img) img o bytes k)
    → x ≡ settled r img (renewed_at (layout_of img) img i o key bytes k)
    → (r ≡ first_no (point_asks (layout_of img) img (met i) bytes S.args.mode))
    × (x ≡ settled r img (added_at (layout_of img) img (met i) key bytes S.args.mode))
unfolding added_at
renewed c k r x em is h =
    let A = (start-at-else2 c).args in
    let img = A.image.now in
    let g = layout_of img in
    let eo = c.offset_of-o.ensures in (
      is
          ∙ ap₂ (λ (p q : ℕ). place_number g img (renewed_text g img p A.bytes.now q)) eo (sym em)
          ∙ sym
          (point-renewed g img A.bytes.now A.mode A.slot.0 (ne_eqb A.mode 1 (else1-at-else2 c).if-mode-eq-NEW.false)
          (ap (message_sound g img) (sym eo) ∙ sound c)),
      h
          ∙ ap₂ (λ (p q : ℕ). settled r img
          (renewed_at g img A.slot.0 p (key_in img A.slot.0) A.bytes.now q)) eo (sym em),
    )

abbrev else1-at-replace-arg : tie.After-replace-arg-1 → tie.Else-mode-eq-NEW
else1-at-replace-arg c = c.before.before.before.before.before

abbrev start-at-else1 : tie.Else-mode-eq-NEW → tie.Start
start-at-else1 c = c.before.before.before

abbrev start-at-replace-arg : tie.After-replace-arg-1 → tie.Start
start-at-replace-arg c = c.before.before.before.before.before.before.before.before

replace-requires : tie.Need-replace-requires
replace-requires c κs =
    let S = start-at-replace-arg c in
    (S.requires.0, S.requires.1, sound c.before.before)

same-length-2 : tie.Need-shape_of-image-then-mode-eq-REPLACE
same-length-2 c = search rules

abbrev else2-at-slice-known2 : tie.After-slice_known-then-mode-eq-REPLACE-1 → tie.Else-not-message_sound
else2-at-slice-known2 c = c.before.before.before.before.before

abbrev then3-at-slice-known2 : tie.After-slice_known-then-mode-eq-REPLACE-1 → tie.Then-mode-eq-REPLACE
then3-at-slice-known2 c = c.before.before.before.before

returns-3 : tie.Need-returns-then-mode-eq-REPLACE
returns-3 c =
    let done' = c.replace in
    renewed (else2-at-slice-known2 c) 2 done'.result done'.new.image (then3-at-slice-known2 c).if-mode-eq-REPLACE.true
    done'.ensures.0 done'.ensures.1

-- ---- mode 4

abbrev else2-at-then4 : tie.Then-mode-eq-WITHDRAW → tie.Else-not-message_sound
else2-at-then4 c = c.before.before

retire-requires : tie.Need-retire-requires
retire-requires c κs =
    let E = else2-at-then4 c.before in
    let S = start-at-else2 E in
    let o = E.offset_of-o.result.0 in
    omega (arith, head-range S.requires.0, head-fits S.requires.0 o (sound E))

same-length-3 : tie.Need-shape_of-image-then-mode-eq-WITHDRAW
same-length-3 c = search rules

abbrev then4-at-slice-known3 : tie.After-slice_known-then-mode-eq-WITHDRAW-1 → tie.Then-mode-eq-WITHDRAW
then4-at-slice-known3 c = c.before.before.before.before

returns-4 : tie.Need-returns-then-mode-eq-WITHDRAW
returns-4 c =
    let T = then4-at-slice-known3 c in
    let E = else2-at-then4 T in
    let A = (start-at-else2 E).args in
    let img = A.image.now in
    let g = layout_of img in
    let o = E.offset_of-o.result.0 in
    let old = c.retire in
    let done' =
    place-nothing g img (renewed_text g img o A.bytes.now 4)
    (renewed_at g img A.slot.0 o (key_in img A.slot.0) A.bytes.now 4)
    (withdrawn-none g img A.slot.0 o (key_in img A.slot.0) A.bytes.now) old.new.image
    (old.ensures ∙ sym (withdrawn-retired g img A.slot.0 o (key_in img A.slot.0) A.bytes.now)) in
    renewed E 4 0 old.new.image T.if-mode-eq-WITHDRAW.true done'.0 done'.1

-- ---- mode 3

abbrev else2-at-else4 : tie.Else-mode-eq-WITHDRAW → tie.Else-not-message_sound
else2-at-else4 c = c.before.before

append-requires : tie.Need-append-requires
append-requires c κs =
    let E = else2-at-else4 c.before in
    let S = start-at-else2 E in
    (S.requires.0, S.requires.1, sound E)

same-length-4 : tie.Need-shape_of-image
same-length-4 c = search rules

abbrev else4-at-slice-known4 : tie.After-slice_known-2-1 → tie.Else-mode-eq-WITHDRAW
else4-at-slice-known4 c = c.before.before.before.before

returns-5 : tie.Need-returns
returns-5 c =
    let F = else4-at-slice-known4 c in
    let E = else2-at-else4 F in
    let S = start-at-else2 E in
    let done' = c.append in
    renewed E 3 done'.result done'.new.image
    (mode-three S.args.mode S.requires.2 (else1-at-else2 E).if-mode-eq-NEW.false F.if-mode-eq-REPLACE.false F.if-mode-eq-WITHDRAW.false)
    done'.ensures.0 done'.ensures.1

pub add_present_spec : {M : Type 1} → statement M
add_present_spec =
    tie.close
    (tie.spec
    returns
    offset-of-requires
    message-sound-requires
    same_length
    returns-2
    replace-requires
    same-length-2
    returns-3
    retire-requires
    same-length-3
    returns-4
    append-requires
    same-length-4
    returns-5)
