-- Questions 14 and 11 in turn; behind them the point is removed. Assumes nothing.
use Prim.Native.Nat.{ℕ, ◌<◌}
use native.Mathlib.Omega.{arith}
use mathlib.Core.Path.{◌≡◌, refl, sym, ap, ◌∙◌}
use mathlib.Core.Bool.{Bool, true, false}
use borrow.Author.Rules.{rules}
use Rattle.spec_file.specs.Bytes.{Bytes}
use Rattle.spec_file.specs.Image.{layout_of, slot, offset_of}
use Rattle.spec_file.specs.Search.{Probe, met}
use Rattle.spec_file.specs.Delete.{deleted}
use Rattle.spec_file.specs.Calls.{settled}
use Rattle.spec_file.specs.Questions.{message_sound, first_no, removed_asks}
use Rattle.law_file.proofs.Tests.{was-no, was-yes}
use Rattle.law_file.proofs.Opened.{opened-facts}
use Rattle.law_file.proofs.Outcomes.{settled-yes, settled-no, removed-14, removed-11, removed-0}
use Rattle.table_search.proofs.Taken.{other-met, met-is, met-within}
use Rattle.call_delete.proofs.Removed.{unsound, no-point, some-point}
use Rattle.call_delete.proofs.delete_found.Statement.{statement}
use Rattle.call_delete.proofs.delete_found.Tie as tie

abbrev img : tie.Start → Bytes
img c = c.args.image.now

-- the message of slot i
abbrev Sound? : Bytes → ℕ → Bool → Type 0
Sound? b i t = message_sound (layout_of b) b (offset_of (layout_of b) (slot (layout_of b) b i)) ≡ t

abbrev match-keys1-at-else1 : tie.Else-not-message_sound → tie.In-Met
match-keys1-at-else1 c = c.before.before.before

abbrev start-at-else1 : tie.Else-not-message_sound → tie.Start
start-at-else1 c = c.before.before.before.before.before

abbrev found-at-else1 : tie.Else-not-message_sound → tie.In-Met
found-at-else1 c = c.before.before.before

is-sound : (c : tie.Else-not-message_sound) → Sound? (img (start-at-else1 c)) (found-at-else1 c).in-Met.slot.0 true
is-sound c =
    ap (message_sound (layout_of (img (start-at-else1 c))) (img (start-at-else1 c)))
    (sym c.offset_of-o.ensures)
    ∙ was-yes c.message_sound.ensures c.if-not-message_sound.false

-- the number and the image, by how the search ended
refused : (b : Bytes) (p q : Probe) (n : ℕ) → p ≡ q → first_no (removed_asks (layout_of b) b q) ≡ n → (n ≡ 0 → ⊥)
    → (n ≡ first_no (removed_asks (layout_of b) b p)) × (b ≡ settled n b (deleted (layout_of b) b p))
refused b p q n e h z =
    (sym (ap (λ (x : Probe). first_no (removed_asks (layout_of b) b x)) e ∙ h), sym (settled-no n b _ z))

-- ---- the needs
enum-known-found : tie.Need-enum_known-found
enum-known-found c = search rules

returns : tie.Need-returns-in_default
returns c =
    let S = c.before.before in
    refused (img S) _ _ 14 refl (removed-14 _ _ _ (other-met S.args.found c.in_default.in_default-own.keys2)) (λ z. omega arith)

abbrev start-at-offset-of-arg : tie.In-Met → tie.Start
start-at-offset-of-arg c = c.before.before

offset-of-requires : tie.Need-offset_of-o-requires
offset-of-requires c κs = (
  (start-at-offset-of-arg c).requires.0,
  met-within c.in-Met.is (start-at-offset-of-arg c).requires.1,
)

abbrev start-at-message-sound-arg : tie.After-offset_of-o → tie.Start
start-at-message-sound-arg c = c.before.before.before

message-sound-requires : tie.Need-message_sound-requires
message-sound-requires c κs = (start-at-message-sound-arg c).requires.0

same_length : tie.Need-shape_of-image-then-not-message_sound
same_length c = search rules

abbrev match-keys1-at-then1 : tie.Then-not-message_sound → tie.In-Met
match-keys1-at-then1 c = c.before.before.before

abbrev start-at-then1 : tie.Then-not-message_sound → tie.Start
start-at-then1 c = c.before.before.before.before.before

abbrev found-at-then1 : tie.Then-not-message_sound → tie.In-Met
found-at-then1 c = c.before.before.before

returns-2 : tie.Need-returns-then-not-message_sound
returns-2 c =
    let S = (start-at-then1 c) in
    let m = (found-at-then1 c).in-Met in
    let bad : Sound? (img S) m.slot.0 false =
    ap (message_sound (layout_of (img S)) (img S)) (sym c.offset_of-o.ensures)
    ∙ was-no c.message_sound.ensures c.if-not-message_sound.true in
    refused (img S) _ _ 11 (met-is m.is) (removed-11 (layout_of (img S)) (img S) m.slot.0 (unsound (img S) _ bad))
    (λ z. omega arith)

abbrev found-at-read-u32-arg : tie.Else-not-message_sound → tie.In-Met
found-at-read-u32-arg c = c.before.before.before

abbrev start-at-read-u32-arg : tie.Else-not-message_sound → tie.Start
start-at-read-u32-arg c = c.before.before.before.before.before

read-u32-requires : tie.Need-read_u32-points-requires
read-u32-requires c κs = omega (arith, (opened-facts _ (start-at-read-u32-arg c).requires.0.accepted).size_low)

same-length-2 : tie.Need-shape_of-image-then-points-eq0
same-length-2 c = search rules

abbrev offset-of-arg-at-then2 : tie.Then-points-eq0 → tie.In-Met
offset-of-arg-at-then2 c = c.before.before.before.before.before

abbrev start-at-then2 : tie.Then-points-eq0 → tie.Start
start-at-then2 c = c.before.before.before.before.before.before.before

abbrev found-at-then2 : tie.Then-points-eq0 → tie.In-Met
found-at-then2 c = c.before.before.before.before.before

returns-3 : tie.Need-returns-then-points-eq0
returns-3 c =
    let S = (start-at-then2 c) in
    let m = (found-at-then2 c).in-Met in
    refused (img S) _ _ 11 (met-is m.is)
    (removed-11 (layout_of (img S)) (img S) m.slot.0
    (no-point (img S) _ (is-sound c.before.before) (sym c.read_u32-points.ensures ∙ c.if-points-eq0.true)))
    (λ z. omega arith)

abbrev offset-of-at-remove-arg : tie.After-remove-arg-1 → tie.After-offset_of-o
offset-of-at-remove-arg c = c.before.before.before.before.before

abbrev found-at-remove-arg : tie.After-remove-arg-1 → tie.In-Met
found-at-remove-arg c = c.before.before.before.before.before.before

abbrev start-at-offset-of : tie.After-offset_of-o → tie.Start
start-at-offset-of c = c.before.before.before

abbrev start-at-remove-arg : tie.After-remove-arg-1 → tie.Start
start-at-remove-arg c = c.before.before.before.before.before.before.before.before

abbrev message-sound-at-remove-arg : tie.After-remove-arg-1 → tie.After-message_sound
message-sound-at-remove-arg c = c.before.before.before.before

abbrev else1-at-remove-arg : tie.After-remove-arg-1 → tie.Else-not-message_sound
else1-at-remove-arg c = c.before.before.before

remove-requires : tie.Need-remove-requires
remove-requires c κs =
    let m = (found-at-remove-arg c).in-Met in
    let at = (offset-of-at-remove-arg c).offset_of-o.ensures in (
      (start-at-remove-arg c).requires.0,
      met-within m.is (start-at-remove-arg c).requires.1,
      at,
      was-yes (message-sound-at-remove-arg c).message_sound.ensures (else1-at-remove-arg c).if-not-message_sound.false,
      c.read_u32-points.ensures,
      omega (arith, c.if-points-eq0.false),
    )

same-length-3 : tie.Need-shape_of-image
same-length-3 c = search rules

abbrev else1-at-slice-known2 : tie.After-slice_known-2-1 → tie.Else-not-message_sound
else1-at-slice-known2 c = c.before.before.before.before.before.before

abbrev start-at-slice-known2 : tie.After-slice_known-2-1 → tie.Start
start-at-slice-known2 c = c.before.before.before.before.before.before.before.before.before.before.before

abbrev found-at-slice-known2 : tie.After-slice_known-2-1 → tie.In-Met
found-at-slice-known2 c = c.before.before.before.before.before.before.before.before.before

abbrev read-u32-at-slice-known2 : tie.After-slice_known-2-1 → tie.After-read_u32-points
read-u32-at-slice-known2 c = c.before.before.before.before.before

abbrev else2-at-slice-known2 : tie.After-slice_known-2-1 → tie.Else-points-eq0
else2-at-slice-known2 c = c.before.before.before.before

returns-4 : tie.Need-returns
unfolding deleted
returns-4 c =
    let S = (start-at-slice-known2 c) in
    let m = (found-at-slice-known2 c).in-Met in
    let i = m.slot.0 in
    let g = layout_of (img S) in
    let p = (read-u32-at-slice-known2 c).read_u32-points in
    let is = met-is m.is in (
      sym (ap (λ (x : Probe). first_no (removed_asks g (img S) x)) is
          ∙ removed-0 g (img S) i (is-sound (else1-at-slice-known2 c))
          (some-point (img S) p.result p.ensures (else2-at-slice-known2 c).if-points-eq0.false)),
      c.remove.ensures ∙ sym (ap (deleted g (img S)) is) ∙ sym (settled-yes 0 (img S) _ refl),
    )

pub delete_found_spec : {M : Type 1} → statement M
delete_found_spec =
    tie.close
    (tie.spec
    enum-known-found
    returns
    offset-of-requires
    message-sound-requires
    same_length
    returns-2
    read-u32-requires
    same-length-2
    returns-3
    remove-requires
    same-length-3
    returns-4)
