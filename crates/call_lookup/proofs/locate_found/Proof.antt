-- Questions 14 and 11 in turn; behind them an active message is shown. Assumes nothing.
use Prim.Native.Nat.{ℕ, ◌+◌, ◌≤◌, ◌<◌}
use native.Mathlib.Omega.{arith}
use mathlib.Core.Path.{◌≡◌, refl, sym, ap, ◌∙◌, subst}
use mathlib.Core.Bool.{Bool, true, false}
use lib.ListN.{length}
use borrow.Author.Rules.{rules}
use Rattle.spec_file.specs.Bytes.{Bytes}
use Rattle.spec_file.specs.Image.{layout_of, slot, offset_of}
use Rattle.spec_file.specs.Search.{Probe, met}
use Rattle.spec_file.specs.Messages.{head_size, length_at, is_active}
use Rattle.spec_file.specs.Questions.{message_sound}
use Rattle.law_file.proofs.Tests.{was-no, was-yes}
use Rattle.law_file.proofs.Opened.{opened-facts}
use Rattle.law_file.proofs.Effects.{message-fits}
use Rattle.law_file.proofs.Outcomes.{shown-14, shown-11}
use Rattle.header_layout.proofs.Shaped.{shape-head, head-range}
use Rattle.table_search.proofs.Taken.{other-met, met-is, met-within}
use Rattle.call_lookup.specs.Shown.{Shows}
use Rattle.call_lookup.proofs.Answers.{shows-refused, shows-inactive, shows-active}
use Rattle.call_lookup.proofs.locate_found.Statement.{statement}
use Rattle.call_lookup.proofs.locate_found.Tie as tie

-- ---- what is known where the key was met, and behind question 11
abbrev img : tie.Start → Bytes
img c = c.args.image.now

-- the message of slot i
abbrev Sound? : Bytes → ℕ → Bool → Type 0
Sound? b i t = message_sound (layout_of b) b (offset_of (layout_of b) (slot (layout_of b) b i)) ≡ t

abbrev start-at-else1 : tie.Else-not-message_sound → tie.Start
start-at-else1 c = c.before.before.before.before.before

abbrev found-at-else1 : tie.Else-not-message_sound → tie.In-Met
found-at-else1 c = c.before.before.before

is-sound : (c : tie.Else-not-message_sound) → Sound? (img (start-at-else1 c)) (found-at-else1 c).in-Met.slot.0 true
is-sound c =
    ap (message_sound (layout_of (img (start-at-else1 c))) (img (start-at-else1 c)))
    (sym c.offset_of-o.ensures)
    ∙ was-yes c.message_sound.ensures c.if-not-message_sound.false

head_in : (c : tie.Else-not-message_sound)
    → c.offset_of-o.result.0 + (start-at-else1 c).args.shape.head ≤ length (img (start-at-else1 c))
head_in c =
    let S = (start-at-else1 c) in
    omega (
      arith,
      shape-head S.requires.0,
      message-fits (img S) (opened-facts _ S.requires.0.accepted) _ (is-sound c),
      c.offset_of-o.ensures,
    )

-- the answer by the slot that was met
met-shows : {g : _} {b : Bytes} {p : Probe} {i n start m : ℕ} → p ≡ met i → Shows g b (met i) n start m
    → Shows g b p n start m
met-shows {g} {b} {n = n} {start} {m} e s = subst (λ (q : Probe). Shows g b q n start m) (sym e) s

-- ---- the needs
enum-known-found : tie.Need-enum_known-found
enum-known-found c = search rules

nothing-requires : tie.Need-nothing-requires
nothing-requires c κs = search rules

returns : tie.Need-returns-in_default
returns c =
    let S = c.before.before.before in
    let r = c.nothing.ensures in
    let no' = shown-14 (layout_of (img S)) (img S) _ (other-met S.args.found c.in_default.in_default-own.keys2) in
    shows-refused (layout_of (img S)) (img S) _ _ _ _ (r.0 ∙ sym no') (λ z. omega (arith, r.0)) r.1 r.2

abbrev start-at-known-told : tie.In-Met → tie.Start
start-at-known-told c = c.before.before

offset-of-requires : tie.Need-offset_of-o-requires
offset-of-requires c κs =
    ((start-at-known-told c).requires.0, met-within c.in-Met.is (start-at-known-told c).requires.1)

abbrev start-at-offset-of : tie.After-offset_of-o → tie.Start
start-at-offset-of c = c.before.before.before

message-sound-requires : tie.Need-message_sound-requires
message-sound-requires c κs = (start-at-offset-of c).requires.0

nothing-requires-2 : tie.Need-nothing-requires-then-not-message_sound
nothing-requires-2 c κs = search rules

abbrev shared-slice-known-at-nothing2 : tie.After-nothing-then-not-message_sound → tie.After-shared_slice_known-1
shared-slice-known-at-nothing2 c = c.before.before.before.before.before

abbrev start-at-nothing2 : tie.After-nothing-then-not-message_sound → tie.Start
start-at-nothing2 c = c.before.before.before.before.before.before

abbrev found-at-nothing2 : tie.After-nothing-then-not-message_sound → tie.In-Met
found-at-nothing2 c = c.before.before.before.before

returns-2 : tie.Need-returns-then-not-message_sound
returns-2 c =
    let S = (start-at-nothing2 c) in
    let r = c.nothing-then-not-message_sound.ensures in
    let m = (found-at-nothing2 c).in-Met in
    let bad : Sound? (img S) m.slot.0 false =
    ap (message_sound (layout_of (img S)) (img S)) (sym c.offset_of-o.ensures)
    ∙ was-no c.message_sound.ensures c.if-not-message_sound.true in
    met-shows (met-is m.is)
    (shows-refused (layout_of (img S)) (img S) (met m.slot.0) _ _ _
    (r.0 ∙ sym (shown-11 (layout_of (img S)) (img S) m.slot.0 bad))
    (λ z. omega (arith, r.0)) r.1 r.2)

is-active-requires : tie.Need-is_active-requires
is-active-requires c κs = omega (arith, head_in c, head-range (start-at-else1 c).requires.0)

nothing-requires-3 : tie.Need-nothing-requires-then-not-is_active
nothing-requires-3 c κs = search rules

abbrev found-at-nothing3 : tie.After-nothing-then-not-is_active → tie.In-Met
found-at-nothing3 c = c.before.before.before.before.before.before

abbrev start-at-nothing3 : tie.After-nothing-then-not-is_active → tie.Start
start-at-nothing3 c = c.before.before.before.before.before.before.before.before

abbrev offset-of-at-nothing3 : tie.After-nothing-then-not-is_active → tie.After-offset_of-o
offset-of-at-nothing3 c = c.before.before.before.before.before

returns-3 : tie.Need-returns-then-not-is_active
returns-3 c =
    let S = (start-at-nothing3 c) in
    let r = c.nothing-then-not-is_active.ensures in
    let m = (found-at-nothing3 c).in-Met in
    met-shows (met-is m.is)
    (shows-inactive (layout_of (img S)) (img S) m.slot.0 (is-sound c.before.before.before) _ _ _ r.0
    (ap (is_active (img S)) (sym (offset-of-at-nothing3 c).offset_of-o.ensures)
    ∙ was-no c.is_active.ensures c.if-not-is_active.true)
    r.1 r.2)

abbrev match-keys1-at-else2 : tie.Else-not-is_active → tie.In-Met
match-keys1-at-else2 c = c.before.before.before.before.before

abbrev start-at-else2 : tie.Else-not-is_active → tie.Start
start-at-else2 c = c.before.before.before.before.before.before.before

text-start-requires : tie.Need-text_start-start-requires
text-start-requires c κs =
    let f = opened-facts _ (start-at-else2 c).requires.0.accepted in
    (omega (arith, head_in c.before.before, f.size-high), omega (arith, head-range (start-at-else2 c).requires.0))

abbrev found-at-text-start : tie.After-text_start-start → tie.In-Met
found-at-text-start c = c.before.before.before.before.before.before

abbrev start-at-text-start : tie.After-text_start-start → tie.Start
start-at-text-start c = c.before.before.before.before.before.before.before.before

length-at-requires : tie.Need-length_at-length-requires
length-at-requires c κs = ((start-at-text-start c).requires.0, head_in c.before.before.before)

abbrev known-told-at-length-at : tie.After-length_at-length → tie.In-Met
known-told-at-length-at c = c.before.before.before.before.before.before.before

abbrev start-at-length-at : tie.After-length_at-length → tie.Start
start-at-length-at c = c.before.before.before.before.before.before.before.before.before

abbrev found-at-length-at : tie.After-length_at-length → tie.In-Met
found-at-length-at c = c.before.before.before.before.before.before.before

abbrev offset-of-at-length-at : tie.After-length_at-length → tie.After-offset_of-o
offset-of-at-length-at c = c.before.before.before.before.before.before

abbrev else1-at-length-at : tie.After-length_at-length → tie.Else-not-message_sound
else1-at-length-at c = c.before.before.before.before

returns-4 : tie.Need-returns
returns-4 c =
    let S = (start-at-length-at c) in
    let m = (found-at-length-at c).in-Met in
    let g = layout_of (img S) in
    let at = (offset-of-at-length-at c).offset_of-o.ensures in
    met-shows (met-is m.is)
    (shows-active g (img S) m.slot.0 (is-sound (else1-at-length-at c)) _ _ _ refl
    (ap (is_active (img S)) (sym at)
    ∙ was-yes c.is_active.ensures c.if-not-is_active.false)
    (omega (arith, c.text_start-start.ensures, at, shape-head S.requires.0))
    (c.length_at-length.ensures ∙ ap (length_at g (img S)) at))

pub locate_found_spec : {M : Type 1} → statement M
locate_found_spec =
    tie.close
    (tie.spec
    enum-known-found
    nothing-requires
    returns
    offset-of-requires
    message-sound-requires
    nothing-requires-2
    returns-2
    is-active-requires
    nothing-requires-3
    returns-3
    text-start-requires
    length-at-requires
    returns-4)
