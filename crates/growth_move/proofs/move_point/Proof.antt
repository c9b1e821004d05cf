-- `growth_move::move_point` meets its contract: questions 11 and 9 in turn, then the add, whose number is the rest of
-- them; then the slot is deleted. Assumes nothing.
use borrow.Author.Rules.{rules}
use native.Mathlib.Omega.{arith}
use mathlib.Core.Path.{◌≡◌, sym, ap, ◌∙◌}
use Prim.Native.Nat.{ℕ}
use mathlib.Core.Bool.{true, ◌&&◌}
use Rattle.spec_file.specs.Bytes.{Bytes}
use Rattle.spec_file.specs.Image.{layout_of, slot, key_of, offset_of}
use Rattle.spec_file.specs.Questions.{message_sound, some_point, name_allowed}
use Rattle.spec_file.specs.Search.{search as search', is_met}
use Rattle.law_file.proofs.Tests.{was-no, was-yes}
use Rattle.law_file.proofs.Opened.{opened-facts}
use Rattle.law_moves.proofs.Moved.{move-11, move-9, taken-name}
use Rattle.header_layout.specs.Shapes.{shape_of}
use Rattle.table_search.proofs.Headers.{layout-slots}
use Rattle.growth_move.proofs.Asking.{moves-refused, sound-no, points-no, both_yes, moves-refused-new, moves-done}
use Rattle.growth_move.proofs.move_point.Statement.{statement}
use Rattle.growth_move.proofs.move_point.Tie as tie

-- ---- the steps, and what is known behind each

abbrev old : tie.Start → Bytes
old S = S.args.old.now

abbrev new : tie.Start → Bytes
new S = S.args.new.now

abbrev i : tie.Start → ℕ
i S = S.args.i.0

abbrev start : tie.After-message_sound → tie.Start
start c = c.before.before.before.before

-- the key and the offset of the slot
abbrev key_at : tie.Start → Bytes
key_at S = key_of (layout_of (old S)) (slot (layout_of (old S)) (old S) (i S))

abbrev offset_at : tie.Start → ℕ
offset_at S = offset_of (layout_of (old S)) (slot (layout_of (old S)) (old S) (i S))

offset-is : (c : tie.After-message_sound) → c.offset_of-o.result.0 ≡ offset_at (start c)
offset-is c = c.offset_of-o.ensures

abbrev start₁ : tie.Else-not-message_sound → tie.Start
start₁ c = c.before.before.before.before.before

sound-is : (c : tie.Else-not-message_sound)
    → message_sound (layout_of (old (start₁ c))) (old (start₁ c)) c.offset_of-o.result.0 ≡ true
sound-is c = was-yes c.message_sound.ensures c.if-not-message_sound.false

abbrev else1 : tie.After-read_u32-points → tie.Else-not-message_sound
else1 c = c.before

abbrev start₂ : tie.Else-points-eq0 → tie.Start
start₂ c = c.before.before.before.before.before.before.before

-- question 11 is answered yes
yes-11 : (c : tie.Else-points-eq0)
    → let S : tie.Start = start₂ c in
    (message_sound (layout_of (old S)) (old S) (offset_at S) && some_point (old S)) ≡ true
yes-11 c =
    let E = else1 c.before in
    let S = start₂ c in
    both_yes (old S) (new S) (i S) _ _ (offset-is E.before) (sound-is E) c.read_u32-points.ensures
    c.if-points-eq0.false

abbrev else2 : tie.After-has_key → tie.Else-points-eq0
else2 c = c.before.before

abbrev start₃ : tie.After-has_key → tie.Start
start₃ c = c.before.before.before.before.before.before.before.before.before

-- whether the new image has the key
met-is : (c : tie.After-has_key)
    → let S : tie.Start = start₃ c in
    is_met (search' (layout_of (new S)) (new S) (key_at S)) ≡ c.has_key.result
met-is c =
    let S = start₃ c in
    ap (λ (k : Bytes). is_met (search' (layout_of (new S)) (new S) k)) (sym c.key_of.ensures)
    ∙ sym c.has_key.ensures

abbrev else3 : tie.After-take_in-number → tie.Else-has_key
else3 c = c.before.before.before

abbrev start₄ : tie.After-take_in-number → tie.Start
start₄ c = c.before.before.before.before.before.before.before.before.before.before.before.before.before

-- the key is a name in the new image
named : (S : tie.Start) → name_allowed (layout_of (new S)).K (key_at S) ≡ true
named S =
    taken-name (old S) (new S) (i S) S.requires.first.accepted
    (omega (arith, S.requires.inside, layout-slots (old S) S.args.shape S.requires.first.shape)) S.requires.point
    (unfold shape_of in
    (sym (ap (λ s. s.keylen) S.requires.first.shape) ∙ S.requires.keys ∙ ap (λ s. s.keylen) S.requires.second.shape))

-- ---- the needs
offset-of-requires : tie.Need-offset_of-o-requires
offset-of-requires c κs = search rules

message-sound-requires : tie.Need-message_sound-requires
message-sound-requires c κs = search rules

same_length : tie.Need-shape_of-old-then-not-message_sound
same_length c = search rules

returns : tie.Need-returns-then-not-message_sound
returns c =
    let M = c.before in
    let S = start M in
    moves-refused (old S) (new S) (i S) 11
    (move-11 (old S) (new S) (i S)
    (sound-no (old S) (new S) (i S) _ (offset-is M) (was-no M.message_sound.ensures c.if-not-message_sound.true)))
    (λ z. omega arith)

read-u32-requires : tie.Need-read_u32-points-requires
read-u32-requires c κs = omega (arith, (opened-facts _ (start₁ c).requires.first.accepted).size_low)

same-length-2 : tie.Need-shape_of-old-then-points-eq0
same-length-2 c = search rules

returns-2 : tie.Need-returns-then-points-eq0
returns-2 c =
    let E = else1 c.before in
    let S = start₁ E in
    moves-refused (old S) (new S) (i S) 11
    (move-11 (old S) (new S) (i S)
    (points-no (old S) (new S) (i S) _ _ (offset-is E.before) (sound-is E) c.read_u32-points.ensures
    c.if-points-eq0.true))
    (λ z. omega arith)

key-of-requires : tie.Need-key_of-requires
key-of-requires c κs = search rules

has-key-requires : tie.Need-has_key-requires
has-key-requires c κs = search rules

same-length-3 : tie.Need-shape_of-old-then-has_key
same-length-3 c = search rules

same-length-4 : tie.Need-shape_of-new-then-has_key
same-length-4 c = search rules

returns-3 : tie.Need-returns-then-has_key
returns-3 c =
    let H = c.before in
    let S = start₃ H in
    moves-refused (old S) (new S) (i S) 9
    (move-9 (old S) (new S) (i S) (yes-11 (else2 H)) (met-is H ∙ c.if-has_key.true)) (λ z. omega arith)

key-of-requires-2 : tie.Need-key_of-requires-2
key-of-requires-2 c κs = search rules

take-in-requires : tie.Need-take_in-number-requires
take-in-requires c κs =
    let E = else1 (else2 c.before.before.before).before in
    ((start₁ E).requires.first, sound-is E)

same-length-5 : tie.Need-shape_of-old-then-number-ne0
same-length-5 c = search rules

same-length-6 : tie.Need-shape_of-new-then-number-ne0
same-length-6 c = search rules

returns-4 : tie.Need-returns-then-number-ne0
returns-4 c =
    let T = c.before.before.before in
    let H = (else3 T).before in
    let S = start₃ H in
    moves-refused-new (old S) (new S) (i S) (yes-11 (else2 H)) (met-is H ∙ (else3 T).if-has_key.false)
    S.requires.second.accepted (named S) _ _ (offset-is (else1 (else2 H).before).before)
    T.key_of-2.ensures _ _ T.take_in-number.ensures c.if-number-ne0.true

remove-requires : tie.Need-remove-requires
remove-requires c κs =
    let T = c.before.before.before.before in
    let F = else2 (else3 T).before in
    let E = else1 F.before in
    let S = start₁ E in (
      S.requires.first,
      S.requires.inside,
      offset-is E.before,
      sound-is E,
      F.read_u32-points.ensures,
      omega (arith, F.if-points-eq0.false),
    )

same-length-7 : tie.Need-shape_of-old
same-length-7 c = search rules

same-length-8 : tie.Need-shape_of-new
same-length-8 c = search rules

returns-5 : tie.Need-returns
returns-5 c =
    let R = c in
    let F = c in
    let T = c.before.before.before.before.before.before.before in
    let H = (else3 T).before in
    let S = start₃ H in
    moves-done (old S) (new S) (i S) (yes-11 (else2 H)) (met-is H ∙ (else3 T).if-has_key.false) S.requires.second.accepted
    (named S) _ _ (offset-is (else1 (else2 H).before).before) T.key_of-2.ensures _ _
    T.take_in-number.ensures F.if-number-ne0.false _ R.remove.ensures

pub move_point_spec : {M : Type 1} → statement M
move_point_spec =
    tie.close
    (tie.spec
    offset-of-requires
    message-sound-requires
    same_length
    returns
    read-u32-requires
    same-length-2
    returns-2
    key-of-requires
    has-key-requires
    same-length-3
    same-length-4
    returns-3
    key-of-requires-2
    take-in-requires
    same-length-5
    same-length-6
    returns-4
    remove-requires
    same-length-7
    same-length-8
    returns-5)
