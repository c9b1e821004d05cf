-- One message of the source, in new space of the target. Assumes nothing.
use borrow.Author.Rules.{rules}
use native.Mathlib.Omega.{arith}
use Prim.Native.Nat.{ℕ, ◌+◌, ◌-◌, ◌≤◌, ◌<◌}
use mathlib.Core.Path.{◌≡◌, refl, sym, ap, ap₂, ◌∙◌}
use mathlib.Core.Bool.{true}
use mathlib.Core.List.{◌++◌}
use lib.ListN.{length, take, drop}
use Rattle.spec_file.specs.Bytes.{Bytes, part}
use Rattle.spec_file.specs.Limits.{most_image, free_field}
use Rattle.spec_file.specs.Image.{field, layout_of}
use Rattle.spec_file.specs.Messages.{head_size, is_active, length_at, text_at}
use Rattle.spec_file.specs.Questions.{message_sound}
use Rattle.spec_conversion.specs.Convert.{carried}
use Rattle.law_file.proofs.Tests.{was-no, was-yes}
use Rattle.law_file.proofs.Bytes.{part_length}
use Rattle.law_file.proofs.Stores.{part-lent}
use Rattle.law_file.proofs.Opened.{opened-facts}
use Rattle.law_file.proofs.Stretch.{none-sound}
use Rattle.law_file.proofs.Effects.{area-above, message-fits, message-end, active-some}
use Rattle.header_layout.proofs.Shaped.{shape-head, head-range}
use Rattle.bytes_words.proofs.Numbers.{part-zero}
use Rattle.table_search.specs.Slots.{key_in}
use Rattle.convert_stages.specs.Stages.{carried_to}
use Rattle.convert_message.proofs.carry_message.Statement.{statement}
use Rattle.convert_message.proofs.carry_message.Tie as tie

-- the header, and the whole of an active message, lie in the source
inside : (S : tie.Start) → (S.args.o.0 + S.args.from.head ≤ length S.args.source.now)
    × (length S.args.source.now ≤ most_image)
inside S =
    let img = S.args.source.now in
    let f = opened-facts img S.requires.source.accepted in
    (omega (arith, message-fits img f S.args.o.0 S.requires.sound, shape-head S.requires.source), f.size-high)

whole : (S : tie.Start) → is_active S.args.source.now S.args.o.0 ≡ true
    → S.args.o.0 + S.args.from.head
    + length_at (layout_of S.args.source.now) S.args.source.now S.args.o.0
    ≤ length S.args.source.now
whole S a =
    let img = S.args.source.now in
    let f = opened-facts img S.requires.source.accepted in
    omega (
      arith,
      message-end img f S.args.o.0 S.requires.sound (active-some img S.args.o.0 a),
      f.free-high,
      shape-head S.requires.source,
    )

is-active-requires : tie.Need-is_active-requires
is-active-requires c κs = omega (arith, inside c.before.before, head-range c.requires.source)

returns : tie.Need-returns-then-not-is_active
unfolding carried_to
returns c = sym (rw (was-no c.is_active.ensures c.if-not-is_active.true) refl)

text-start-requires : tie.Need-text_start-requires
text-start-requires c κs =
    let S = c.before.before.before.before in
    (omega (arith, inside S), omega (arith, head-range S.requires.source))

at-requires : tie.Need-at-at-requires
at-requires c κs = search rules

length-at-requires : tie.Need-length_at-m-requires
length-at-requires c κs =
    let S = c.before.before.before.before.before.before in
    (S.requires.source, (inside S).0)

-- the text's place in the source
record Known (S : tie.Start) (at m : ℕ) : Type 0 where
  pub active : is_active S.args.source.now S.args.o.0 ≡ true
  pub starts : at ≡ S.args.o.0 + S.args.from.head
  pub long : m ≡ length_at (layout_of S.args.source.now) S.args.source.now S.args.o.0

abbrev start : tie.After-place_text-arg-1 → tie.Start
start c = c.before.before.before.before.before.before.before.before

known : (c : tie.After-place_text-arg-1)
    → Known (start c) c.at-at.result c.length_at-m.result
known c =
    let T = c in
    record {
      active = was-yes T.is_active.ensures T.if-not-is_active.false;
      starts = c.at-at.ensures ∙ T.text_start.ensures;
      long = c.length_at-m.ensures;
    }

add-place-text : tie.Need-overflow_add-at
add-place-text c =
    let S = start c in
    let k = known c in
    omega (arith, k.starts, k.long, whole S k.active, inside S)

sub-place-text : tie.Need-slice_bounds-place_text-count
sub-place-text c = search rules

part-place-text-start : tie.Need-slice_bounds-place_text-start
part-place-text-start c = search rules

part-place-text-end : tie.Need-slice_bounds-place_text-end
part-place-text-end c =
    let S = start c in
    let k = known c in
    omega (arith, k.starts, k.long, whole S k.active)

place-text-requires : tie.Need-place_text-requires
place-text-requires c κs =
    let P = c.before in
    let S = start P in
    let k = known P in
    let at = P.at-at.result in
    let m = P.length_at-m.result in
    let len : length (take (at + m - at) (drop at S.args.source.now)) ≡ m =
    ap length (part-lent S.args.source.now at m)
    ∙ part_length S.args.source.now at m (omega (arith, k.starts, k.long, whole S k.active)) in
    let fits = S.requires.fits k.active in (
      S.requires.target,
      S.requires.there,
      record { small = omega (arith, len, k.long, fits.small); room = omega (arith, len, k.long, fits.room) },
    )

same_length : tie.Need-shape_of-target
same_length c = search rules

returns-2 : tie.Need-returns
unfolding text_at carried_to
returns-2 c =
    let R = c in
    let P = c.before.before.before.before in
    let S = start P in
    let k = known P in
    let t = S.args.target.now in
    let at = P.at-at.result in
    let m = P.length_at-m.result in
    R.place_text.ensures
    ∙ ap (carried (layout_of t) t S.args.i.0 (key_in t S.args.i.0))
    (part-lent S.args.source.now at m
    ∙ ap₂ (part S.args.source.now)
    (k.starts ∙ ap (λ (h : ℕ). S.args.o.0 + h) (shape-head S.requires.source)) k.long)
    ∙ sym (rw k.active refl)

pub carry_message_spec : {M : Type 1} → statement M
carry_message_spec =
    tie.close
    (tie.spec
    is-active-requires
    returns
    text-start-requires
    at-requires
    length-at-requires
    add-place-text
    sub-place-text
    part-place-text-start
    part-place-text-end
    place-text-requires
    same_length
    returns-2)
