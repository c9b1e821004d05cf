-- The shape is the header's fields, one after the other. Assumes nothing.
use borrow.Author.Rules.{rules}
use mathlib.Core.Path.{◌≡◌, ◌∙◌}
use Prim.Native.Nat.{ℕ, ◌≤◌}
use native.Mathlib.Omega.{arith}
use lib.ListN.{length}
use Rattle.spec_file.specs.Bytes.{Bytes}
use Rattle.spec_file.specs.Limits.{key_field, slots_field, multiplier_field, start_field, first_field, last_field, data_field}
use Rattle.spec_file.specs.Image.{field, layout_of}
use Rattle.spec_file.specs.Messages.{head_size}
use Rattle.law_file.proofs.Opened.{opened-facts}
use Rattle.header_layout.specs.Shapes.{shape_of}
use Rattle.header_layout.specs.declared.shape.Shape.{Shape}
use Rattle.header_layout.proofs.shape.read_shape.Statement.{statement}
use Rattle.header_layout.proofs.shape.read_shape.Tie as tie

shape_is : (img : Bytes) {k s m b f l a h : ℕ} → k ≡ field img key_field → s ≡ field img slots_field
    → m ≡ field img multiplier_field → b ≡ field img start_field → f ≡ field img first_field → l ≡ field img last_field
    → a ≡ field img data_field → h ≡ head_size (layout_of img)
    → ◌≡◌ {A = Shape}
    (record {
      keylen = k;
      slots = s;
      area = record { 0 = a };
      head = h;
      multiplier = m;
      basis = b;
      first = f;
      last = l;
    })
    (shape_of img)
unfolding shape_of layout_of
shape_is img ek es em eb ef el ea eh = rw (ek, es, em, eb, ef, el, ea, eh)

-- an accepted image has a whole header
whole : (S : tie.Start) → 60 ≤ length S.args.image.now
whole S = omega (arith, (opened-facts S.args.image.now S.requires).size_low)

read-u32-requires : tie.Need-read_u32-keylen-requires
read-u32-requires c κs = omega (arith, whole c.before)

cast-keylen : tie.Need-overflow_cast-keylen
cast-keylen c = search rules

read-u32-requires-2 : tie.Need-read_u32-slots-requires
read-u32-requires-2 c κs = omega (arith, whole c.before.before)

cast-slots : tie.Need-overflow_cast-slots
cast-slots c = search rules

read-u32-requires-3 : tie.Need-read_u32-multiplier-requires
read-u32-requires-3 c κs = omega (arith, whole c.before.before.before)

read-u32-requires-4 : tie.Need-read_u32-basis-requires
read-u32-requires-4 c κs = omega (arith, whole c.before.before.before.before)

read-u32-requires-5 : tie.Need-read_u32-first-requires
read-u32-requires-5 c κs = omega (arith, whole c.before.before.before.before.before)

read-u32-requires-6 : tie.Need-read_u32-last-requires
read-u32-requires-6 c κs = omega (arith, whole c.before.before.before.before.before.before)

read-u32-requires-7 : tie.Need-read_u32-requires
read-u32-requires-7 c κs = omega (arith, whole c.before.before.before.before.before.before.before)

cast-new : tie.Need-overflow_cast-read_u32
cast-new c = search rules

new-requires : tie.Need-new-area-requires
new-requires c κs = search rules

head-size-requires : tie.Need-head_size-head-requires
head-size-requires c κs =
    let b = c in
    b.requires

returns : tie.Need-returns
returns c =
    let b = c in
    shape_is _
    b.read_u32-keylen.ensures
    b.read_u32-slots.ensures
    b.read_u32-multiplier.ensures
    b.read_u32-basis.ensures
    b.read_u32-first.ensures
    b.read_u32-last.ensures
    (b.new-area.ensures ∙ b.read_u32.ensures)
    c.head_size-head.ensures

pub read_shape_spec : {M : Type 1} → statement M
read_shape_spec =
    tie.close
    (tie.spec
    read-u32-requires
    cast-keylen
    read-u32-requires-2
    cast-slots
    read-u32-requires-3
    read-u32-requires-4
    read-u32-requires-5
    read-u32-requires-6
    read-u32-requires-7
    cast-new
    new-requires
    head-size-requires
    returns)
