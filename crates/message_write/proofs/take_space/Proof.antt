-- The old text is copied, the message written around it at X, and X and M behind it. Assumes nothing.
use Prim.Native.Nat.{ℕ, ◌+◌, ◌-◌, ◌≤◌, ◌<◌}
use native.Mathlib.Omega.{arith}
use mathlib.Core.Path.{◌≡◌, ap, ap₂, ◌∙◌}
use mathlib.Core.List.{◌++◌}
use lib.ListN.{length}
use borrow.Author.Rules.{rules}
use borrow.Rule.Slice.PartMut.{mid_of, mid_len, same_len_mid}
use Rattle.spec_file.specs.Bytes.{Bytes, part, store}
use Rattle.spec_file.specs.Limits.{most_image, free_field}
use Rattle.spec_file.specs.Image.{field, layout_of}
use Rattle.spec_file.specs.Messages.{message, set_free}
use Rattle.law_file.proofs.Opened.{Opened, opened-facts}
use Rattle.header_layout.specs.Shapes.{Tells}
use Rattle.header_layout.proofs.Shaped.{shape-area, area-field, head-width, width_is, most-tells}
use Rattle.message_write.proofs.Placed.{place-steps, take_space-set}
use Rattle.message_write.proofs.take_space.Statement.{statement}
use Rattle.message_write.proofs.take_space.Tie as tie

-- what the caller knows, by numbers; m is the length of the whole text
facts : (c : tie.Start)
    → let img : Bytes = c.args.image.now in
    let m : ℕ = c.args.before + length c.args.bytes.now in
    Opened img × Tells c.args.shape.head m × (c.args.shape.head ≡ (layout_of img).W + 1)
    × (field img free_field + c.args.shape.head + m ≤ length img)
facts c = (
  opened-facts _ c.requires.0.accepted,
  most-tells c.requires.0 _ c.requires.2.small,
  head-width c.requires.0,
  c.requires.2.room,
)

abbrev start-at-read-u32-arg : tie.After-area-1 → tie.Start
start-at-read-u32-arg c = c.before.before.before

read-u32-requires : tie.Need-read_u32-free-requires
read-u32-requires c κs = omega (arith, (facts (start-at-read-u32-arg c)).0.size_low)

cast-free : tie.Need-overflow_cast-free
cast-free c = search rules

at-requires : tie.Need-at-requires
at-requires c κs = search rules

add-copy-up : tie.Need-overflow_add-free
add-copy-up c = search rules

copy-up-requires : tie.Need-copy_up-requires
copy-up-requires c κs = search rules

add-end : tie.Need-overflow_add-end
add-end c = search rules

add-end-2 : tie.Need-overflow_add-end-2
add-end-2 c = search rules

add-end-3 : tie.Need-overflow_add-end-3
add-end-3 c = search rules

sub-write-message : tie.Need-slice_bounds-write_message-count
sub-write-message c = search rules

part-write-message-start : tie.Need-slice_bounds-write_message-start
part-write-message-start c = search rules

part-write-message-end : tie.Need-slice_bounds-write_message-end
part-write-message-end c = search rules

abbrev read-u32-arg-at-write-message-arg : tie.After-write_message-arg-1 → tie.After-area-1
read-u32-arg-at-write-message-arg c = c.before.before.before.before.before.before.before

abbrev start-at-write-message-arg : tie.After-write_message-arg-1 → tie.Start
start-at-write-message-arg c = c.before.before.before.before.before.before.before.before.before.before

abbrev read-u32-at-write-message-arg : tie.After-write_message-arg-1 → tie.After-read_u32-free
read-u32-at-write-message-arg c = c.before.before.before.before.before.before

write-message-requires : tie.Need-write_message-requires
write-message-requires c κs =
    let k = facts (start-at-write-message-arg c) in
    let x = (read-u32-at-write-message-arg c).read_u32-free in
    let u = c.copy_up in
    let A = (start-at-write-message-arg c).args in
    let end = x.result + A.shape.head + (A.before + length A.bytes.now) in (
      k.1,
      mid_len x.result end u.new.s (omega (arith, u.auto.s, x.ensures, k.3)) ∙ omega arith,
    )

new-requires : tie.Need-new-requires
new-requires c κs = search rules

abbrev write-message-at-new : tie.After-new → tie.After-write_message
write-message-at-new c = c.before.before.before.before

abbrev image-at-new : tie.After-new → tie.After-image-1
image-at-new c = c.before.before.before.before.before.before.before

abbrev copy-up-at-new : tie.After-new → tie.After-copy_up
copy-up-at-new c = c.before.before.before.before.before.before.before.before

abbrev read-u32-at-image : tie.After-image-1 → tie.After-read_u32-free
read-u32-at-image c = c.before.before.before.before

abbrev read-u32-at-new : tie.After-new → tie.After-read_u32-free
read-u32-at-new c = c.before.before.before.before.before.before.before.before.before.before.before

abbrev shared-slice-known-at-image : tie.After-image-1 → tie.After-shared_slice_known-1
shared-slice-known-at-image c = c.before.before.before.before.before.before

abbrev start-at-image : tie.After-image-1 → tie.Start
start-at-image c = c.before.before.before.before.before.before.before.before

abbrev start-at-new : tie.After-new → tie.Start
start-at-new c = c.before.before.before.before.before.before.before.before.before.before.before.before.before.before.before

set-free-requires : tie.Need-set_free-requires
set-free-requires c κs =
    let w = (write-message-at-new c).write_message in
    let u = (copy-up-at-new c).copy_up in
    let x = (read-u32-at-new c).read_u32-free in
    let S = (start-at-new c) in
    let k = facts S in
    let f = k.0 in
    let end = x.result + S.args.shape.head + (S.args.before + length S.args.bytes.now) in
    let kept = same_len_mid x.result (end - x.result) u.new.s w.new.space w.auto.space in (
      omega (arith, kept, u.auto.s, f.size_low),
      omega (arith, c.new.ensures, x.ensures, area-field S.requires.0, f.free-low),
      omega (arith, c.new.ensures, x.ensures, k.3, f.size-high),
    )

same_length : tie.Need-shape_of-image
same_length c = search rules

abbrev write-message-at-slice-known4 : tie.After-slice_known-4-1 → tie.After-write_message
write-message-at-slice-known4 c = c.before.before.before.before.before.before.before

abbrev copy-up-at-write-message : tie.After-write_message → tie.After-copy_up
copy-up-at-write-message c = c.before.before.before.before

abbrev copy-up-at-slice-known4 : tie.After-slice_known-4-1 → tie.After-copy_up
copy-up-at-slice-known4 c = c.before.before.before.before.before.before.before.before.before.before.before

abbrev read-u32-at-write-message : tie.After-write_message → tie.After-read_u32-free
read-u32-at-write-message c = c.before.before.before.before.before.before.before

abbrev read-u32-at-slice-known4 : tie.After-slice_known-4-1 → tie.After-read_u32-free
read-u32-at-slice-known4 c = c.before.before.before.before.before.before.before.before.before.before.before.before.before.before

abbrev start-at-read-u32 : tie.After-read_u32-free → tie.Start
start-at-read-u32 c = c.before.before.before.before

abbrev start-at-write-message : tie.After-write_message → tie.Start
start-at-write-message c = c.before.before.before.before.before.before.before.before.before.before.before

abbrev start-at-slice-known4 : tie.After-slice_known-4-1 → tie.Start
start-at-slice-known4 c = c.before.before.before.before.before.before.before.before.before.before.before.before.before.before.before.before.before.before

abbrev at-at-write-message : tie.After-write_message → tie.After-at
at-at-write-message c = c.before.before.before.before.before

abbrev at-at-slice-known4 : tie.After-slice_known-4-1 → tie.After-at
at-at-slice-known4 c = c.before.before.before.before.before.before.before.before.before.before.before.before

returns : tie.Need-returns
returns c =
    let w = (write-message-at-slice-known4 c).write_message in
    let u = (copy-up-at-slice-known4 c).copy_up in
    let x = (read-u32-at-slice-known4 c).read_u32-free in
    let S = (start-at-slice-known4 c) in
    let A = S.args in
    let img = A.image.now in
    let v = A.bytes.now in
    let n = A.before in
    let from = A.from.0 in
    let head = A.shape.head in
    let k = facts S in
    let below : from + n ≤ x.result = omega (arith, x.ensures, S.requires.1) in
    let room : x.result + head + (n + length v) ≤ length img = omega (arith, x.ensures, k.3) in
    let copied : u.new.s ≡ store img (x.result + head) (part img from n) =
    u.ensures ∙ ap (λ (p : ℕ). store img (x.result + head) (part img p n)) (at-at-slice-known4 c).at.ensures in
    c.set_free.ensures
    ∙ ap₂ (set_free A.shape.area.0)
    (place-steps (layout_of img) img v x.result from n head k.2 below room u.new.s w.new.space copied
    (w.ensures
    ∙ ap (λ (k : ℕ). message k
    (part (mid_of x.result (x.result + head + (n + length v) - x.result) u.new.s) head n ++ v))
    (width_is S.requires.0)))
    c.new.ensures
    ∙ take_space-set (layout_of img) img v x.result from n head k.2 below room A.shape.area.0
    (shape-area S.requires.0) x.ensures

pub take_space_spec : {M : Type 1} → statement M
take_space_spec =
    tie.close
    (tie.spec
    read-u32-requires
    cast-free
    at-requires
    add-copy-up
    copy-up-requires
    add-end
    add-end-2
    add-end-3
    sub-write-message
    part-write-message-start
    part-write-message-end
    write-message-requires
    new-requires
    set-free-requires
    same_length
    returns)
