-- The message, and zeros behind it up to the old end. Assumes nothing.
use Prim.Native.Nat.{ℕ, ◌+◌, ◌≤◌, ◌<◌, ◌^◌}
use native.Mathlib.Omega.{arith}
use mathlib.Core.Path.{◌≡◌, ap₂, ◌∙◌}
use mathlib.Core.List.{◌++◌}
use lib.ListN.{length}
use borrow.Author.Rules.{rules}
use borrow.Rule.Slice.PartMut.{mid_len}
use Rattle.spec_file.specs.Bytes.{Bytes}
use Rattle.spec_file.specs.Limits.{most_image}
use Rattle.spec_file.specs.Image.{layout_of}
use Rattle.spec_file.specs.Messages.{head_size, length_at, message}
use Rattle.law_file.proofs.Opened.{opened-facts}
use Rattle.law_file.proofs.Effects.{message-end}
use Rattle.law_file.proofs.Stretch.{held-some}
use Rattle.bytes_words.proofs.Numbers.{part-zero}
use Rattle.header_layout.proofs.Shaped.{shape-head, head-width, head-range, width_is}
use Rattle.message_read.proofs.Sound.{length-tells}
use Rattle.message_write.proofs.Placed.{overwrite-steps}
use Rattle.message_write.proofs.overwrite.Statement.{statement}
use Rattle.message_write.proofs.overwrite.Tie as tie

-- what the caller knows, by numbers
inside : (c : tie.Start)
    → let img : Bytes = c.args.image.now in
    let o : ℕ = c.args.o.0 in
    let m : ℕ = length_at (layout_of img) img o in
    (o + c.args.shape.head + m ≤ length img) × (length c.args.bytes.now ≤ m) × (length img ≤ most_image)
    × (0 < o)
    × ((4 ≤ c.args.shape.head) × (c.args.shape.head ≤ 5))
inside c =
    let img = c.args.image.now in
    let o = c.args.o.0 in
    let f = opened-facts img c.requires.0.accepted in
    let some' = c.requires.2 in (
      omega (arith, shape-head c.requires.0, message-end img f o c.requires.1 (λ e. omega arith), f.free-high),
      omega (arith, c.requires.3, held-some (layout_of img) img o (λ e. omega arith)),
      f.size-high,
      some',
      head-range c.requires.0,
    )

at-requires : tie.Need-at-at-requires
at-requires c κs = search rules

add-old : tie.Need-overflow_add-old
add-old c = omega (arith, c.at-at.ensures, inside c.before.before.before)

abbrev start-at-length-at-arg : tie.After-at-at → tie.Start
start-at-length-at-arg c = c.before.before.before

length-at-requires : tie.Need-length_at-requires
length-at-requires c κs = ((start-at-length-at-arg c).requires.0, omega (arith, (inside (start-at-length-at-arg c)).0))

abbrev start-at-length-at : tie.After-length_at → tie.Start
start-at-length-at c = c.before.before.before.before

-- where the old message ends, and that the new one ends at or below it
ends : (c : tie.After-length_at)
    → let S : tie.Start = (start-at-length-at c) in
    let at : ℕ = c.at-at.result in
    let m : ℕ = c.length_at.result in
    (at + S.args.shape.head + m ≤ length S.args.image.now) × (length S.args.bytes.now ≤ m)
    × (length S.args.image.now ≤ most_image) × ((4 ≤ S.args.shape.head) × (S.args.shape.head ≤ 5))
ends c =
    let i = inside (start-at-length-at c) in (
      omega (arith, c.length_at.ensures, c.at-at.ensures, i.0),
      omega (arith, c.length_at.ensures, i.1),
      i.2,
      i.4,
    )

add-old-2 : tie.Need-overflow_add-old-2
add-old-2 c = omega (arith, ends c)

add-end : tie.Need-overflow_add-end
add-end c = omega (arith, ends c)

add-end-2 : tie.Need-overflow_add-end-2
add-end-2 c = omega (arith, ends c)

sub-write-message : tie.Need-slice_bounds-write_message-count
sub-write-message c = search rules

part-write-message-start : tie.Need-slice_bounds-write_message-start
part-write-message-start c = search rules

part-write-message-end : tie.Need-slice_bounds-write_message-end
part-write-message-end c = omega (arith, ends c)

abbrev start-at-write-message-arg : tie.After-write_message-arg-1 → tie.Start
start-at-write-message-arg c = c.before.before.before.before.before

abbrev slice-known-at-write-message-arg : tie.After-write_message-arg-1 → tie.After-slice_known-1
slice-known-at-write-message-arg c = c.before.before.before.before

write-message-requires : tie.Need-write_message-requires
write-message-requires c κs =
    let e = ends c.before in
    let A = (start-at-write-message-arg c).args in
    let at = c.at-at.result in
    let head = A.shape.head in
    let i = inside (start-at-write-message-arg c) in
    let tells =
    length-tells A.image.now A.shape (start-at-write-message-arg c).requires.0 A.o.0
    (0 + length A.bytes.now) (λ k. omega (arith, (slice-known-at-write-message-arg c).slice_known-1.given k))
    (omega (arith, i.0)) (omega (arith, i.1)) in (
      tells,
      mid_len at (at + head + length A.bytes.now) A.image.now (omega arith) ∙ omega arith,
    )

abbrev length-at-at-slice-known2 : tie.After-slice_known-2-1 → tie.After-length_at
length-at-at-slice-known2 c = c.before.before.before.before

sub-zero : tie.Need-slice_bounds-zero-count
sub-zero c = omega (arith, ends (length-at-at-slice-known2 c))

part-zero-start : tie.Need-slice_bounds-zero-start
part-zero-start c = omega (arith, ends (length-at-at-slice-known2 c))

part-zero-end : tie.Need-slice_bounds-zero-end
part-zero-end c = omega (arith, ends (length-at-at-slice-known2 c))

zero-requires : tie.Need-zero-requires
zero-requires c κs = search rules

same_length : tie.Need-shape_of-image
same_length c = search rules

abbrev write-message-at-slice-known3 : tie.After-slice_known-3-1 → tie.After-write_message
write-message-at-slice-known3 c = c.before.before.before.before.before.before

abbrev write-message-arg-at-slice-known3 : tie.After-slice_known-3-1 → tie.After-write_message-arg-1
write-message-arg-at-slice-known3 c = c.before.before.before.before.before.before.before

abbrev length-at-at-slice-known3 : tie.After-slice_known-3-1 → tie.After-length_at
length-at-at-slice-known3 c = c.before.before.before.before.before.before.before.before

abbrev at-at-slice-known3 : tie.After-slice_known-3-1 → tie.After-at-at
at-at-slice-known3 c = c.before.before.before.before.before.before.before.before.before

abbrev start-at-slice-known3 : tie.After-slice_known-3-1 → tie.Start
start-at-slice-known3 c = c.before.before.before.before.before.before.before.before.before.before.before.before

returns : tie.Need-returns
returns c =
    let z = c.zero in
    let w = (write-message-at-slice-known3 c).write_message in
    let L = (length-at-at-slice-known3 c) in
    let m = L.length_at in
    let at = (at-at-slice-known3 c).at-at in
    let S = (start-at-slice-known3 c) in
    let img = S.args.image.now in
    let v = S.args.bytes.now in
    overwrite-steps (layout_of img) img v S.args.o.0 m.result S.args.shape.head
    (head-width S.requires.0) S.requires.2
    m.ensures (ends L).1 (omega (arith, m.ensures, (inside S).0))
    w.new.space z.new.s at.result at.ensures
    (w.ensures
    ∙ ap₂ (λ (k : ℕ) (t : Bytes). message k (t ++ v)) (width_is S.requires.0) (part-zero _ S.args.shape.head))
    z.ensures

pub overwrite_spec : {M : Type 1} → statement M
overwrite_spec =
    tie.close
    (tie.spec
    at-requires
    add-old
    length-at-requires
    add-old-2
    add-end
    add-end-2
    sub-write-message
    part-write-message-start
    part-write-message-end
    write-message-requires
    sub-zero
    part-zero-start
    part-zero-end
    zero-requires
    same_length
    returns)
