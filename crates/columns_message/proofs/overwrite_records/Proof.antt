-- The message, and zeros after it up to the old end. Assumes nothing.
use Prim.Native.Nat.{ℕ, ◌+◌, ◌≤◌, ◌<◌}
use native.Mathlib.Omega.{arith}
use mathlib.Core.Path.{◌≡◌, ap, ◌∙◌}
use lib.ListN.{length}
use borrow.Author.Rules.{rules}
use borrow.Rule.Slice.PartMut.{mid_len}
use Rattle.spec_file.specs.Bytes.{Bytes}
use Rattle.spec_file.specs.Limits.{most_image}
use Rattle.spec_file.specs.Image.{layout_of}
use Rattle.spec_file.specs.Messages.{length_at, message}
use Rattle.law_file.proofs.Opened.{opened-facts}
use Rattle.law_file.proofs.Effects.{message-end}
use Rattle.law_file.proofs.Stretch.{held-some}
use Rattle.spec_columns.specs.Columns.{columns}
use Rattle.law_columns.proofs.Turned.{length-stored}
use Rattle.header_layout.proofs.Shaped.{shape-head, head-width, head-range, width_is}
use Rattle.message_read.proofs.Sound.{length-tells}
use Rattle.columns_message.proofs.Written.{overwrite-known}
use Rattle.columns_message.proofs.overwrite_records.Statement.{statement}
use Rattle.columns_message.proofs.overwrite_records.Tie as tie

-- what the caller knows, by numbers
record Inside (img : Bytes) (o m head k : ℕ) : Type 0 where
  pub end : o + head + m ≤ length img
  pub short : k ≤ m
  pub size : length img ≤ most_image
  pub some' : 0 < o
  pub low : 4 ≤ head
  pub high : head ≤ 5

inside : (c : tie.Start)
    → let A = c.args in
    let img : Bytes = A.image.now in
    Inside img A.o.0 (length_at (layout_of img) img A.o.0) A.shape.head (1 + length A.records.now)
inside c =
    let img = c.args.image.now in
    let o = c.args.o.0 in
    let f = opened-facts img c.requires.0.accepted in
    let some₁ = c.requires.2 in
    record {
      end = omega (arith, shape-head c.requires.0, message-end img f o c.requires.1 (λ e. omega arith), f.free-high);
      short = omega (arith, c.requires.3, held-some (layout_of img) img o (λ e. omega arith));
      size = f.size-high;
      some' = some₁;
      low = (head-range c.requires.0).0;
      high = (head-range c.requires.0).1;
    }

at-requires : tie.Need-at-at-requires
at-requires c κs = search rules

add-old : tie.Need-overflow_add-old
add-old c = omega (arith, c.at-at.ensures, inside c.before.before.before)

abbrev start-at-length-at-arg : tie.After-at-at → tie.Start
start-at-length-at-arg c = c.before.before.before

length-at-requires : tie.Need-length_at-requires
length-at-requires c κs =
    let S = start-at-length-at-arg c in
    (S.requires.0, omega (arith, (inside S).end))

abbrev start-at-length-at : tie.After-length_at → tie.Start
start-at-length-at c = c.before.before.before.before

-- the same of the numbers that the code has read
ends : (c : tie.After-length_at)
    → let A = (start-at-length-at c).args in
    Inside A.image.now c.at-at.result c.length_at.result A.shape.head
    (1 + length A.records.now)
ends c =
    let i = inside (start-at-length-at c) in
    let m = c.length_at.ensures in
    let at = c.at-at.ensures in
    record {
      end = omega (arith, m, at, i.end);
      short = omega (arith, m, i.short);
      size = i.size;
      some' = omega (arith, at, i.some');
      low = i.low;
      high = i.high;
    }

add-old-2 : tie.Need-overflow_add-old-2
add-old-2 c = omega (arith, ends c)

add-end : tie.Need-overflow_add-end
add-end c = omega (arith, ends c)

add-end-2 : tie.Need-overflow_add-end-2
add-end-2 c = search rules

add-end-3 : tie.Need-overflow_add-end-3
add-end-3 c = omega (arith, ends c)

sub-write-records : tie.Need-slice_bounds-write_records-count
sub-write-records c = search rules

part-write-records-start : tie.Need-slice_bounds-write_records-start
part-write-records-start c = search rules

part-write-records-end : tie.Need-slice_bounds-write_records-end
part-write-records-end c = omega (arith, ends c)

abbrev start-at-write-records-arg : tie.After-write_records-arg-1 → tie.Start
start-at-write-records-arg c = c.before.before.before.before.before

abbrev slice-known-at-write-records-arg : tie.After-write_records-arg-1 → tie.After-slice_known-1
slice-known-at-write-records-arg c = c.before.before.before.before

write-records-requires : tie.Need-write_records-requires
write-records-requires c κs =
    let e = ends c.before in
    let S = start-at-write-records-arg c in
    let A = S.args in
    let at = c.at-at.result in
    let i = inside S in
    let tells =
    length-tells A.image.now A.shape S.requires.0 A.o.0 (1 + length A.records.now)
    (λ k. omega (arith, (slice-known-at-write-records-arg c).slice_known-1.given k)) (omega (arith, i.end))
    (omega (arith, i.short))
    in (
      tells,
      mid_len at (at + A.shape.head + (1 + length A.records.now)) A.image.now (omega arith) ∙ omega arith,
      S.requires.4,
    )

abbrev length-at-at-slice-known2 : tie.After-slice_known-2-1 → tie.After-length_at
length-at-at-slice-known2 c = c.before.before.before.before

sub-zero : tie.Need-slice_bounds-zero-count
sub-zero c = omega (arith, ends (length-at-at-slice-known2 c))

part-zero-start : tie.Need-slice_bounds-zero-start
part-zero-start c = omega (arith, ends (length-at-at-slice-known2 c))

part-zero-end : tie.Need-slice_bounds-zero-end
part-zero-end c = omega (arith, ends (length-at-at-slice-known2 c))

zero-requires : tie.Need-zero-requires
zero-requires c κs = search rules

same_length : tie.Need-shape_of-image
same_length c = search rules

abbrev write-records-at-slice-known3 : tie.After-slice_known-3-1 → tie.After-write_records
write-records-at-slice-known3 c = c.before.before.before.before.before.before

abbrev length-at-at-write-records : tie.After-write_records → tie.After-length_at
length-at-at-write-records c = c.before.before

returns : tie.Need-returns
returns c =
    let z = c.zero in
    let P = write-records-at-slice-known3 c in
    let L = length-at-at-write-records P in
    let at = L.at-at in
    let S = start-at-length-at L in
    let A = S.args in
    let img = A.image.now in
    let recs = A.records.now in
    let i = inside S in
    overwrite-known (layout_of img) img (columns A.width recs) (1 + length recs) A.shape.head
    (length-stored A.width recs S.requires.4) (head-width S.requires.0) P.write_records.new.space
    (P.write_records.ensures ∙ ap (λ (w : ℕ). message w (columns A.width recs)) (width_is S.requires.0))
    A.o.0 L.length_at.result S.requires.2 L.length_at.ensures (ends L).short
    (omega (arith, L.length_at.ensures, i.end))
    z.new.s at.result at.ensures z.ensures

pub overwrite_records_spec : {M : Type 1} → statement M
overwrite_records_spec =
    tie.close
    (tie.spec
    at-requires
    add-old
    length-at-requires
    add-old-2
    add-end
    add-end-2
    add-end-3
    sub-write-records
    part-write-records-start
    part-write-records-end
    write-records-requires
    sub-zero
    part-zero-start
    part-zero-end
    zero-requires
    same_length
    returns)
