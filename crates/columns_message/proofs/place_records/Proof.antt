-- The message is written at X, and X and M after it. Assumes nothing.
use Prim.Native.Nat.{ℕ, ◌+◌, ◌-◌, ◌≤◌, ◌<◌}
use native.Mathlib.Omega.{arith}
use mathlib.Core.Path.{◌≡◌, ap, ◌∙◌}
use lib.ListN.{length}
use borrow.Author.Rules.{rules}
use borrow.Rule.Slice.PartMut.{mid_len, same_len_mid}
use Rattle.spec_file.specs.Bytes.{Bytes}
use Rattle.spec_file.specs.Limits.{free_field}
use Rattle.spec_file.specs.Image.{field, layout_of}
use Rattle.spec_file.specs.Messages.{message, set_free}
use Rattle.law_file.proofs.Opened.{Opened, opened-facts}
use Rattle.spec_columns.specs.Columns.{columns}
use Rattle.law_columns.proofs.Turned.{length-stored}
use Rattle.header_layout.specs.Shapes.{Tells}
use Rattle.header_layout.proofs.Shaped.{shape-area, area-field, head-width, width_is, most-tells}
use Rattle.columns_message.proofs.Written.{place-known}
use Rattle.columns_message.proofs.place_records.Statement.{statement}
use Rattle.columns_message.proofs.place_records.Tie as tie

-- what the caller knows, by numbers
record Known (img : Bytes) (head k : ℕ) : Type 0 where
  pub opened : Opened img
  pub small : Tells head k
  pub is-head : head ≡ (layout_of img).W + 1
  pub room : field img free_field + head + k ≤ length img

known : (c : tie.Start)
    → Known c.args.image.now c.args.shape.head (1 + length c.args.records.now)
known c =
    record {
      opened = opened-facts _ c.requires.0.accepted;
      small = most-tells c.requires.0 _ c.requires.1.small;
      is-head = head-width c.requires.0;
      room = c.requires.1.room;
    }

abbrev start-at-read-u32-arg : tie.After-area-1 → tie.Start
start-at-read-u32-arg c = c.before.before.before

read-u32-requires : tie.Need-read_u32-free-requires
read-u32-requires c κs = omega (arith, (known (start-at-read-u32-arg c)).opened.size_low)

cast-free : tie.Need-overflow_cast-free
cast-free c = search rules

add-end : tie.Need-overflow_add-end
add-end c = search rules

add-end-2 : tie.Need-overflow_add-end-2
add-end-2 c = search rules

add-end-3 : tie.Need-overflow_add-end-3
add-end-3 c = search rules

sub-write-records : tie.Need-slice_bounds-write_records-count
sub-write-records c = search rules

part-write-records-start : tie.Need-slice_bounds-write_records-start
part-write-records-start c = search rules

part-write-records-end : tie.Need-slice_bounds-write_records-end
part-write-records-end c = search rules

abbrev start-at-read-u32 : tie.After-read_u32-free → tie.Start
start-at-read-u32 c = c.before.before.before.before

write-records-requires : tie.Need-write_records-requires
write-records-requires c κs =
    let S = start-at-read-u32 c.before in
    let A = S.args in
    let k = known S in
    let x = c.read_u32-free in
    let end = x.result + A.shape.head + (1 + length A.records.now) in (
      k.small,
      mid_len x.result end A.image.now (omega (arith, x.ensures, k.room)) ∙ omega arith,
      S.requires.2,
    )

new-requires : tie.Need-new-requires
new-requires c κs = search rules

abbrev write-records-at-new : tie.After-new → tie.After-write_records
write-records-at-new c = c.before.before.before.before

abbrev read-u32-at-write-records : tie.After-write_records → tie.After-read_u32-free
read-u32-at-write-records c = c.before.before

set-free-requires : tie.Need-set_free-requires
set-free-requires c κs =
    let P = write-records-at-new c in
    let w = P.write_records in
    let R = read-u32-at-write-records P in
    let x = R.read_u32-free in
    let S = start-at-read-u32 R in
    let A = S.args in
    let k = known S in
    let f = k.opened in
    let end = x.result + A.shape.head + (1 + length A.records.now) in
    let kept = same_len_mid x.result (end - x.result) A.image.now w.new.space w.auto.space in (
      omega (arith, kept, f.size_low),
      omega (arith, c.new.ensures, x.ensures, area-field S.requires.0, f.free-low),
      omega (arith, c.new.ensures, x.ensures, k.room, f.size-high),
    )

same_length : tie.Need-shape_of-image
same_length c = search rules

abbrev new-at-slice-known3 : tie.After-slice_known-3-1 → tie.After-new
new-at-slice-known3 c = c.before.before.before

returns : tie.Need-returns
returns c =
    let N = new-at-slice-known3 c in
    let P = write-records-at-new N in
    let R = read-u32-at-write-records P in
    let S = start-at-read-u32 R in
    let A = S.args in
    let img = A.image.now in
    let recs = A.records.now in
    c.set_free.ensures
    ∙ ap (set_free A.shape.area.0 _) N.new.ensures
    ∙ place-known (layout_of img) img (columns A.width recs) (1 + length recs) A.shape.head
    (length-stored A.width recs S.requires.2) (known S).is-head P.write_records.new.space
    (P.write_records.ensures ∙ ap (λ (w : ℕ). message w (columns A.width recs)) (width_is S.requires.0))
    R.read_u32-free.result A.shape.area.0 R.read_u32-free.ensures (shape-area S.requires.0)

pub place_records_spec : {M : Type 1} → statement M
place_records_spec =
    tie.close
    (tie.spec
    read-u32-requires
    cast-free
    add-end
    add-end-2
    add-end-3
    sub-write-records
    part-write-records-start
    part-write-records-end
    write-records-requires
    new-requires
    set-free-requires
    same_length
    returns)
