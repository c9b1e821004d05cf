-- `convert_bare::carry_key` meets its contract: the slot's part is lent to `write_entry`. Assumes nothing.
use mathlib.Core.Path.{◌≡◌, sym, ap, ap₂, ◌∙◌}
use Prim.Native.Nat.{◌+◌, ◌-◌, ◌*◌, ◌≤◌, ◌<◌}
use native.Mathlib.Omega.{arith}
use lib.ListN.{length}
use borrow.Rule.Slice.PartMut.{mid_len}
use Rattle.spec_file.specs.Bytes.{store}
use Rattle.spec_file.specs.Limits.{table_start}
use Rattle.spec_file.specs.Image.{layout_of, slot_bytes}
use Rattle.law_file.proofs.Slots.{slot-end}
use Rattle.law_file.proofs.Stores.{store-lent}
use Rattle.spec_conversion.specs.Convert.{bare_slot}
use Rattle.table_search.proofs.Headers.{header, spot, room, layout-key, layout-slots, slot-place, slot-room}
use Rattle.convert_bare.proofs.Table.{length-key, bare-slot, length-bare_slot}
use borrow.Author.Rules.{rules}
use Rattle.convert_bare.proofs.carry_key.Statement.{statement}
use Rattle.convert_bare.proofs.carry_key.Tie as tie

-- the slot lies below the data area
low : (S : tie.Start) → S.args.i.0 < (layout_of S.args.source.now).N
low S = omega (arith, S.requires.2, layout-slots S.args.source.now S.args.shape S.requires.0.shape)

ends : (S : tie.Start)
    → table_start + S.args.i.0 * (S.args.shape.keylen + 4) + (S.args.shape.keylen + 4)
    ≤ length S.args.target.now
ends S =
    let src = S.args.source.now in
    let s = S.args.shape in
    let is = S.requires.0.shape in
    omega (
      arith,
      slot-end (layout_of src) (room src S.requires.0.accepted) S.args.i.0 (low S),
      slot-place src s is S.args.i.0,
      slot-room src s is,
      S.requires.1,
    )

start-requires : tie.Need-start-requires
start-requires c κs = let S = c in
    omega (arith, spot S.args.source.now S.args.shape S.args.i.0 S.requires.0 S.requires.2)

at-requires : tie.Need-at-a-requires
at-requires c κs = search rules

add-e : tie.Need-overflow_add-e
add-e c = let S = c in
    omega (arith, spot S.args.source.now S.args.shape S.args.i.0 S.requires.0 S.requires.2)

add-e-2 : tie.Need-overflow_add-e-2
add-e-2 c = let S = c in
    let src = S.args.source.now in
    let p = spot src S.args.shape S.args.i.0 S.requires.0 S.requires.2 in
    omega (arith, p, (header src S.args.shape S.requires.0).size-high, c.at-a.ensures, c.start.ensures)

key-of-requires : tie.Need-key_of-key-requires
key-of-requires c κs = search rules

sub-write-entry : tie.Need-slice_bounds-write_entry-count
sub-write-entry c = search rules

part-write-entry-start : tie.Need-slice_bounds-write_entry-start
part-write-entry-start c = search rules

part-write-entry-end : tie.Need-slice_bounds-write_entry-end
part-write-entry-end c = let A = c in
    let S = c.before.before.before.before.before in
    omega (arith, ends S, A.at-a.ensures, A.start.ensures)

new-requires : tie.Need-new-requires
new-requires c κs = search rules

write-entry-requires : tie.Need-write_entry-requires
write-entry-requires c κs = let K = c in
    let A = c in
    let S = c.before.before.before.before.before.before.before in
    let src = S.args.source.now in
    let s = S.args.shape in
    let a = A.at-a.result in
    let size : length K.key_of-key.result.now ≡ s.keylen =
    ap length K.key_of-key.ensures
    ∙ length-key (layout_of src) src (room src S.requires.0.accepted) S.args.i.0 (low S)
    ∙ layout-key src s S.requires.0.shape in (
      mid_len a (a + (s.keylen + 4)) S.args.target.now
          (omega (arith, ends S, A.at-a.ensures, A.start.ensures))
          ∙ omega (arith, size),
      omega (arith, c.new.ensures),
    )

same_length : tie.Need-shape_of-target
same_length c = search rules

returns : tie.Need-returns
returns c = let W = c in
    let N = c in
    let A = c in
    let S = c.before.before.before.before.before.before.before.before.before.before in
    let src = S.args.source.now in
    let g = layout_of src in
    let s = S.args.shape in
    let i = S.args.i.0 in
    let a = A.at-a.result in
    let t = S.args.target.now in
    let r = room src S.requires.0.accepted in
    let is = S.requires.0.shape in
    let v : W.write_entry.new.part ≡ bare_slot g src i =
    W.write_entry.ensures
    ∙ ap₂ slot_bytes N.key_of-key.ensures N.new.ensures
    ∙ bare-slot g src r i (low S) in
    let size : length W.write_entry.new.part ≡ a + (s.keylen + 4) - a =
    ap length v ∙ omega (arith, length-bare_slot g src r i (low S), slot-room src s is) in
    store-lent t a (a + (s.keylen + 4)) W.write_entry.new.part size
    ∙ ap₂ (store t) (A.at-a.ensures ∙ A.start.ensures ∙ sym (slot-place src s is i)) v

pub carry_key_spec : {M : Type 1} → statement M
carry_key_spec =
    tie.close
    (tie.spec
    start-requires
    at-requires
    add-e
    add-e-2
    key-of-requires
    sub-write-entry
    part-write-entry-start
    part-write-entry-end
    new-requires
    write-entry-requires
    same_length
    returns)
