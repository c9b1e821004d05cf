-- `table_search::set_offset` meets its contract: the field behind the slot's key is written. Assumes nothing.
use Prim.Native.Nat.{ℕ, ◌+◌, ◌≤◌}
use native.Mathlib.Omega.{arith}
use mathlib.Core.Path.{◌≡◌, sym, ap₂, ◌∙◌}
use lib.ListN.{length}
use borrow.Author.Rules.{rules}
use Rattle.spec_file.specs.Image.{set_field, layout_of, slot_size, slot_start}
use Rattle.table_search.specs.Slots.{with_offset}
use Rattle.table_search.proofs.Headers.{layout-key, slot-place, slot-room, spot-placed, offset-written}
use Rattle.table_search.proofs.set_offset.Statement.{statement}
use Rattle.table_search.proofs.set_offset.Tie as tie

start-requires : tie.Need-start-requires
start-requires c κs = search rules

at-requires : tie.Need-at-a-requires
at-requires c κs = search rules

add-write-u32 : tie.Need-overflow_add-a
add-write-u32 c =
    let S = c in
    omega (
      arith,
      spot-placed S.args.image.now S.args.shape S.args.i.0 S.requires.0 S.requires.1,
      c.at-a.ensures,
      c.start.ensures,
    )

at-requires-2 : tie.Need-at-requires
at-requires-2 c κs = search rules

cast-write-u32 : tie.Need-overflow_cast-at
cast-write-u32 c = search rules

write-u32-requires : tie.Need-write_u32-requires
write-u32-requires c κs =
    let P = c in
    let S = c in
    omega (
      arith,
      spot-placed S.args.image.now S.args.shape S.args.i.0 S.requires.0 S.requires.1,
      P.at-a.ensures,
      P.start.ensures,
    )

same_length : tie.Need-shape_of-image
same_length c = search rules

returns : tie.Need-returns
unfolding with_offset
returns c =
    let W = c in
    let O = c in
    let P = c in
    let S = c in
    let img = S.args.image.now in
    let s = S.args.shape in
    let i = S.args.i.0 in
    let is = S.requires.0.shape in
    let p = spot-placed img s i S.requires.0 S.requires.1 in
    let room : slot_start (layout_of img) i + slot_size (layout_of img) ≤ length img =
    omega (arith, slot-place img s is i, slot-room img s is, p.ends) in
    W.write_u32.ensures
    ∙ ap₂ (set_field img)
    (ap₂ ◌+◌ (P.at-a.ensures ∙ P.start.ensures ∙ sym (slot-place img s is i)) (sym (layout-key img s is)))
    O.at.ensures
    ∙ offset-written (layout_of img) img i S.args.o.0 room

pub set_offset_spec : {M : Type 1} → statement M
set_offset_spec =
    tie.close
    (tie.spec
    start-requires
    at-requires
    add-write-u32
    at-requires-2
    cast-write-u32
    write-u32-requires
    same_length
    returns)
