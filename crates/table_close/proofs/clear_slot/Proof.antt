-- `table_close::clear_slot` meets its contract: the slot's part is lent to `clear`, and comes back as a blank.
-- Assumes nothing.
use Prim.Native.Nat.{◌+◌, ◌-◌}
use native.Mathlib.Omega.{arith}
use mathlib.Core.Path.{◌≡◌, refl, sym, ap, ◌∙◌}
use borrow.Rule.Slice.PartMut.{put_mid, mid_len}
use Rattle.spec_file.specs.Bytes.{Bytes, zeros}
use Rattle.spec_file.specs.Image.{layout_of, blank}
use Rattle.law_file.proofs.Slots.{length-blank}
use Rattle.table_search.proofs.Headers.{spot-placed, slot-room, put-slot}
use borrow.Author.Rules.{rules}
use Rattle.table_close.proofs.clear_slot.Statement.{statement}
use Rattle.table_close.proofs.clear_slot.Tie as tie

start-requires : tie.Need-start-requires
start-requires c κs = search rules

at-requires : tie.Need-at-a-requires
at-requires c κs = search rules

add-e : tie.Need-overflow_add-e
add-e c = search rules

add-e-2 : tie.Need-overflow_add-e-2
add-e-2 c =
    let S = c in
    let img = S.args.image.now in
    let s = S.args.shape in
    omega (arith, spot-placed img s S.args.i.0 S.requires.0 S.requires.1, c.at-a.ensures, c.start.ensures)

sub-clear : tie.Need-slice_bounds-clear-count
sub-clear c = search rules

part-clear-start : tie.Need-slice_bounds-clear-start
part-clear-start c = search rules

part-clear-end : tie.Need-slice_bounds-clear-end
part-clear-end c =
    let S = c in
    let img = S.args.image.now in
    let s = S.args.shape in
    omega (arith, spot-placed img s S.args.i.0 S.requires.0 S.requires.1, c.at-a.ensures, c.start.ensures)

clear-requires : tie.Need-clear-requires
clear-requires c κs = search rules

same_length : tie.Need-shape_of-image
same_length c = search rules

returns : tie.Need-returns
unfolding blank
returns c =
    let S = c in
    let s = S.args.shape in
    let img = S.args.image.now in
    let p = spot-placed img s S.args.i.0 S.requires.0 S.requires.1 in
    let a = c.at-a.result in
    let e = a + (s.keylen + 4) in
    let at =
    c.at-a.ensures ∙ c.start.ensures in
    let m : e - a ≡ s.keylen + 4 = omega arith in
    let size = mid_len a e img (omega arith) ∙ m in
    ap (λ (v : Bytes). put_mid a (e - a) img v)
    (c.clear.ensures ∙ ap zeros (size ∙ sym (slot-room img s S.requires.0.shape)))
    ∙ put-slot img s S.requires.0.shape S.args.i.0 a at e (blank (layout_of img)) refl
    (length-blank (layout_of img) ∙ slot-room img s S.requires.0.shape)

pub clear_slot_spec : {M : Type 1} → statement M
clear_slot_spec =
    tie.close
    (tie.spec
    start-requires
    at-requires
    add-e
    add-e-2
    sub-clear
    part-clear-start
    part-clear-end
    clear-requires
    same_length
    returns)
