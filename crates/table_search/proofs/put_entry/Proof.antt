-- `table_search::put_entry` meets its contract: the slot's part is lent to `write_entry`, and comes back as the entry.
-- Assumes nothing.
use Prim.Native.Nat.{ℕ, ◌+◌, ◌-◌}
use native.Mathlib.Omega.{arith}
use mathlib.Core.Path.{◌≡◌, refl, ap, ap₂, ◌∙◌}
use lib.ListN.{length, length-append}
use borrow.Rule.Slice.PartMut.{put_mid, mid_len}
use Rattle.spec_file.specs.Bytes.{Bytes, digits}
use Rattle.spec_file.specs.Image.{slot_bytes}
use Rattle.law_file.proofs.Bytes.{length_digits}
use Rattle.table_search.proofs.Headers.{spot-placed, put-slot}
use borrow.Author.Rules.{rules}
use Rattle.table_search.proofs.put_entry.Statement.{statement}
use Rattle.table_search.proofs.put_entry.Tie as tie

length-entry' : (key : Bytes) (o k : ℕ) → length key ≡ k → length (slot_bytes key o) ≡ k + 4
unfolding slot_bytes
length-entry' key o k e = length-append key (digits 4 o) ∙ ap₂ ◌+◌ e (length_digits 4 o)

start-requires : tie.Need-start-requires
start-requires c κs =
    let S = c in
    let img = S.args.image.now in
    let s = S.args.shape in
    omega (arith, spot-placed img s S.args.i.0 S.requires.0 S.requires.1)

at-requires : tie.Need-at-a-requires
at-requires c κs = search rules

add-e : tie.Need-overflow_add-e
add-e c =
    let S = c in
    let img = S.args.image.now in
    let s = S.args.shape in
    omega (arith, spot-placed img s S.args.i.0 S.requires.0 S.requires.1, c.at-a.ensures, c.start.ensures)

add-e-2 : tie.Need-overflow_add-e-2
add-e-2 c =
    let S = c in
    let img = S.args.image.now in
    let s = S.args.shape in
    omega (arith, spot-placed img s S.args.i.0 S.requires.0 S.requires.1, c.at-a.ensures, c.start.ensures)

sub-write-entry : tie.Need-slice_bounds-write_entry-count
sub-write-entry c = search rules

part-write-entry-start : tie.Need-slice_bounds-write_entry-start
part-write-entry-start c = search rules

part-write-entry-end : tie.Need-slice_bounds-write_entry-end
part-write-entry-end c =
    let S = c in
    let img = S.args.image.now in
    let s = S.args.shape in
    omega (arith, spot-placed img s S.args.i.0 S.requires.0 S.requires.1, c.at-a.ensures, c.start.ensures)

write-entry-requires : tie.Need-write_entry-requires
write-entry-requires c κs =
    let S = c in
    let img = S.args.image.now in
    let s = S.args.shape in
    let p = spot-placed img s S.args.i.0 S.requires.0 S.requires.1 in
    let a = c.at-a.result in
    let at = c.at-a.ensures ∙ c.start.ensures in
    (mid_len a (a + (s.keylen + 4)) img (omega arith) ∙ omega arith, S.requires.3)

same_length : tie.Need-shape_of-image
same_length c = search rules

returns : tie.Need-returns
returns c =
    let P = c in
    let S = c in
    let img = S.args.image.now in
    let s = S.args.shape in
    let key = S.args.key.now in
    let a = P.at-a.result in
    ap (λ (v : Bytes). put_mid a (a + (s.keylen + 4) - a) img v) c.write_entry.ensures
    ∙ put-slot img s S.requires.0.shape S.args.i.0 a
    (P.at-a.ensures ∙ P.start.ensures) (a + (s.keylen + 4))
    (slot_bytes key S.args.offset.0) refl
    (length-entry' key S.args.offset.0 s.keylen S.requires.2)

pub put_entry_spec : {M : Type 1} → statement M
put_entry_spec =
    tie.close
    (tie.spec
    start-requires
    at-requires
    add-e
    add-e-2
    sub-write-entry
    part-write-entry-start
    part-write-entry-end
    write-entry-requires
    same_length
    returns)
