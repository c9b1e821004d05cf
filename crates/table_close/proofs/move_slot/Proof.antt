-- `table_close::move_slot` meets its contract: the slot's bytes copied into the hole, and the slot zeroed.
-- Assumes nothing.
use native.Mathlib.Omega.{arith}
use mathlib.Core.Path.{◌≡◌, ◌∙◌}
use Rattle.spec_file.specs.Image.{layout_of, slot, put_slot}
use Rattle.table_search.proofs.Headers.{spot}
use Rattle.table_close.proofs.Walking.{code_apart, copied-slot, placed-code, moved-code}
use borrow.Author.Rules.{rules}
use Rattle.table_close.proofs.move_slot.Statement.{statement}
use Rattle.table_close.proofs.move_slot.Tie as tie

start-requires : tie.Need-start-requires
start-requires c κs =
    let S = c in
    let img = S.args.image.now in
    let s = S.args.shape in
    omega (arith, spot img s S.args.j.0 S.requires.0 S.requires.1.slot_lt)

at-requires : tie.Need-at-from-requires
at-requires c κs = search rules

start-requires-2 : tie.Need-start-requires-2
start-requires-2 c κs =
    let S = c in
    let img = S.args.image.now in
    let s = S.args.shape in
    omega (arith, spot img s S.args.hole.0 S.requires.0 S.requires.1.hole-lt)

at-requires-2 : tie.Need-at-to-requires
at-requires-2 c κs = search rules

add-copy-apart : tie.Need-overflow_add-size
add-copy-apart c =
    let S = c in
    let img = S.args.image.now in
    let s = S.args.shape in
    omega (arith, spot img s S.args.hole.0 S.requires.0 S.requires.1.hole-lt)

copy-apart-requires : tie.Need-copy_apart-requires
copy-apart-requires c κs =
    let S = c in
    let img = S.args.image.now in
    let s = S.args.shape in
    let ej = c.at-from.ensures ∙ c.start.ensures in
    let eh = c.at-to.ensures ∙ c.start-2.ensures in (
      code_apart img s S.requires.0.shape S.args.hole.0 S.args.j.0 _ _ ej eh S.requires.1.other,
      omega (arith, spot img s S.args.j.0 S.requires.0 S.requires.1.slot_lt),
      omega (arith, spot img s S.args.hole.0 S.requires.0 S.requires.1.hole-lt),
    )

-- the image half way: the entry stands in the hole too
half : (c : tie.After-copy_apart)
    → c.copy_apart.new.s
    ≡ put_slot (layout_of c.args.image.now)
    c.args.image.now
    c.args.hole.0
    (slot (layout_of c.args.image.now)
    c.args.image.now
    c.args.j.0)
half c =
    let S = c in
    let ej =
    c.at-from.ensures ∙ c.start.ensures in
    let eh = c.at-to.ensures ∙ c.start-2.ensures in
    c.copy_apart.ensures
    ∙ copied-slot S.args.image.now S.args.shape S.requires.0.shape S.args.hole.0 S.args.j.0 _ _ ej eh

clear-slot-requires : tie.Need-clear_slot-requires
clear-slot-requires c κs =
    let C = c.before.before.before in
    let S = c in (
      placed-code S.args.image.now _ S.args.shape S.args.hole.0 S.args.j.0 S.requires.0 S.requires.1
          (half C),
      S.requires.1.slot_lt,
    )

same_length : tie.Need-shape_of-image
same_length c = search rules

returns : tie.Need-returns
returns c =
    let C = c.before.before.before.before.before.before in
    let S = c in
    c.clear_slot.ensures
    ∙ moved-code S.args.image.now _ S.args.shape S.args.hole.0 S.args.j.0 S.requires.0 S.requires.1
    (half C)

pub move_slot_spec : {M : Type 1} → statement M
move_slot_spec =
    tie.close
    (tie.spec
    start-requires
    at-requires
    start-requires-2
    at-requires-2
    add-copy-apart
    copy-apart-requires
    clear-slot-requires
    same_length
    returns)
