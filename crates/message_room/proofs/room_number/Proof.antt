-- The two tests, by the shape's numbers. Assumes nothing.
use native.Mathlib.Omega.{arith}
use mathlib.Core.Path.{sym}
use borrow.Author.Rules.{rules}
use Rattle.spec_file.specs.Image.{layout_of}
use Rattle.law_file.proofs.Opened.{opened-facts}
use Rattle.header_layout.proofs.Shaped.{shape-head, shape-most, head-range, most-tells}
use Rattle.message_room.proofs.Rooms.{place-12, place-13, place-0}
use Rattle.message_room.proofs.room_number.Statement.{statement}
use Rattle.message_room.proofs.room_number.Tie as tie

most-length-requires : tie.Need-most_length-requires
most-length-requires c κs = search rules

returns : tie.Need-returns-then-most_length-m
returns c =
    let S = c in
    let img = S.args.image.now in
    λ t l.
    sym (place-12 (layout_of img) img t
    (omega (arith, c.if-most_length-m.true, c.most_length.ensures, l, shape-most S.requires)))

read-u32-requires : tie.Need-read_u32-free-requires
read-u32-requires c κs = omega (arith, (opened-facts _ c.requires.accepted).size_low)

cast-free : tie.Need-overflow_cast-free
cast-free c = search rules

abbrev start-at-struct-known : tie.After-struct_known-1 → tie.Start
start-at-struct-known c = c.before.before.before.before.before

add-if2 : tie.Need-overflow_add-free
add-if2 c =
    let S = (start-at-struct-known c) in
    let f = opened-facts _ S.requires.accepted in
    omega (arith, head-range S.requires, c.read_u32-free.ensures, f.free-high, f.size-high)

add-if2-2 : tie.Need-overflow_add-free-2
add-if2-2 c =
    let S = (start-at-struct-known c) in
    let f = opened-facts _ S.requires.accepted in
    omega (
      arith,
      head-range S.requires,
      (most-tells S.requires S.args.m
          (omega (arith, c.if-most_length-m.false, c.most_length.ensures))).small,
      c.if-most_length-m.false,
      c.read_u32-free.ensures,
      f.free-high,
      f.size-high,
    )

abbrev start-at-then2 : tie.Then-image-free → tie.Start
start-at-then2 c = c.before.before.before.before.before.before

returns-2 : tie.Need-returns-then-image-free
returns-2 c =
    let S = (start-at-then2 c) in
    let img = S.args.image.now in
    λ t l.
    sym (place-13 (layout_of img) img t (omega (
      arith,
      c.if-most_length-m.false,
      c.most_length.ensures,
      l,
      shape-most S.requires,
    ))
    (omega (arith, c.if-image-free.true, c.read_u32-free.ensures, l, shape-head S.requires)))

abbrev start-at-else2 : tie.Else-image-free → tie.Start
start-at-else2 c = c.before.before.before.before.before.before

returns-3 : tie.Need-returns
returns-3 c =
    let S = (start-at-else2 c) in
    let img = S.args.image.now in
    λ t l.
    sym (place-0 (layout_of img) img t (omega (
      arith,
      c.if-most_length-m.false,
      c.most_length.ensures,
      l,
      shape-most S.requires,
    ))
    (omega (arith, c.if-image-free.false, c.read_u32-free.ensures, l, shape-head S.requires)))

pub room_number_spec : {M : Type 1} → statement M
room_number_spec =
    tie.close
    (tie.spec
    most-length-requires
    returns
    read-u32-requires
    cast-free
    add-if2
    add-if2-2
    returns-2
    returns-3)
