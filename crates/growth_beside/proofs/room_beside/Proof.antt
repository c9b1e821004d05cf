-- The three tests, by the shape's numbers; the old image's space is added last. Assumes nothing.
use native.Mathlib.Omega.{arith}
use mathlib.Core.Path.{◌≡◌, sym, ap, ◌∙◌}
use lib.ListN.{length}
use Rattle.spec_file.specs.Image.{layout_of}
use Rattle.law_file.proofs.Opened.{opened-facts}
use Rattle.header_layout.proofs.Shaped.{shape-head, shape-most, head-range, most-tells}
use Rattle.growth_beside.specs.Rooms.{place_of}
use Rattle.growth_beside.proofs.Places.{room-12, room-13, room_0}
use borrow.Author.Rules.{rules}
use Rattle.growth_beside.proofs.room_beside.Statement.{statement}
use Rattle.growth_beside.proofs.room_beside.Tie as tie

most-length-requires : tie.Need-most_length-requires
most-length-requires c κs = search rules

returns : tie.Need-returns-then-most_length-m
returns c =
    let S = c in
    let A = S.args in
    let Q = place_of A.old.now A.new.now A.named.0 A.moved in
    λ t l.
    sym (room-12 Q (layout_of A.new.now) (length A.new.now) t
    (omega (arith, c.if-most_length-m.true, c.most_length.ensures, l, shape-most S.requires.1)))

read-u32-requires : tie.Need-read_u32-free-requires
read-u32-requires c κs =
    omega (arith, (opened-facts _ c.requires.1.accepted).size_low)

cast-free : tie.Need-overflow_cast-free
cast-free c = search rules

add-end : tie.Need-overflow_add-end
add-end c = search rules

add-end-2 : tie.Need-overflow_add-end-2
add-end-2 c =
    let S = c in
    let f = opened-facts _ S.requires.1.accepted in
    omega (arith, head-range S.requires.1, c.read_u32-free.ensures, f.free-high, f.size-high)

add-end-3 : tie.Need-overflow_add-end-3
add-end-3 c =
    let S = c in
    let f = opened-facts _ S.requires.1.accepted in
    let short = most-tells S.requires.1 S.args.m
    (omega (arith, c.if-most_length-m.false, c.most_length.ensures)) in
    omega (arith, head-range S.requires.1, short.small, c.read_u32-free.ensures, f.free-high, f.size-high)

returns-2 : tie.Need-returns-then-new-end
returns-2 c =
    let short = c.if-most_length-m.false in
    let most = c.most_length.ensures in
    let S = c in
    let A = S.args in
    let Q = place_of A.old.now A.new.now A.named.0 A.moved in
    λ t l.
    sym (room-13 Q (layout_of A.new.now) (length A.new.now) t
    (omega (arith, short, most, l, shape-most S.requires.1))
    (omega (arith, c.if-new-end.true, c.read_u32-free.ensures, l, shape-head S.requires.1)))

active-space-requires : tie.Need-active_space-space-requires
active-space-requires c κs = search rules

sub-if3 : tie.Need-overflow_sub-new
sub-if3 c = search rules

abbrev start-at-shared-slice-known2 : tie.After-shared_slice_known-2-1 → tie.Start
start-at-shared-slice-known2 c = c.before.before

abbrev start-at-then3 : tie.Then-new-end-2 → tie.Start
start-at-then3 c = c.before.before.before.before.before.before.before.before.before

returns-3 : tie.Need-returns-then-new-end-2
returns-3 c =
    let short = c.if-most_length-m.false in
    let most = c.most_length.ensures in
    let free = c.read_u32-free.ensures in
    let space = c.active_space-space.ensures in
    let S = (start-at-then3 c) in
    let A = S.args in
    let Q = place_of A.old.now A.new.now A.named.0 A.moved in
    λ t l.
    sym (room-13 Q (layout_of A.new.now) (length A.new.now) t
    (omega (arith, short, most, l, shape-most S.requires.1))
    (omega (arith, c.if-new-end-2.true, c.if-new-end.false, space, free, l, shape-head S.requires.1)))

abbrev start-at-else3 : tie.Else-new-end-2 → tie.Start
start-at-else3 c = c.before.before.before.before.before.before.before.before.before

returns-4 : tie.Need-returns
returns-4 c =
    let short = c.if-most_length-m.false in
    let most = c.most_length.ensures in
    let free = c.read_u32-free.ensures in
    let space = c.active_space-space.ensures in
    let S = (start-at-else3 c) in
    let A = S.args in
    let Q = place_of A.old.now A.new.now A.named.0 A.moved in
    λ t l.
    sym (room_0 Q (layout_of A.new.now) (length A.new.now) t
    (omega (arith, short, most, l, shape-most S.requires.1))
    (omega (arith, c.if-new-end-2.false, c.if-new-end.false, space, free, l, shape-head S.requires.1)))

pub room_beside_spec : {M : Type 1} → statement M
room_beside_spec =
    tie.close
    (tie.spec
    most-length-requires
    returns
    read-u32-requires
    cast-free
    add-end
    add-end-2
    add-end-3
    returns-2
    active-space-requires
    sub-if3
    returns-3
    returns-4)
