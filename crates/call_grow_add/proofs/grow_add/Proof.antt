-- A refusal leaves both images; else the named point moves, the add follows, then the moves. Assumes nothing.
use mathlib.Core.Path.{sym, ◌∙◌}
use Rattle.growth_ready.proofs.Acting.{grown-refused}
use Rattle.spec_growth.specs.Growth.{grow_add}
use Rattle.call_grow_add.proofs.Growing.{both-opened, names, no-refusal, asked, left}
use borrow.Author.Rules.{rules}
use Rattle.call_grow_add.proofs.grow_add.Statement.{statement}
use Rattle.call_grow_add.proofs.grow_add.Tie as tie

add-number-requires : tie.Need-add_number-number-requires
add-number-requires c κs = search rules

same_length : tie.Need-shape_of-old-then-number-ne0
same_length c = search rules

same-length-2 : tie.Need-shape_of-new-then-number-ne0
same-length-2 c = search rules

abbrev start-at-slice-known : tie.After-slice_known-1 → tie.Start
start-at-slice-known c = c.before

abbrev start-at-then1 : tie.Then-number-ne0 → tie.Start
start-at-then1 c = c.before.before.before.before.before.before

returns : tie.Need-returns-then-number-ne0
unfolding grow_add
returns c =
    let A = (start-at-then1 c).args in
    grown-refused A.old.now A.new.now _ _ c.add_number-number.result c.add_number-number.ensures
    c.if-number-ne0.true

abbrev start-at-slice-known2 : tie.After-slice_known-2-1 → tie.Start
start-at-slice-known2 c = c.before.before

abbrev start-at-read-shape-arg : tie.Else-number-ne0 → tie.Start
start-at-read-shape-arg c = c.before.before.before.before.before.before

read-shape-requires : tie.Need-read_shape-shape-requires
read-shape-requires c κs =
    let A = (start-at-read-shape-arg c).args in
    (both-opened A.old.now A.new.now A.key.now A.bytes.now A.mode
    (sym c.add_number-number.ensures ∙ c.if-number-ne0.false)).first

abbrev start-at-shared-slice-known2 : tie.After-shared_slice_known-2-1 → tie.Start
start-at-shared-slice-known2 c = c.before.before.before.before

abbrev start-at-read-shape-arg2 : tie.After-read_shape-shape → tie.Start
start-at-read-shape-arg2 c = c.before.before.before.before.before.before.before

read-shape-requires-2 : tie.Need-read_shape-larger-requires
read-shape-requires-2 c κs =
    let A = (start-at-read-shape-arg2 c).args in
    (both-opened A.old.now A.new.now A.key.now A.bytes.now A.mode
    (sym c.add_number-number.ensures ∙ c.if-number-ne0.false)).second

abbrev start-at-add-number : tie.After-add_number-number → tie.Start
start-at-add-number c = c.before.before.before.before.before

abbrev start-at-move-named-arg2 : tie.After-move_named-arg-2-1 → tie.Start
start-at-move-named-arg2 c = c.before.before.before.before.before.before.before.before.before.before

move-named-requires : tie.Need-move_named-requires
move-named-requires c κs =
    let A = (start-at-move-named-arg2 c).args in
    let z = sym c.add_number-number.ensures
    ∙ c.if-number-ne0.false in (
      names A.old.now A.new.now A.key.now A.bytes.now A.mode z _ _
          c.read_shape-shape.ensures
          c.read_shape-larger.ensures,
      no-refusal A.old.now A.new.now A.key.now A.bytes.now A.mode z,
    )

add-requires : tie.Need-add-requires
add-requires c κs = search rules

abbrev start-at-new : tie.After-new-1 → tie.Start
start-at-new c = c.before.before.before.before.before.before.before.before.before.before.before.before.before.before

abbrev start-at-move-some-arg2 : tie.After-move_some-arg-2-1 → tie.Start
start-at-move-some-arg2 c = c.before.before.before.before.before.before.before.before.before.before.before.before.before.before.before.before.before.before.before.before.before

abbrev add-number-at-read-shape-arg2 : tie.After-read_shape-shape → tie.After-add_number-number
add-number-at-read-shape-arg2 c = c.before.before

abbrev add-number-at-new : tie.After-new-1 → tie.After-add_number-number
add-number-at-new c = c.before.before.before.before.before.before.before.before.before

abbrev add-number-at-move-some-arg2 : tie.After-move_some-arg-2-1 → tie.After-add_number-number
add-number-at-move-some-arg2 c = c.before.before.before.before.before.before.before.before.before.before.before.before.before.before.before.before

abbrev else1-at-read-shape-arg2 : tie.After-read_shape-shape → tie.Else-number-ne0
else1-at-read-shape-arg2 c = c.before

abbrev else1-at-new : tie.After-new-1 → tie.Else-number-ne0
else1-at-new c = c.before.before.before.before.before.before.before.before

abbrev else1-at-move-some-arg2 : tie.After-move_some-arg-2-1 → tie.Else-number-ne0
else1-at-move-some-arg2 c = c.before.before.before.before.before.before.before.before.before.before.before.before.before.before.before

abbrev read-shape-at-read-shape-arg2 : tie.After-read_shape-shape → tie.After-read_shape-shape
read-shape-at-read-shape-arg2 c = c

abbrev read-shape-at-new : tie.After-new-1 → tie.After-read_shape-shape
read-shape-at-new c = c.before.before.before.before.before.before.before

abbrev read-shape-at-move-some-arg2 : tie.After-move_some-arg-2-1 → tie.After-read_shape-shape
read-shape-at-move-some-arg2 c = c.before.before.before.before.before.before.before.before.before.before.before.before.before.before

abbrev read-shape2-at-new : tie.After-new-1 → tie.After-read_shape-larger
read-shape2-at-new c = c.before.before.before.before.before.before

abbrev read-shape2-at-move-some-arg2 : tie.After-move_some-arg-2-1 → tie.After-read_shape-larger
read-shape2-at-move-some-arg2 c = c.before.before.before.before.before.before.before.before.before.before.before.before.before

abbrev move-named-at-new : tie.After-new-1 → tie.After-move_named
move-named-at-new c = c.before.before.before

abbrev move-named-at-move-some-arg2 : tie.After-move_some-arg-2-1 → tie.After-move_named
move-named-at-move-some-arg2 c = c.before.before.before.before.before.before.before.before.before.before

move-some-requires : tie.Need-move_some-requires
move-some-requires c κs =
    let A = (start-at-move-some-arg2 c).args in
    let z = sym (add-number-at-move-some-arg2 c).add_number-number.ensures ∙ (else1-at-move-some-arg2 c).if-number-ne0.false in
    asked A.old.now A.new.now A.key.now A.bytes.now A.mode z _ _
    (read-shape-at-move-some-arg2 c).read_shape-shape.ensures
    (read-shape2-at-move-some-arg2 c).read_shape-larger.ensures _ _ _
    (move-named-at-move-some-arg2 c).move_named.ensures c.add.ensures.1

same-length-3 : tie.Need-shape_of-old
same-length-3 c = search rules

same-length-4 : tie.Need-shape_of-new
same-length-4 c = search rules

abbrev start-at-old : tie.After-old-1 → tie.Start
start-at-old c = c.before.before.before.before.before.before.before.before.before.before.before.before

abbrev start-at-slice-known5 : tie.After-slice_known-5-1 → tie.Start
start-at-slice-known5 c = c.before.before.before.before.before.before.before.before.before.before.before.before.before.before.before.before.before.before.before

abbrev start-at-slice-known7 : tie.After-slice_known-7-1 → tie.Start
start-at-slice-known7 c = c.before.before.before.before.before.before.before.before.before.before.before.before.before.before.before.before.before.before.before.before.before.before.before.before.before.before

abbrev add-number-at-read-shape-arg : tie.Else-number-ne0 → tie.After-add_number-number
add-number-at-read-shape-arg c = c.before

abbrev add-number-at-old : tie.After-old-1 → tie.After-add_number-number
add-number-at-old c = c.before.before.before.before.before.before.before

abbrev add-number-at-slice-known5 : tie.After-slice_known-5-1 → tie.After-add_number-number
add-number-at-slice-known5 c = c.before.before.before.before.before.before.before.before.before.before.before.before.before.before

abbrev add-number-at-slice-known7 : tie.After-slice_known-7-1 → tie.After-add_number-number
add-number-at-slice-known7 c = c.before.before.before.before.before.before.before.before.before.before.before.before.before.before.before.before.before.before.before.before.before

abbrev else1-at-read-shape-arg : tie.Else-number-ne0 → tie.Else-number-ne0
else1-at-read-shape-arg c = c

abbrev else1-at-old : tie.After-old-1 → tie.Else-number-ne0
else1-at-old c = c.before.before.before.before.before.before

abbrev else1-at-slice-known5 : tie.After-slice_known-5-1 → tie.Else-number-ne0
else1-at-slice-known5 c = c.before.before.before.before.before.before.before.before.before.before.before.before.before

abbrev else1-at-slice-known7 : tie.After-slice_known-7-1 → tie.Else-number-ne0
else1-at-slice-known7 c = c.before.before.before.before.before.before.before.before.before.before.before.before.before.before.before.before.before.before.before.before

abbrev read-shape-at-old : tie.After-old-1 → tie.After-read_shape-shape
read-shape-at-old c = c.before.before.before.before.before

abbrev read-shape-at-slice-known5 : tie.After-slice_known-5-1 → tie.After-read_shape-shape
read-shape-at-slice-known5 c = c.before.before.before.before.before.before.before.before.before.before.before.before

abbrev read-shape-at-slice-known7 : tie.After-slice_known-7-1 → tie.After-read_shape-shape
read-shape-at-slice-known7 c = c.before.before.before.before.before.before.before.before.before.before.before.before.before.before.before.before.before.before.before

abbrev read-shape2-at-old : tie.After-old-1 → tie.After-read_shape-larger
read-shape2-at-old c = c.before.before.before.before

abbrev read-shape2-at-slice-known5 : tie.After-slice_known-5-1 → tie.After-read_shape-larger
read-shape2-at-slice-known5 c = c.before.before.before.before.before.before.before.before.before.before.before

abbrev read-shape2-at-slice-known7 : tie.After-slice_known-7-1 → tie.After-read_shape-larger
read-shape2-at-slice-known7 c = c.before.before.before.before.before.before.before.before.before.before.before.before.before.before.before.before.before.before

abbrev move-named-at-old : tie.After-old-1 → tie.After-move_named
move-named-at-old c = c.before

abbrev move-named-at-slice-known5 : tie.After-slice_known-5-1 → tie.After-move_named
move-named-at-slice-known5 c = c.before.before.before.before.before.before.before.before

abbrev move-named-at-slice-known7 : tie.After-slice_known-7-1 → tie.After-move_named
move-named-at-slice-known7 c = c.before.before.before.before.before.before.before.before.before.before.before.before.before.before.before

abbrev add-at-slice-known5 : tie.After-slice_known-5-1 → tie.After-add
add-at-slice-known5 c = c.before.before

abbrev add-at-slice-known7 : tie.After-slice_known-7-1 → tie.After-add
add-at-slice-known7 c = c.before.before.before.before.before.before.before.before.before

returns-2 : tie.Need-returns
returns-2 c =
    let A = (start-at-slice-known7 c).args in
    let z = sym (add-number-at-slice-known7 c).add_number-number.ensures ∙ (else1-at-slice-known7 c).if-number-ne0.false in
    left A.old.now A.new.now A.key.now A.bytes.now A.mode z _ _
    (read-shape-at-slice-known7 c).read_shape-shape.ensures
    (read-shape2-at-slice-known7 c).read_shape-larger.ensures _ _ _ (move-named-at-slice-known7 c).move_named.ensures
    (add-at-slice-known7 c).add.ensures.1 _ _ c.move_some.ensures

pub grow_add_spec : {M : Type 1} → statement M
grow_add_spec =
    tie.close
    (tie.spec
    add-number-requires
    same_length
    same-length-2
    returns
    read-shape-requires
    read-shape-requires-2
    move-named-requires
    add-requires
    move-some-requires
    same-length-3
    same-length-4
    returns-2)
