-- A refusal leaves both images; else the named point moves, the delete follows, then the moves. Assumes nothing.
use mathlib.Core.Path.{sym, ◌∙◌}
use Rattle.growth_ready.proofs.Acting.{grown-refused}
use Rattle.spec_growth.specs.Growth.{grow_delete}
use Rattle.call_grow_delete.proofs.Growing.{both-opened, names, no-refusal, asked, left}
use borrow.Author.Rules.{rules}
use Rattle.call_grow_delete.proofs.grow_delete.Statement.{statement}
use Rattle.call_grow_delete.proofs.grow_delete.Tie as tie

delete-number-requires : tie.Need-delete_number-number-requires
delete-number-requires c κs = search rules

same_length : tie.Need-shape_of-old-then-number-ne0
same_length c = search rules

same-length-2 : tie.Need-shape_of-new-then-number-ne0
same-length-2 c = search rules

returns : tie.Need-returns-then-number-ne0
unfolding grow_delete
returns c =
    let A = c.args in
    grown-refused A.old.now A.new.now _ _ c.delete_number-number.result c.delete_number-number.ensures
    c.if-number-ne0.true

abbrev start-at-slice-known : tie.After-slice_known-1 → tie.Start
start-at-slice-known c = c.before

abbrev start-at-read-shape-arg : tie.Else-number-ne0 → tie.Start
start-at-read-shape-arg c = c.before.before.before.before.before

read-shape-requires : tie.Need-read_shape-shape-requires
read-shape-requires c κs =
    let A = (start-at-read-shape-arg c).args in
    (both-opened A.old.now A.new.now A.key.now
    (sym c.delete_number-number.ensures ∙ c.if-number-ne0.false)).first

abbrev start-at-shared-slice-known : tie.After-shared_slice_known-1 → tie.Start
start-at-shared-slice-known c = c.before.before.before

abbrev start-at-read-shape-arg2 : tie.After-read_shape-shape → tie.Start
start-at-read-shape-arg2 c = c.before.before.before.before.before.before

read-shape-requires-2 : tie.Need-read_shape-larger-requires
read-shape-requires-2 c κs =
    let A = (start-at-read-shape-arg2 c).args in
    (both-opened A.old.now A.new.now A.key.now
    (sym c.delete_number-number.ensures ∙ c.if-number-ne0.false)).second

abbrev start-at-delete-number : tie.After-delete_number-number → tie.Start
start-at-delete-number c = c.before.before.before.before

abbrev start-at-move-named-arg2 : tie.After-move_named-arg-2-1 → tie.Start
start-at-move-named-arg2 c = c.before.before.before.before.before.before.before.before.before

move-named-requires : tie.Need-move_named-requires
move-named-requires c κs =
    let A = (start-at-move-named-arg2 c).args in
    let z = sym c.delete_number-number.ensures
    ∙ c.if-number-ne0.false in (
      names A.old.now A.new.now A.key.now z _ _ c.read_shape-shape.ensures
          c.read_shape-larger.ensures,
      no-refusal A.old.now A.new.now A.key.now z,
    )

delete-requires : tie.Need-delete-requires
delete-requires c κs = search rules

abbrev start-at-new : tie.After-new-1 → tie.Start
start-at-new c = c.before.before.before.before.before.before.before.before.before.before.before.before.before

abbrev start-at-move-some-arg2 : tie.After-move_some-arg-2-1 → tie.Start
start-at-move-some-arg2 c = c.before.before.before.before.before.before.before.before.before.before.before.before.before.before.before.before.before.before.before.before

abbrev delete-number-at-read-shape-arg2 : tie.After-read_shape-shape → tie.After-delete_number-number
delete-number-at-read-shape-arg2 c = c.before.before

abbrev delete-number-at-new : tie.After-new-1 → tie.After-delete_number-number
delete-number-at-new c = c.before.before.before.before.before.before.before.before.before

abbrev delete-number-at-move-some-arg2 : tie.After-move_some-arg-2-1 → tie.After-delete_number-number
delete-number-at-move-some-arg2 c = c.before.before.before.before.before.before.before.before.before.before.before.before.before.before.before.before

abbrev else1-at-read-shape-arg2 : tie.After-read_shape-shape → tie.Else-number-ne0
else1-at-read-shape-arg2 c = c.before

abbrev else1-at-new : tie.After-new-1 → tie.Else-number-ne0
else1-at-new c = c.before.before.before.before.before.before.before.before

abbrev else1-at-move-some-arg2 : tie.After-move_some-arg-2-1 → tie.Else-number-ne0
else1-at-move-some-arg2 c = c.before.before.before.before.before.before.before.before.before.before.before.before.before.before.before

abbrev read-shape-at-read-shape-arg2 : tie.After-read_shape-shape → tie.After-read_shape-shape
read-shape-at-read-shape-arg2 c = c

abbrev read-shape-at-new : tie.After-new-1 → tie.After-read_shape-shape
read-shape-at-new c = c.before.before.before.before.before.before.before

abbrev read-shape-at-move-some-arg2 : tie.After-move_some-arg-2-1 → tie.After-read_shape-shape
read-shape-at-move-some-arg2 c = c.before.before.before.before.before.before.before.before.before.before.before.before.before.before

abbrev read-shape2-at-new : tie.After-new-1 → tie.After-read_shape-larger
read-shape2-at-new c = c.before.before.before.before.before.before

abbrev read-shape2-at-move-some-arg2 : tie.After-move_some-arg-2-1 → tie.After-read_shape-larger
read-shape2-at-move-some-arg2 c = c.before.before.before.before.before.before.before.before.before.before.before.before.before

abbrev move-named-at-new : tie.After-new-1 → tie.After-move_named
move-named-at-new c = c.before.before.before

abbrev move-named-at-move-some-arg2 : tie.After-move_some-arg-2-1 → tie.After-move_named
move-named-at-move-some-arg2 c = c.before.before.before.before.before.before.before.before.before.before

move-some-requires : tie.Need-move_some-requires
move-some-requires c κs =
    let A = (start-at-move-some-arg2 c).args in
    let z = sym (delete-number-at-move-some-arg2 c).delete_number-number.ensures ∙
    (else1-at-move-some-arg2 c).if-number-ne0.false in
    asked A.old.now A.new.now A.key.now z _ _ (read-shape-at-move-some-arg2 c).read_shape-shape.ensures
    (read-shape2-at-move-some-arg2 c).read_shape-larger.ensures _ _ _
    (move-named-at-move-some-arg2 c).move_named.ensures c.delete.ensures.1

same-length-3 : tie.Need-shape_of-old
same-length-3 c = search rules

same-length-4 : tie.Need-shape_of-new
same-length-4 c = search rules

abbrev start-at-old : tie.After-old-1 → tie.Start
start-at-old c = c.before.before.before.before.before.before.before.before.before.before.before

abbrev start-at-slice-known5 : tie.After-slice_known-5-1 → tie.Start
start-at-slice-known5 c = c.before.before.before.before.before.before.before.before.before.before.before.before.before.before.before.before.before.before

abbrev start-at-slice-known7 : tie.After-slice_known-7-1 → tie.Start
start-at-slice-known7 c = c.before.before.before.before.before.before.before.before.before.before.before.before.before.before.before.before.before.before.before.before.before.before.before.before.before

abbrev delete-number-at-read-shape-arg : tie.Else-number-ne0 → tie.After-delete_number-number
delete-number-at-read-shape-arg c = c.before

abbrev delete-number-at-old : tie.After-old-1 → tie.After-delete_number-number
delete-number-at-old c = c.before.before.before.before.before.before.before

abbrev delete-number-at-slice-known5 : tie.After-slice_known-5-1 → tie.After-delete_number-number
delete-number-at-slice-known5 c = c.before.before.before.before.before.before.before.before.before.before.before.before.before.before

abbrev delete-number-at-slice-known7 : tie.After-slice_known-7-1 → tie.After-delete_number-number
delete-number-at-slice-known7 c = c.before.before.before.before.before.before.before.before.before.before.before.before.before.before.before.before.before.before.before.before.before

abbrev else1-at-read-shape-arg : tie.Else-number-ne0 → tie.Else-number-ne0
else1-at-read-shape-arg c = c

abbrev else1-at-old : tie.After-old-1 → tie.Else-number-ne0
else1-at-old c = c.before.before.before.before.before.before

abbrev else1-at-slice-known5 : tie.After-slice_known-5-1 → tie.Else-number-ne0
else1-at-slice-known5 c = c.before.before.before.before.before.before.before.before.before.before.before.before.before

abbrev else1-at-slice-known7 : tie.After-slice_known-7-1 → tie.Else-number-ne0
else1-at-slice-known7 c = c.before.before.before.before.before.before.before.before.before.before.before.before.before.before.before.before.before.before.before.before

abbrev read-shape-at-old : tie.After-old-1 → tie.After-read_shape-shape
read-shape-at-old c = c.before.before.before.before.before

abbrev read-shape-at-slice-known5 : tie.After-slice_known-5-1 → tie.After-read_shape-shape
read-shape-at-slice-known5 c = c.before.before.before.before.before.before.before.before.before.before.before.before

abbrev read-shape-at-slice-known7 : tie.After-slice_known-7-1 → tie.After-read_shape-shape
read-shape-at-slice-known7 c = c.before.before.before.before.before.before.before.before.before.before.before.before.before.before.before.before.before.before.before

abbrev read-shape2-at-old : tie.After-old-1 → tie.After-read_shape-larger
read-shape2-at-old c = c.before.before.before.before

abbrev read-shape2-at-slice-known5 : tie.After-slice_known-5-1 → tie.After-read_shape-larger
read-shape2-at-slice-known5 c = c.before.before.before.before.before.before.before.before.before.before.before

abbrev read-shape2-at-slice-known7 : tie.After-slice_known-7-1 → tie.After-read_shape-larger
read-shape2-at-slice-known7 c = c.before.before.before.before.before.before.before.before.before.before.before.before.before.before.before.before.before.before

abbrev move-named-at-old : tie.After-old-1 → tie.After-move_named
move-named-at-old c = c.before

abbrev move-named-at-slice-known5 : tie.After-slice_known-5-1 → tie.After-move_named
move-named-at-slice-known5 c = c.before.before.before.before.before.before.before.before

abbrev move-named-at-slice-known7 : tie.After-slice_known-7-1 → tie.After-move_named
move-named-at-slice-known7 c = c.before.before.before.before.before.before.before.before.before.before.before.before.before.before.before

abbrev delete-at-slice-known5 : tie.After-slice_known-5-1 → tie.After-delete
delete-at-slice-known5 c = c.before.before

abbrev delete-at-slice-known7 : tie.After-slice_known-7-1 → tie.After-delete
delete-at-slice-known7 c = c.before.before.before.before.before.before.before.before.before

returns-2 : tie.Need-returns
returns-2 c =
    let A = (start-at-slice-known7 c).args in
    let z = sym (delete-number-at-slice-known7 c).delete_number-number.ensures ∙ (else1-at-slice-known7 c).if-number-ne0.false in
    left A.old.now A.new.now A.key.now z _ _ (read-shape-at-slice-known7 c).read_shape-shape.ensures
    (read-shape2-at-slice-known7 c).read_shape-larger.ensures _ _ _ (move-named-at-slice-known7 c).move_named.ensures
    (delete-at-slice-known7 c).delete.ensures.1 _ _ c.move_some.ensures

pub grow_delete_spec : {M : Type 1} → statement M
grow_delete_spec =
    tie.close
    (tie.spec
    delete-number-requires
    same_length
    same-length-2
    returns
    read-shape-requires
    read-shape-requires-2
    move-named-requires
    delete-requires
    move-some-requires
    same-length-3
    same-length-4
    returns-2)
