-- The search is for the mode that is asked, and its slots are counted. Assumes nothing.
use mathlib.Core.Path.{ap, ◌∙◌, subst}
use mathlib.Core.Bool.{Bool}
use borrow.Author.Rules.{rules}
use Rattle.spec_file.specs.Calls.{sought_read, add_read}
use Rattle.table_seek.specs.Seeks.{SoughtIs}
use Rattle.table_seek.proofs.Reaching.{read_is}
use Rattle.call_add.proofs.add_slots.Statement.{statement}
use Rattle.call_add.proofs.add_slots.Tie as tie

mode-known-requires : tie.Need-mode_known-known-requires
mode-known-requires c κs = search rules

seek-requires : tie.Need-seek-sought-requires
seek-requires c κs = search rules

slots-read-requires : tie.Need-slots_read-read-requires
slots-read-requires c κs = search rules

abbrev seek-at-arg : tie.After-add_sought-arg-1 → tie.After-seek-sought
seek-at-arg c = c.before.before

abbrev start-at-seek : tie.After-seek-sought → tie.Start
start-at-seek c = c.before.before.before.before.before

add-sought-requires : tie.Need-add_sought-number-requires
add-sought-requires c κs =
    let k = seek-at-arg c in
    let A = (start-at-seek k).args in
    subst (λ (b : Bool). SoughtIs A.image.now A.key.now b k.seek-sought.result)
    k.mode_known-known.ensures k.seek-sought.ensures

same_length : tie.Need-shape_of-image
same_length c = search rules

returns : tie.Need-returns
unfolding add_read
returns c =
    let N = c in
    let R = c in
    let k = c.before.before.before.before.before in
    let known = k.mode_known-known in
    let A = (start-at-seek k).args in (
      N.add_sought-number.ensures.0,
      N.add_sought-number.ensures.1,
      R.slots_read-read.ensures
          ∙ read_is A.image.now A.key.now known.result k.seek-sought.result k.seek-sought.ensures
          ∙ ap (sought_read A.image.now A.key.now) known.ensures,
    )

pub add_slots_spec : {M : Type 1} → statement M
add_slots_spec =
    tie.close
    (tie.spec
    mode-known-requires
    seek-requires
    slots-read-requires
    add-sought-requires
    same_length
    returns)
