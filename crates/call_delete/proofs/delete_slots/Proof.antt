-- The slots of the search are counted, whatever comes of it. Assumes nothing.
use mathlib.Core.Path.{◌∙◌}
use mathlib.Core.Bool.{true}
use borrow.Author.Rules.{rules}
use Rattle.spec_file.specs.Calls.{delete_read}
use Rattle.table_seek.proofs.Reaching.{read_is}
use Rattle.call_delete.proofs.delete_slots.Statement.{statement}
use Rattle.call_delete.proofs.delete_slots.Tie as tie

seek-requires : tie.Need-seek-sought-requires
seek-requires c κs = search rules

slots-read-requires : tie.Need-slots_read-read-requires
slots-read-requires c κs = search rules

delete-sought-requires : tie.Need-delete_sought-number-requires
delete-sought-requires c κs = c.seek-sought.ensures

same_length : tie.Need-shape_of-image
same_length c = search rules

returns : tie.Need-returns
unfolding delete_read
returns c =
    let N = c in
    let R = c in
    let k = c in
    let A = k.args in (
      N.delete_sought-number.ensures.0,
      N.delete_sought-number.ensures.1,
      R.slots_read-read.ensures ∙ read_is A.image.now A.key.now true k.seek-sought.result k.seek-sought.ensures,
    )

pub delete_slots_spec : {M : Type 1} → statement M
delete_slots_spec =
    tie.close
    (tie.spec
    seek-requires
    slots-read-requires
    delete-sought-requires
    same_length
    returns)
