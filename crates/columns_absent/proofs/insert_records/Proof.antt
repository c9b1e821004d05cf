-- The columns are placed at X, which the entry then names. Assumes nothing.
use Prim.Native.Nat.{ℕ, ◌≤◌}
use native.Mathlib.Omega.{arith}
use mathlib.Core.Path.{◌≡◌, ◌∙◌}
use borrow.Author.Rules.{rules}
use Rattle.spec_file.specs.Limits.{free_field}
use Rattle.spec_file.specs.Image.{field}
use Rattle.law_file.proofs.Opened.{opened-facts}
use Rattle.spec_columns.specs.Columns.{columns}
use Rattle.law_columns.proofs.Turned.{length-stored}
use Rattle.table_search.proofs.Heads.{SameHead, same-open}
use Rattle.message_write.proofs.Steps.{head-space, inserted-steps}
use Rattle.columns_absent.proofs.insert_records.Statement.{statement}
use Rattle.columns_absent.proofs.insert_records.Tie as tie

abbrev start-at-read-u32-arg : tie.After-shared_slice_known-2-1 → tie.Start
start-at-read-u32-arg c = c.before.before.before

read-u32-requires : tie.Need-read_u32-requires
read-u32-requires c κs = omega (arith, (opened-facts _ (start-at-read-u32-arg c).requires.0.accepted).size_low)

cast-new : tie.Need-overflow_cast-read_u32
cast-new c = search rules

new-requires : tie.Need-new-free-requires
new-requires c κs = search rules

place-records-requires : tie.Need-place_records-requires
place-records-requires c κs = search rules

abbrev new-at-place : tie.After-place_records → tie.After-new-free
new-at-place c = c.before.before

abbrev start-at-new : tie.After-new-free → tie.Start
start-at-new c = c.before.before.before.before.before

abbrev start-at-place : tie.After-place_records → tie.Start
start-at-place c = c.before.before.before.before.before.before.before

-- with the columns placed
head : (c : tie.After-place_records) → SameHead (start-at-place c).args.image.now c.place_records.new.image
head c =
    let S = start-at-place c in
    let A = S.args in
    head-space S.requires.0 c.place_records.new.image (columns A.width A.records.now)
    (omega (arith, length-stored A.width A.records.now S.requires.4, S.requires.3.room)) c.place_records.ensures

free : (c : tie.After-new-free) → c.new-free.result.0 ≡ field (start-at-new c).args.image.now free_field
free c = c.new-free.ensures ∙ c.read_u32.ensures

enter-requires : tie.Need-enter-requires
enter-requires c κs =
    let P = c.before.before.before in
    let S = start-at-place P in
    let f = opened-facts S.args.image.now S.requires.0.accepted in (
      same-open (head P) S.requires.0,
      S.requires.1,
      S.requires.2,
      omega (arith, free (new-at-place P), f.free-high, f.size-high),
    )

same_length : tie.Need-shape_of-image
same_length c = search rules

abbrev place-at-slice-known3 : tie.After-slice_known-3-1 → tie.After-place_records
place-at-slice-known3 c = c.before.before.before.before.before.before

returns : tie.Need-returns
returns c =
    let P = place-at-slice-known3 c in
    let A = (start-at-place P).args in
    inserted-steps A.image.now P.place_records.new.image c.enter.new.image A.key.now
    (columns A.width A.records.now) A.slot.0 _
    P.place_records.ensures (head P).layout (free (new-at-place P)) c.enter.ensures

pub insert_records_spec : {M : Type 1} → statement M
insert_records_spec =
    tie.close
    (tie.spec
    read-u32-requires
    cast-new
    new-requires
    place-records-requires
    enter-requires
    same_length
    returns)
