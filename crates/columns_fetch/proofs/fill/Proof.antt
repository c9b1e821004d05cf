-- The records fill the slice's front where they are whole and have room there. Assumes nothing.
use Prim.Native.Nat.{◌-◌, ◌≤◌}
use native.Mathlib.Omega.{arith}
use mathlib.Core.Bool.{true}
use mathlib.Core.Path.{◌≡◌, ap, ◌∙◌}
use lib.ListN.{length, length-take}
use lib.Seq.{length-take-le}
use borrow.Author.Rules.{rules}
use Rattle.spec_file.specs.Bytes.{Bytes, store}
use Rattle.law_file.proofs.Tests.{was-no, was-yes}
use Rattle.law_file.proofs.Stores.{store-lent}
use Rattle.spec_columns.specs.Columns.{whole_columns}
use Rattle.law_columns.proofs.Turned.{length-read}
use Rattle.columns_fetch.proofs.Filled.{fills-part, fills-short, fills-all}
use Rattle.columns_fetch.proofs.fill.Statement.{statement}
use Rattle.columns_fetch.proofs.fill.Tie as tie

whole-columns-requires : tie.Need-whole_columns-requires
whole-columns-requires c κs = search rules

refused-requires : tie.Need-refused-requires
refused-requires c κs = search rules

returns : tie.Need-returns-then-not-whole_columns
returns c =
    let T = c in
    let W = c in
    let A = W.args in
    fills-part A.stored.now A.out.now _ _ c.refused.ensures
    (was-no W.whole_columns.ensures T.if-not-whole_columns.true)

-- ---- whole columns are stored

abbrev start-at-else1 : tie.Else-not-whole_columns → tie.Start
start-at-else1 c = c.before.before.before.before

whole : (c : tie.Else-not-whole_columns) → whole_columns (start-at-else1 c).args.stored.now ≡ true
whole c = was-yes c.whole_columns.ensures c.if-not-whole_columns.false

some_stored : (c : tie.Else-not-whole_columns) → 1 ≤ length (start-at-else1 c).args.stored.now
some_stored c = omega (arith, length-read _ (whole c))

sub-bytes : tie.Need-overflow_sub-bytes
sub-bytes c = some_stored c

refused-requires-2 : tie.Need-refused-requires-then-out-bytes
refused-requires-2 c κs = search rules

returns-2 : tie.Need-returns-then-out-bytes
returns-2 c =
    let T = c in
    let A = (start-at-else1 c.before.before).args in
    fills-short A.stored.now A.out.now _ _ c.refused-then-out-bytes.ensures (whole c.before.before) T.if-out-bytes.true

sub-read-columns : tie.Need-slice_bounds-read_columns-count
sub-read-columns c = search rules

part-read-columns-start : tie.Need-slice_bounds-read_columns-start
part-read-columns-start c = search rules

part-read-columns-end : tie.Need-slice_bounds-read_columns-end
part-read-columns-end c = search rules

read-columns-requires : tie.Need-read_columns-requires
read-columns-requires c κs =
    let E = c.before.before in
    let A = (start-at-else1 E).args in
    let m = length A.stored.now - 1 - 0 in
    (whole E, omega (arith, length-take-le m A.out.now (omega arith), some_stored E))

same_length : tie.Need-shape_of-out
same_length c = search rules

abbrev else2-at-slice-known2 : tie.After-slice_known-2-1 → tie.Else-out-bytes
else2-at-slice-known2 c = c.before.before.before.before

returns-3 : tie.Need-returns
returns-3 c =
    let E = (else2-at-slice-known2 c).before in
    let A = (start-at-else1 E).args in
    let stored = A.stored.now in
    let out = A.out.now in
    let R = c.read_columns in
    let long = length-read stored (whole E) in
    fills-all stored out (whole E) (omega arith) _
    (store-lent out 0 (length stored - 1) R.new.out (ap length R.ensures ∙ omega (arith, long))
    ∙ ap (store out 0) R.ensures)

pub fill_spec : {M : Type 1} → statement M
fill_spec =
    tie.close
    (tie.spec
    whole-columns-requires
    refused-requires
    returns
    sub-bytes
    refused-requires-2
    returns-2
    sub-read-columns
    part-read-columns-start
    part-read-columns-end
    read-columns-requires
    same_length
    returns-3)
