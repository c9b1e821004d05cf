-- Letter, length, and the columns after them are the message. Assumes nothing.
use native.Mathlib.Omega.{arith}
use mathlib.Core.Path.{ap, ap₂, ◌∙◌}
use lib.ListN.{length}
use borrow.Author.Rules.{rules}
use Rattle.spec_file.specs.Bytes.{Bytes, store}
use Rattle.law_file.proofs.Stores.{store-lent}
use Rattle.law_columns.proofs.Turned.{length-stored}
use Rattle.columns_message.proofs.Written.{written-records}
use Rattle.columns_message.proofs.write_records.Statement.{statement}
use Rattle.columns_message.proofs.write_records.Tie as tie

add-m : tie.Need-overflow_add-m
add-m c = search rules

write-head-requires : tie.Need-write_head-requires
write-head-requires c κs =
    let S = c in
    (S.requires.0, omega (arith, S.requires.1))

sub-write-columns : tie.Need-slice_bounds-write_columns-count
sub-write-columns c = search rules

part-write-columns-start : tie.Need-slice_bounds-write_columns-start
part-write-columns-start c = search rules

part-write-columns-end : tie.Need-slice_bounds-write_columns-end
part-write-columns-end c = search rules

write-columns-requires : tie.Need-write_columns-requires
write-columns-requires c κs = search rules

same_length : tie.Need-shape_of-space
same_length c = search rules

abbrev header-at-end : tie.After-slice_known-3-1 → tie.After-write_head
header-at-end c = c.before.before.before.before.before.before

abbrev start-at-header : tie.After-write_head → tie.Start
start-at-header c = c.before.before.before.before

returns : tie.Need-returns
returns c =
    let H = header-at-end c in
    let S = start-at-header H in
    let A = S.args in
    let recs = A.records.now in
    let t = H.write_head.new.space in
    let v = c.write_columns in
    let long = length-stored A.width recs S.requires.2 in
    store-lent t A.head (length t) v.new.space
    (ap length v.ensures ∙ omega (arith, long, H.write_head.auto.space, S.requires.1))
    ∙ ap₂ (λ (b y : Bytes). store b A.head y) H.write_head.ensures v.ensures
    ∙ written-records A.space.now recs A.width A.head (omega (arith, S.requires.0.low)) S.requires.2 S.requires.1

pub write_records_spec : {M : Type 1} → statement M
write_records_spec =
    tie.close
    (tie.spec
    add-m
    write-head-requires
    sub-write-columns
    part-write-columns-start
    part-write-columns-end
    write-columns-requires
    same_length
    returns)
