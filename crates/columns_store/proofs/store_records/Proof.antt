-- A refusal leaves the image, and so does 19, which comes after 7; else the search's end tells what is done.
-- Assumes nothing.
use mathlib.Core.Path.{◌≡◌, sym, subst}
use mathlib.Core.Bool.{true}
use lib.ListN.{length}
use borrow.Author.Rules.{rules}
use Rattle.law_file.proofs.Tests.{was-no, was-yes}
use Rattle.spec_columns.specs.Columns.{whole_records}
use Rattle.header_layout.specs.declared.shape.Shape.{Shape}
use Rattle.table_search.specs.Probes.{MetKey}
use Rattle.table_search.proofs.Taken.{search-key}
use Rattle.table_seek.specs.Seeks.{Reached}
use Rattle.table_seek.proofs.Reaching.{refused-is, reached-is, reached-key}
use Rattle.columns_store.proofs.Stored.{stores-refused, stores-19, stores-found}
use Rattle.columns_store.proofs.store_records.Statement.{statement}
use Rattle.columns_store.proofs.store_records.Tie as tie

seek-requires : tie.Need-seek-sought-requires
seek-requires c κs = search rules

enum-known-sought : tie.Need-enum_known-sought
enum-known-sought c = search rules

enum-known-sought-2 : tie.Need-enum_known-sought-in-At-1
enum-known-sought-2 c = search rules

whole-records-requires : tie.Need-whole_records-requires
whole-records-requires c κs = search rules

same_length : tie.Need-shape_of-image-then-not-whole_records
same_length c = search rules

-- ---- the header is accepted, and the key searched

abbrev start-at-sought2 : tie.In-At → tie.Start
start-at-sought2 c = c.before.before.before.before.before

reached : (c : tie.In-At)
    → let A = (start-at-sought2 c).args in
    let s = c.in-At in
    Reached A.image.now A.key.now true s.shape s.found s.field-2
reached c =
    let A = (start-at-sought2 c).args in
    reached-is A.image.now A.key.now true c.seek-sought.ensures c.in-At.is

abbrev sought2-at-whole : tie.After-whole_records → tie.In-At
sought2-at-whole c = c.before

returns : tie.Need-returns-then-not-whole_records
returns c =
    let W = c.before in
    let Q = sought2-at-whole W in
    let A = (start-at-sought2 Q).args in
    stores-19 A.image.now A.key.now A.records.now A.width (reached Q).asked
    (was-no W.whole_records.ensures c.if-not-whole_records.true)

whole : (c : tie.Else-not-whole_records)
    → let A = (start-at-sought2 (sought2-at-whole c.before)).args in
    whole_records A.width (length A.records.now) ≡ true
whole c = was-yes c.whole_records.ensures c.if-not-whole_records.false

store-found-requires : tie.Need-store_found-requires
store-found-requires c κs =
    let E = c.before in
    let Q = sought2-at-whole c.before.before in
    let A = (start-at-sought2 Q).args in
    let r = reached Q in
    let met = search-key A.image.now A.key.now _ r.opened in
    let met' = subst (MetKey A.image.now A.key.now) (sym r.ended) met in
    (r.opened, r.within, met', reached-key r, whole E)

same-length-2 : tie.Need-shape_of-image-in-Refused
same-length-2 c = search rules

-- ---- refused before the search

abbrev start-at-sought : tie.In-Refused → tie.Start
start-at-sought c = c.before.before.before.before.before

returns-2 : tie.Need-returns-in-Refused
returns-2 c =
    let Q = c in
    let A = (start-at-sought Q).args in
    let r = refused-is A.image.now A.key.now true Q.seek-sought.ensures Q.in-Refused.is in
    stores-refused A.image.now A.key.now A.records.now A.width _ r.0 r.1

same-length-3 : tie.Need-shape_of-image-else-not-whole_records
same-length-3 c = search rules

abbrev else1-at-end : tie.After-slice_known-in-At-1 → tie.Else-not-whole_records
else1-at-end c = c.before.before.before.before

returns-3 : tie.Need-returns-else-not-whole_records
returns-3 c =
    let E = else1-at-end c in
    let Q = sought2-at-whole E.before in
    let A = (start-at-sought2 Q).args in
    let d = c.store_found in
    stores-found A.image.now A.key.now A.records.now A.width (reached Q).asked (whole E) d.result
    d.new.image _ (reached Q).ended d.ensures.0 d.ensures.1

pub store_records_spec : {M : Type 1} → statement M
store_records_spec =
    tie.close
    (tie.spec
    seek-requires
    enum-known-sought
    enum-known-sought-2
    whole-records-requires
    same_length
    returns
    store-found-requires
    same-length-2
    returns-2
    same-length-3
    returns-3)
