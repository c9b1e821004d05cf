-- A refusal leaves the image, else the search's end tells what is done. Assumes nothing.
use mathlib.Core.Bool.{true}
use borrow.Author.Rules.{rules}
use Rattle.table_seek.proofs.Reaching.{refused-is, reached-is}
use Rattle.call_delete.proofs.Removed.{refused-answer, found-answer}
use Rattle.call_delete.proofs.delete_sought.Statement.{statement}
use Rattle.call_delete.proofs.delete_sought.Tie as tie

enum-known-sought : tie.Need-enum_known-sought
enum-known-sought c = search rules

enum-known-sought-2 : tie.Need-enum_known-sought-in-At-1
enum-known-sought-2 c = search rules

delete-found-requires : tie.Need-delete_found-requires
delete-found-requires c κs =
    let S = c in
    let r = reached-is S.args.image.now S.args.key.now true S.requires c.in-At.is in
    (r.opened, r.within)

returns : tie.Need-returns-in-Refused
returns c =
    let S = c in
    let r = refused-is S.args.image.now S.args.key.now true S.requires c.in-Refused.is in
    refused-answer S.args.image.now S.args.key.now _ r.0 r.1

same_length : tie.Need-shape_of-image
same_length c = search rules

abbrev sought2-at-slice-known2 : tie.After-slice_known-in-At-1 → tie.In-At
sought2-at-slice-known2 c = c.before.before.before.before

abbrev start-at-slice-known2 : tie.After-slice_known-in-At-1 → tie.Start
start-at-slice-known2 c = c.before.before.before.before.before.before.before

returns-2 : tie.Need-returns-in-At
returns-2 c =
    let S = start-at-slice-known2 c in
    let A = S.args in
    let r = reached-is A.image.now A.key.now true S.requires (sought2-at-slice-known2 c).in-At.is in
    let d = c.delete_found in
    found-answer A.image.now A.key.now r.asked d.result d.new.image _ r.ended d.ensures.0
    d.ensures.1

pub delete_sought_spec : {M : Type 1} → statement M
delete_sought_spec =
    tie.close
    (tie.spec
    enum-known-sought
    enum-known-sought-2
    delete-found-requires
    returns
    same_length
    returns-2)
