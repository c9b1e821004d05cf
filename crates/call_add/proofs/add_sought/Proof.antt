-- A refusal leaves the image, else the search's end tells what is done. Assumes nothing.
use mathlib.Core.Path.{refl, sym, subst}
use borrow.Author.Rules.{rules}
use Rattle.spec_file.specs.Questions.{mode_known}
use Rattle.law_file.proofs.Sought.{seek-known}
use Rattle.table_search.specs.Probes.{MetKey}
use Rattle.table_search.proofs.Taken.{search-key}
use Rattle.table_seek.proofs.Reaching.{refused-is, reached-is, reached-key}
use Rattle.call_add.proofs.Added.{refused-answer, found-answer}
use Rattle.call_add.proofs.add_sought.Statement.{statement}
use Rattle.call_add.proofs.add_sought.Tie as tie

enum-known-sought : tie.Need-enum_known-sought
enum-known-sought c = search rules

enum-known-sought-2 : tie.Need-enum_known-sought-in-At-1
enum-known-sought-2 c = search rules

add-found-requires : tie.Need-add_found-requires
add-found-requires c κs =
    let S = c in
    let A = S.args in
    let known = mode_known A.mode in
    let r = reached-is A.image.now A.key.now known S.requires c.in-At.is in
    let met = search-key A.image.now A.key.now _ r.opened in
    let met' = subst (MetKey A.image.now A.key.now) (sym r.ended) met in
    (r.opened, r.within, met', reached-key r, seek-known A.image.now A.key.now known r.asked)

returns : tie.Need-returns-in-Refused
returns c =
    let S = c in
    let A = S.args in
    let known = mode_known A.mode in
    let r = refused-is A.image.now A.key.now known S.requires c.in-Refused.is in
    refused-answer A.image.now A.key.now A.bytes.now A.mode known refl _ r.0 r.1

same_length : tie.Need-shape_of-image
same_length c = search rules

abbrev sought2-at-slice-known2 : tie.After-slice_known-in-At-1 → tie.In-At
sought2-at-slice-known2 c = c.before.before.before.before

abbrev start-at-slice-known2 : tie.After-slice_known-in-At-1 → tie.Start
start-at-slice-known2 c = c.before.before.before.before.before.before.before.before

returns-2 : tie.Need-returns-in-At
returns-2 c =
    let S = start-at-slice-known2 c in
    let A = S.args in
    let known = mode_known A.mode in
    let r = reached-is A.image.now A.key.now known S.requires (sought2-at-slice-known2 c).in-At.is in
    let d = c.add_found in
    found-answer A.image.now A.key.now A.bytes.now A.mode known refl r.asked d.result
    d.new.image _ r.ended d.ensures.0 d.ensures.1

pub add_sought_spec : {M : Type 1} → statement M
add_sought_spec =
    tie.close
    (tie.spec
    enum-known-sought
    enum-known-sought-2
    add-found-requires
    returns
    same_length
    returns-2)
