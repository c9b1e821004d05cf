-- 14, 11, or none. Assumes nothing.
use native.Mathlib.Omega.{arith}
use mathlib.Core.Path.{sym, ◌∙◌, subst}
use Rattle.law_file.proofs.Tests.{was-no, was-yes}
use Rattle.law_file.proofs.Opened.{opened-facts}
use Rattle.table_search.specs.Probes.{Within}
use Rattle.table_search.proofs.Taken.{not-met, met-slot, met-within, search-within}
use Rattle.growth_number.proofs.Turns.{asked-14, asked-message, asked-points, asked-0}
use borrow.Author.Rules.{rules}
use Rattle.growth_number.proofs.removed_number.Statement.{statement}
use Rattle.growth_number.proofs.removed_number.Tie as tie

search-requires : tie.Need-search-probed-requires
search-requires c κs = search rules

enum-known-found : tie.Need-enum_known-found
enum-known-found c = search rules

returns : tie.Need-returns-in_default
returns c =
    let S = c in
    let A = S.args in
    sym (asked-14 A.new.now A.key.now
    (not-met A.new.now A.key.now A.larger S.requires.shape c.search-probed.result.found
    c.search-probed.ensures.0
    c.in_default.in_default-own.keys2))

offset-of-requires : tie.Need-offset_of-o-requires
offset-of-requires c κs =
    let S = c in
    let A = S.args in
    let w = subst (Within A.larger.slots) (sym c.search-probed.ensures.0)
    (search-within _ A.key.now _ S.requires) in
    (S.requires, met-within c.in-Met.is w)

message-sound-requires : tie.Need-message_sound-requires
message-sound-requires c κs = search rules

abbrev start-at-shared-slice-known2 : tie.After-shared_slice_known-2-1 → tie.Start
start-at-shared-slice-known2 c = c.before.before

abbrev start-at-then1 : tie.Then-not-message_sound → tie.Start
start-at-then1 c = c.before.before.before.before.before.before.before

returns-2 : tie.Need-returns-then-not-message_sound
returns-2 c =
    let S = (start-at-then1 c) in
    let A = S.args in
    let m = met-slot A.new.now A.key.now A.larger S.requires.shape
    c.search-probed.result.found
    c.search-probed.ensures.0 _
    c.in-Met.is in
    sym (asked-message A.new.now A.key.now _ m _ c.offset_of-o.ensures
    (was-no c.message_sound.ensures c.if-not-message_sound.true))

abbrev start-at-else1 : tie.Else-not-message_sound → tie.Start
start-at-else1 c = c.before.before.before.before.before.before.before

read-u32-requires : tie.Need-read_u32-requires
read-u32-requires c κs = omega (arith, (opened-facts _ (start-at-else1 c).requires.accepted).size_low)

abbrev start-at-match-keys1 : tie.In-Met → tie.Start
start-at-match-keys1 c = c.before.before.before.before

abbrev start-at-then2 : tie.Then-read_u32-eq0 → tie.Start
start-at-then2 c = c.before.before.before.before.before.before.before.before.before

abbrev search-at-match-keys1 : tie.In-Met → tie.After-search-probed
search-at-match-keys1 c = c.before

abbrev search-at-then2 : tie.Then-read_u32-eq0 → tie.After-search-probed
search-at-then2 c = c.before.before.before.before.before.before

returns-3 : tie.Need-returns-then-read_u32-eq0
returns-3 c =
    let S = (start-at-then2 c) in
    let A = S.args in
    let m = met-slot A.new.now A.key.now A.larger S.requires.shape
    (search-at-then2 c).search-probed.result.found
    (search-at-then2 c).search-probed.ensures.0 _ c.in-Met.is in
    sym (asked-points A.new.now A.key.now _ m _ c.offset_of-o.ensures
    (was-yes c.message_sound.ensures c.if-not-message_sound.false)
    (sym c.read_u32.ensures ∙ c.if-read_u32-eq0.true))

abbrev start-at-else2 : tie.Else-read_u32-eq0 → tie.Start
start-at-else2 c = c.before.before.before.before.before.before.before.before.before

abbrev search-at-else2 : tie.Else-read_u32-eq0 → tie.After-search-probed
search-at-else2 c = c.before.before.before.before.before.before

returns-4 : tie.Need-returns
returns-4 c =
    let S = (start-at-else2 c) in
    let A = S.args in
    let m = met-slot A.new.now A.key.now A.larger S.requires.shape
    (search-at-else2 c).search-probed.result.found
    (search-at-else2 c).search-probed.ensures.0 _ c.in-Met.is in
    sym (asked-0 A.new.now A.key.now _ m _ c.offset_of-o.ensures
    (was-yes c.message_sound.ensures c.if-not-message_sound.false)
    (λ z. c.if-read_u32-eq0.false (c.read_u32.ensures ∙ z)))

pub removed_number_spec : {M : Type 1} → statement M
removed_number_spec =
    tie.close
    (tie.spec
    search-requires
    enum-known-found
    returns
    offset-of-requires
    message-sound-requires
    returns-2
    read-u32-requires
    returns-3
    returns-4)
