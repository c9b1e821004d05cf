-- 11 of the old image, then the new one's questions. Assumes nothing.
use native.Mathlib.Omega.{arith}
use mathlib.Core.Path.{◌≡◌, sym, ◌∙◌}
use Rattle.law_file.proofs.Tests.{was-no, was-yes}
use Rattle.law_file.proofs.Opened.{opened-facts}
use Rattle.growth_named.proofs.Entries.{moving-11-message, moving-11-points, moving-on}
use borrow.Author.Rules.{rules}
use Rattle.growth_named.proofs.move_number.Statement.{statement}
use Rattle.growth_named.proofs.move_number.Tie as tie

offset-of-requires : tie.Need-offset_of-o-requires
offset-of-requires c κs = search rules

message-sound-requires : tie.Need-message_sound-requires
message-sound-requires c κs = search rules

returns : tie.Need-returns-then-not-message_sound
returns c =
    let S = c in
    let A = S.args in
    sym (moving-11-message A.old.now A.new.now A.key.now A.slot.0 S.requires.key-is _
    c.offset_of-o.ensures
    (was-no c.message_sound.ensures c.if-not-message_sound.true))

read-u32-requires : tie.Need-read_u32-requires
read-u32-requires c κs =
    let S = c in
    omega (arith, (opened-facts _ S.requires.pair.first.accepted).size_low)

abbrev start-at-shared-slice-known : tie.After-shared_slice_known-1 → tie.Start
start-at-shared-slice-known c = c.before

abbrev start-at-then2 : tie.Then-read_u32-eq0 → tie.Start
start-at-then2 c = c.before.before.before.before.before.before.before.before

returns-2 : tie.Need-returns-then-read_u32-eq0
returns-2 c =
    let S = (start-at-then2 c) in
    let A = S.args in
    sym (moving-11-points A.old.now A.new.now A.key.now A.slot.0 S.requires.key-is _
    c.offset_of-o.ensures
    (was-yes c.message_sound.ensures c.if-not-message_sound.false)
    (sym c.read_u32.ensures ∙ c.if-read_u32-eq0.true))

abbrev start-at-else2 : tie.Else-read_u32-eq0 → tie.Start
start-at-else2 c = c.before.before.before.before.before.before.before.before

entry-number-requires : tie.Need-entry_number-requires
entry-number-requires c κs =
    let S = (start-at-else2 c) in (
      S.requires.pair.first,
      S.requires.pair.second,
      was-yes c.message_sound.ensures
          c.if-not-message_sound.false,
    )

abbrev start-at-shared-slice-known2 : tie.After-shared_slice_known-2-1 → tie.Start
start-at-shared-slice-known2 c = c.before.before

abbrev start-at-entry-number : tie.After-entry_number → tie.Start
start-at-entry-number c = c.before.before.before.before.before.before.before.before.before

returns-3 : tie.Need-returns
returns-3 c =
    let S = (start-at-entry-number c) in
    let A = S.args in
    c.entry_number.ensures
    ∙ sym (moving-on A.old.now A.new.now A.key.now A.slot.0 S.requires.key-is _
    c.offset_of-o.ensures
    (was-yes c.message_sound.ensures c.if-not-message_sound.false)
    (λ z. c.if-read_u32-eq0.false (c.read_u32.ensures ∙ z)))

pub move_number_spec : {M : Type 1} → statement M
move_number_spec =
    tie.close
    (tie.spec
    offset-of-requires
    message-sound-requires
    returns
    read-u32-requires
    returns-2
    entry-number-requires
    returns-3)
