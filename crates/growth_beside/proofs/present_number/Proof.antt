-- 9, 11, then what the message becomes. Assumes nothing.
use native.Mathlib.Omega.{arith}
use mathlib.Core.Path.{sym, ◌∙◌}
use Rattle.law_file.proofs.Tests.{was-no, was-yes}
use Rattle.law_file.proofs.Opened.{opened-facts}
use Rattle.call_add_present.proofs.Shown.{head-fits, shown-end}
use Rattle.growth_beside.proofs.Asked.{zero-sound, shown-size, asked-9, asked-11, asked-renewed}
use borrow.Author.Rules.{rules}
use Rattle.growth_beside.proofs.present_number.Statement.{statement}
use Rattle.growth_beside.proofs.present_number.Tie as tie

returns : tie.Need-returns-then-mode-eq-NEW
returns c =
    let A = c.args in
    asked-9 A.old.now A.new.now A.m A.mode A.slot.0 c.if-mode-eq-NEW.true

offset-of-requires : tie.Need-offset_of-o-requires
offset-of-requires c κs = search rules

message-sound-requires : tie.Need-message_sound-requires
message-sound-requires c κs = search rules

returns-2 : tie.Need-returns-then-not-message_sound
returns-2 c =
    let A = c.args in
    asked-11 A.old.now A.new.now A.m A.mode A.slot.0 c.if-mode-eq-NEW.false _
    c.offset_of-o.ensures
    (was-no c.message_sound.ensures c.if-not-message_sound.true)

holds-requires : tie.Need-holds-fits-requires
holds-requires c κs =
    let S = c in
    (S.requires.1, head-fits S.requires.1 _ (was-yes c.message_sound.ensures c.if-not-message_sound.false))

shown-length-requires : tie.Need-shown_length-shown-requires
shown-length-requires c κs =
    let S = c in
    (S.requires.1, head-fits S.requires.1 _ (was-yes c.message_sound.ensures c.if-not-message_sound.false))

new-requires : tie.Need-new-requires
new-requires c κs = search rules

abbrev start-at-shared-slice-known2 : tie.After-shared_slice_known-2-1 → tie.Start
start-at-shared-slice-known2 c = c.before.before

abbrev start-at-new : tie.After-new → tie.Start
start-at-new c = c.before.before.before.before.before.before.before.before.before

renewed-number-requires : tie.Need-renewed_number-requires
renewed-number-requires c κs =
    let S = (start-at-new c) in
    let f = opened-facts _ S.requires.1.accepted in
    let end = shown-end S.requires.1 _
    (was-yes c.message_sound.ensures c.if-not-message_sound.false) in (
      S.requires.0,
      S.requires.1,
      zero-sound _ _ _ c.new.ensures,
      omega arith,
      S.requires.3,
      omega (arith, c.shown_length-shown.ensures, end, f.free-high, f.size-high),
      S.requires.4,
      c.if-mode-eq-NEW.false,
    )

abbrev start-at-else1 : tie.Else-mode-eq-NEW → tie.Start
start-at-else1 c = c.before.before.before

abbrev start-at-renewed-number : tie.After-renewed_number → tie.Start
start-at-renewed-number c = c.before.before.before.before.before.before.before.before.before.before

returns-3 : tie.Need-returns
returns-3 c =
    let S = (start-at-renewed-number c) in
    let A = S.args in
    let s = was-yes c.message_sound.ensures
    c.if-not-message_sound.false in
    asked-renewed A.old.now A.new.now A.m A.mode A.slot.0
    c.if-mode-eq-NEW.false _
    c.offset_of-o.ensures
    S.requires.3 s c.new.result.0 c.new.ensures c.holds-fits.result
    c.shown_length-shown.result c.renewed_number.result c.holds-fits.ensures
    (shown-size S.requires.1 _ s ∙ sym c.shown_length-shown.ensures) c.renewed_number.ensures

pub present_number_spec : {M : Type 1} → statement M
present_number_spec =
    tie.close
    (tie.spec
    returns
    offset-of-requires
    message-sound-requires
    returns-2
    holds-requires
    shown-length-requires
    new-requires
    renewed-number-requires
    returns-3)
