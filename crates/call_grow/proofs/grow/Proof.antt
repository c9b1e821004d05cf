-- Each question in turn: those that are passed over were answered yes. Assumes nothing.
use mathlib.Core.Path.{◌≡◌, sym, ◌∙◌}
use mathlib.Core.Bool.{true}
use borrow.Author.Rules.{rules}
use Rattle.spec_file.specs.Inspect.{check}
use Rattle.spec_file.specs.Questions.{open_number}
use Rattle.spec_compaction.specs.Compact.{is_sound}
use Rattle.law_file.proofs.Tests.{was-no, was-yes}
use Rattle.call_grow.proofs.Starting.{grow-closed, grow-15, grow-21, grow-0}
use Rattle.call_grow.proofs.grow.Statement.{statement}
use Rattle.call_grow.proofs.grow.Tie as tie

abbrev start : tie.Else-number-ne0 → tie.Start
start c = c.before.before.before.before

is_open : (c : tie.Else-number-ne0) → open_number (start c).args.old.now ≡ 0
is_open c = sym c.open_number-number.ensures ∙ c.if-number-ne0.false

is-sound : (c : tie.Else-not-is_sound) → is_sound (check (start c.before.before).args.old.now) ≡ true
is-sound c = was-yes c.is_sound.ensures c.if-not-is_sound.false

open-number-requires : tie.Need-open_number-number-requires
open-number-requires c κs = search rules

returns : tie.Need-returns-then-number-ne0
returns c =
    let A = c.args in
    let e = c.open_number-number.ensures in
    e ∙ sym (grow-closed A.old.now A.new.now (λ z. c.if-number-ne0.true (e ∙ z)))

is-sound-requires : tie.Need-is_sound-requires
is-sound-requires c κs = search rules

returns-2 : tie.Need-returns-then-not-is_sound
returns-2 c =
    let E = c.before.before in
    let A = (start E).args in
    sym (grow-15 A.old.now A.new.now (is_open E) (was-no c.is_sound.ensures c.if-not-is_sound.true))

second-fits-requires : tie.Need-second_fits-requires
second-fits-requires c κs = is_open c.before.before

returns-3 : tie.Need-returns-then-not-second_fits
returns-3 c =
    let F = c.before.before in
    let E = c.before.before.before.before in
    let A = (start E).args in
    sym
    (grow-21 A.old.now A.new.now (is_open E) (is-sound F)
    (was-no c.second_fits.ensures c.if-not-second_fits.true))

returns-4 : tie.Need-returns
returns-4 c =
    let F = c.before.before in
    let E = c.before.before.before.before in
    let A = (start E).args in
    sym
    (grow-0 A.old.now A.new.now (is_open E) (is-sound F)
    (was-yes c.second_fits.ensures c.if-not-second_fits.false))

pub grow_spec : {M : Type 1} → statement M
grow_spec =
    tie.close
    (tie.spec
    open-number-requires
    returns
    is-sound-requires
    returns-2
    second-fits-requires
    returns-3
    returns-4)
