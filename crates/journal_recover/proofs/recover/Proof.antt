-- By the last byte: none, 0, no mark, a mark over what is not sound, a mark. Assumes nothing.
use Prim.Native.Nat.{◌+◌}
use native.Mathlib.Omega.{arith}
use mathlib.Core.Path.{◌≡◌, ◌∙◌}
use mathlib.Core.Bool.{true}
use lib.ListN.{length}
use borrow.Author.Rules.{rules}
use Rattle.spec_changes.specs.Journal.{pair_count, journal_sound}
use Rattle.law_file.proofs.Tests.{was-no, was-yes}
use Rattle.journal_recover.proofs.Reading.{count-field, sound-start}
use Rattle.journal_recover.proofs.Recovering.{is-marked, is-other, recover-empty, recover-unsound, recover-none, recover-other, recover-marked}
use Rattle.journal_recover.proofs.recover.Statement.{statement}
use Rattle.journal_recover.proofs.recover.Tie as tie

returns : tie.Need-returns-then-end-eq0
returns c =
    let S = c in
    recover-empty S.args.image.now S.args.journal.now c.if-end-eq0.true

sub-last : tie.Need-overflow_sub-last
sub-last c = search rules

slice-read-if2 : tie.Need-bounds-journal-last
slice-read-if2 c = search rules

returns-2 : tie.Need-returns-then-journal-last-eq0
returns-2 c =
    let E = c in
    let S = c in
    recover-none S.args.image.now S.args.journal.now (omega (arith, E.if-end-eq0.false)) c.if-journal-last-eq0.true

slice-read-if3 : tie.Need-bounds-journal-last-2
slice-read-if3 c = search rules

slice-write-journal : tie.Need-bounds-journal-last-then-journal-last
slice-write-journal c = search rules

same_length : tie.Need-shape_of-journal-then-journal-last
same_length c = search rules

returns-3 : tie.Need-returns-then-journal-last
returns-3 c =
    let E = c in
    let S = c in
    recover-other S.args.image.now S.args.journal.now (omega (arith, E.if-end-eq0.false))
    (is-other S.args.journal.now c.if-journal-last.true)

journal-sound-requires : tie.Need-journal_sound-requires
journal-sound-requires c κs = search rules

same-length-2 : tie.Need-shape_of-journal-then-not-journal_sound
same-length-2 c = search rules

-- where the last byte was looked at, and the start
abbrev looked : tie.After-journal_sound → tie.Else-journal-last
looked J = J.before

abbrev some : tie.After-journal_sound → tie.Else-end-eq0
some J = J.before.before.before.before.before

abbrev start : tie.After-journal_sound → tie.Start
start J = J.before.before.before.before.before.before.before.before

returns-4 : tie.Need-returns-then-not-journal_sound
returns-4 c =
    let J = c.before in
    let S = start J in
    recover-unsound S.args.image.now S.args.journal.now (omega (arith, (some J).if-end-eq0.false))
    (is-marked S.args.journal.now (looked J).if-journal-last.false) (was-no J.journal_sound.ensures c.if-not-journal_sound.true)

-- the journal is sound
sound : (E : tie.Else-not-journal_sound)
    → let S : tie.Start = start E.before in
    journal_sound (length S.args.image.now) S.args.journal.now ≡ true
sound E = was-yes E.journal_sound.ensures E.if-not-journal_sound.false

read-u32-requires : tie.Need-read_u32-pairs-requires
read-u32-requires c κs =
    let E = c in
    let S = start c.before in
    omega (arith, sound-start (length S.args.image.now) S.args.journal.now (sound E))

cast-pairs : tie.Need-overflow_cast-pairs
cast-pairs c = search rules

-- the count that was read
counted : (R : tie.After-read_u32-pairs)
    → R.read_u32-pairs.result ≡ pair_count (start R.before.before).args.journal.now
counted R = R.read_u32-pairs.ensures ∙ count-field (start R.before.before).args.journal.now

add-settle : tie.Need-overflow_add-pairs
add-settle c = search rules

settle-requires : tie.Need-settle-requires
settle-requires c κs =
    let R = c.before.before in
    (sound c.before.before.before, counted R, omega arith)

same-length-3 : tie.Need-shape_of-image
same-length-3 c = search rules

same-length-4 : tie.Need-shape_of-journal
same-length-4 c = search rules

returns-5 : tie.Need-returns
returns-5 c =
    let W = c in
    let R = c.before.before.before.before.before.before.before in
    let E = c.before.before.before.before.before.before.before.before in
    let J = c.before.before.before.before.before.before.before.before.before in
    let S = start J in
    recover-marked S.args.image.now S.args.journal.now (omega (arith, (some J).if-end-eq0.false))
    (is-marked S.args.journal.now (looked J).if-journal-last.false) (sound E) (R.read_u32-pairs.result + 1)
    (omega (arith, counted R))
    W.settle.new.image W.settle.new.journal W.settle.ensures

pub recover_spec : {M : Type 1} → statement M
recover_spec =
    tie.close
    (tie.spec
    returns
    sub-last
    slice-read-if2
    returns-2
    slice-read-if3
    slice-write-journal
    same_length
    returns-3
    journal-sound-requires
    same-length-2
    returns-4
    read-u32-requires
    cast-pairs
    add-settle
    settle-requires
    same-length-3
    same-length-4
    returns-5)
