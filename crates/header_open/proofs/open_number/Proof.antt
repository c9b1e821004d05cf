-- Questions 1, 5 and 6 in turn: each that is passed over was answered yes. Assumes nothing.
use borrow.Author.Rules.{rules}
use mathlib.Core.Path.{sym}
use native.Mathlib.Omega.{arith}
use Rattle.law_file.proofs.Tests.{was-no, was-yes}
use Rattle.header_questions.proofs.Headers.{open-1, open-5, open-6, open-0, size-least}
use Rattle.header_open.proofs.open_number.Statement.{statement}
use Rattle.header_open.proofs.open_number.Tie as tie

size-allowed-requires : tie.Need-size_allowed-requires
size-allowed-requires c κs = search rules

returns : tie.Need-returns-then-not-size_allowed
returns c = sym (open-1 _ (was-no c.size_allowed.ensures c.if-not-size_allowed.true))

version-known-requires : tie.Need-version_known-requires
version-known-requires c κs = omega (arith, size-least _ (was-yes c.size_allowed.ensures c.if-not-size_allowed.false))

returns-2 : tie.Need-returns-then-not-version_known
returns-2 c =
    let A = c in
    sym
    (open-5 _
    (was-yes A.size_allowed.ensures A.if-not-size_allowed.false)
    (was-no c.version_known.ensures c.if-not-version_known.true))

header-sound-requires : tie.Need-header_sound-requires
header-sound-requires c κs =
    let A = c in
    omega (arith, size-least _ (was-yes A.size_allowed.ensures A.if-not-size_allowed.false))

returns-3 : tie.Need-returns-then-not-header_sound
returns-3 c =
    let A = c in
    let B = c in
    sym
    (open-6 _
    (was-yes A.size_allowed.ensures A.if-not-size_allowed.false)
    (was-yes B.version_known.ensures B.if-not-version_known.false)
    (was-no c.header_sound.ensures c.if-not-header_sound.true))

returns-4 : tie.Need-returns
returns-4 c =
    let A = c in
    let B = c in
    sym
    (open-0 _
    (was-yes A.size_allowed.ensures A.if-not-size_allowed.false)
    (was-yes B.version_known.ensures B.if-not-version_known.false)
    (was-yes c.header_sound.ensures c.if-not-header_sound.false))

pub open_number_spec : {M : Type 1} → statement M
open_number_spec =
    tie.close
    (tie.spec
    size-allowed-requires
    returns
    version-known-requires
    returns-2
    header-sound-requires
    returns-3
    returns-4)
