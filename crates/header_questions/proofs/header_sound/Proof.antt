-- Question 6: where the ranges are sound D's formula does not wrap, and the rest decides. Assumes nothing.
use borrow.Author.Rules.{rules}
use mathlib.Core.Path.{◌≡◌, sym}
use mathlib.Core.Bool.{true}
use native.Mathlib.Omega.{arith}
use Rattle.header_questions.specs.Ranges.{ranges_sound}
use Rattle.law_file.proofs.Tests.{was-no, was-yes}
use Rattle.header_questions.proofs.Headers.{header_refused, header-rest, ranges-key, ranges-slots}
use Rattle.header_questions.proofs.header_sound.Statement.{statement}
use Rattle.header_questions.proofs.header_sound.Tie as tie

ranges-sound-requires : tie.Need-ranges_sound-requires
ranges-sound-requires c κs = search rules

returns : tie.Need-returns-then-not-ranges_sound
returns c = sym (header_refused _ (was-no c.ranges_sound.ensures c.if-not-ranges_sound.true))

read-u32-requires : tie.Need-read_u32-key-requires
read-u32-requires c κs = search rules

cast-key : tie.Need-overflow_cast-key
cast-key c = search rules

read-u32-requires-2 : tie.Need-read_u32-slots-requires
read-u32-requires-2 c κs = search rules

cast-slots : tie.Need-overflow_cast-slots
cast-slots c = search rules

read-u32-requires-3 : tie.Need-read_u32-area-requires
read-u32-requires-3 c κs = search rules

cast-area : tie.Need-overflow_cast-area
cast-area c = search rules

read-u32-requires-4 : tie.Need-read_u32-free-requires
read-u32-requires-4 c κs = search rules

cast-free : tie.Need-overflow_cast-free
cast-free c = search rules

data-start-requires : tie.Need-data_start-requires
data-start-requires c κs =
    let E = c in
    let img = E.args.image.now in
    let h : ranges_sound img ≡ true = was-yes E.ranges_sound.ensures E.if-not-ranges_sound.false in
    let k = c.read_u32-key.ensures in
    let n = c.read_u32-slots.ensures in
    (omega (arith, ranges-key img h), omega (arith, ranges-slots img h))

returns-2 : tie.Need-returns
returns-2 c =
    let E = c in
    let img = E.args.image.now in
    let h : ranges_sound img ≡ true = was-yes E.ranges_sound.ensures E.if-not-ranges_sound.false in
    cc (header-rest img h)

pub header_sound_spec : {M : Type 1} → statement M
header_sound_spec =
    tie.close
    (tie.spec
    ranges-sound-requires
    returns
    read-u32-requires
    cast-key
    read-u32-requires-2
    cast-slots
    read-u32-requires-3
    cast-area
    read-u32-requires-4
    cast-free
    data-start-requires
    returns-2)
