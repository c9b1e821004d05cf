-- Seven fields read, and the definition's tests on them. Assumes nothing.
use borrow.Author.Rules.{rules}
use Rattle.header_questions.specs.Ranges.{ranges_sound}
use Rattle.header_questions.proofs.ranges_sound.Statement.{statement}
use Rattle.header_questions.proofs.ranges_sound.Tie as tie

read-u32-requires : tie.Need-read_u32-key-requires
read-u32-requires c κs = search rules

read-u32-requires-2 : tie.Need-read_u32-slots-requires
read-u32-requires-2 c κs = search rules

read-u32-requires-3 : tie.Need-read_u32-points-requires
read-u32-requires-3 c κs = search rules

read-u32-requires-4 : tie.Need-read_u32-first-requires
read-u32-requires-4 c κs = search rules

read-u32-requires-5 : tie.Need-read_u32-last-requires
read-u32-requires-5 c κs = search rules

read-u32-requires-6 : tie.Need-read_u32-scramble-requires
read-u32-requires-6 c κs = search rules

read-u32-requires-7 : tie.Need-read_u32-table-requires
read-u32-requires-7 c κs = search rules

key-allowed-requires : tie.Need-key_allowed-requires
key-allowed-requires c κs = search rules

table-allowed-requires : tie.Need-table_allowed-requires
table-allowed-requires c κs = search rules

returns : tie.Need-returns
unfolding ranges_sound
returns c = cc

pub ranges_sound_spec : {M : Type 1} → statement M
ranges_sound_spec =
    tie.close
    (tie.spec
    read-u32-requires
    read-u32-requires-2
    read-u32-requires-3
    read-u32-requires-4
    read-u32-requires-5
    read-u32-requires-6
    read-u32-requires-7
    key-allowed-requires
    table-allowed-requires
    returns)
