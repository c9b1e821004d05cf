-- Document 02, Job 10: cases of storing and reading records by column, by computation. A file of 8,192 bytes, K = 1 and
-- N = 4; byte 1 is at home in slot 3, at 2,063, and its message stands at D = 4,096.
--     record-definitions     unfolding it unfolds all that the calls compute with
--     holding m              such a file in which byte 1 has the message bytes m, header and text
-- Assumes nothing.
use mathlib.Core.Path.{◌≡◌, refl}
use Prim.Native.Nat.{ℕ, ◌+◌, ◌-◌}
use mathlib.Core.List.{[], ◌∷◌, ◌++◌}
use mathlib.Core.Option.{some}
use lib.ListN.{length}
use Rattle.spec_file.specs.Bytes.{Bytes, part, store, zeros}
use Rattle.spec_file.specs.Limits.{points_field, data_field, free_field, version_field}
use Rattle.spec_file.specs.Image.{field, set_field, slot_bytes}
use Rattle.spec_file.specs.Search.{met}
use Rattle.spec_file.specs.Calls.{Answer}
use Rattle.spec_file.specs.Questions.{first_no}
use Rattle.spec_file.proofs.CasesBase.{definitions, headed, done, refused, one}
use Rattle.spec_file.proofs.CasesFile.{short_layout, short}
use Rattle.spec_columns.proofs.CasesColumns.{column-definitions, two, two_stored}
use Rattle.spec_records.specs.Records.{store_asks, store_number, store_records, stored_bytes, readable, read_asks, read_number, records_answer, read_records, filled_records}

unfoldable pub record-definitions : ℕ
unfolding definitions headed column-definitions
    store_asks store_number store_records stored_bytes readable read_asks read_number records_answer read_records filled_records
record-definitions = 0

-- ---- files

unfoldable pub holding : Bytes → Bytes
unfolding record-definitions
holding m =
    set_field
    (set_field (store (store (headed 1 4 8192) 2063 (slot_bytes one 4096)) 4096 m) points_field 1)
    free_field (4096 + length m)

-- the bytes from D to X
unfoldable pub area : Bytes → Bytes
unfolding record-definitions
area img = part img (field img data_field) (field img free_field - field img data_field)

-- ---- storing

-- Two records of 3 bytes under an absent name, which is entered: the width, and the columns, in new space. C is then 1.
pub stored-new : ((store_records (headed 1 4 8192) one two 3).answer ≡ done)
    × (area (store_records (headed 1 4 8192) one two 3).after ≡ (97 ∷ 0 ∷ 0 ∷ 7 ∷ []) ++ two_stored)
    × (field (store_records (headed 1 4 8192) one two 3).after points_field ≡ 1)
unfolding area
stored-new = (refl, refl, refl)

-- "as mode 2 does": where 9 bytes stood, inactive, they are "written there as active, with the rest .. zeroed"; where 6
-- stood, one too few, those become inactive and new space is taken.
pub stored-over : (area (store_records (holding ((100 ∷ 0 ∷ 0 ∷ 9 ∷ []) ++ two_stored ++ (8 ∷ 8 ∷ []))) one two 3).after
    ≡ (97 ∷ 0 ∷ 0 ∷ 7 ∷ []) ++ two_stored ++ (0 ∷ 0 ∷ []))
    × (area (store_records (holding (97 ∷ 0 ∷ 0 ∷ 6 ∷ two)) one two 3).after
    ≡ (100 ∷ 0 ∷ 0 ∷ 6 ∷ two) ++ (97 ∷ 0 ∷ 0 ∷ 7 ∷ []) ++ two_stored)
unfolding holding area
stored-over = (refl, refl)

-- No record: the message is the one byte W, which is not empty, so that a version of 1.0.1 stays.
pub stored-none : (area (store_records (headed 1 4 8192) one [] 5).after ≡ 97 ∷ 0 ∷ 0 ∷ 1 ∷ 5 ∷ [])
    × (part (store_records (store (headed 1 4 8192) version_field (1 ∷ 0 ∷ 1 ∷ [])) one [] 5).after version_field 3
    ≡ 1 ∷ 0 ∷ 1 ∷ [])
unfolding area
stored-none = (refl, refl)

-- the number that a storing into a file whose message is not sound is answered
unfoldable pub number_of_store : Bytes → Bytes → ℕ → ℕ
unfolding holding
number_of_store key recs W = (store_records (holding (98 ∷ 0 ∷ 0 ∷ 1 ∷ 80 ∷ [])) key recs W).answer.number

-- 19 "after 7", and before 11: widths 0, 65 and 257, which is 1 in its last byte; 5 bytes of records of 2
pub store_told : number_of_store (0 ∷ []) [] 0 ∷ number_of_store one [] 0 ∷ number_of_store one (zeros 65) 65 ∷ number_of_store one (7 ∷ []) 257
    ∷ number_of_store one (zeros 257) 257 ∷ number_of_store one (zeros 5) 2 ∷ number_of_store one (zeros 6) 2 ∷ []
    ≡ 7 ∷ 19 ∷ 19 ∷ 19 ∷ 19 ∷ 19 ∷ 11 ∷ []
unfolding number_of_store
store_told = refl

-- 19 before 10, in a full table
pub store-full : (store_records (set_field (headed 1 1 8192) points_field 1) one two 4).answer.number
    ∷ (store_records (set_field (headed 1 1 8192) points_field 1) one two 3).answer.number ∷ []
    ≡ 19 ∷ 10 ∷ []
unfolding record-definitions
store-full = refl

-- 12 and 13 look at the width's byte too: 3 bytes of records are 4 stored ones, above the 3 of this layout; 2 are 3,
-- which end 1 byte after the image. Where 1 stands already, no record finds room in its place.
unfoldable pub store_placed : Bytes → ℕ
unfolding record-definitions short
store_placed recs = first_no (store_asks short_layout (short (97 ∷ 0 ∷ 0 ∷ 1 ∷ 80 ∷ [])) (met 0) one recs 1)

pub store-placed : store_placed (zeros 3) ∷ store_placed (zeros 2) ∷ store_placed (zeros 1) ∷ store_placed [] ∷ []
    ≡ 12 ∷ 13 ∷ 0 ∷ 0 ∷ []
unfolding store_placed
store-placed = refl

-- a refused storing changes no byte
pub store-refused : area (store_records (holding ((97 ∷ 0 ∷ 0 ∷ 7 ∷ []) ++ two_stored)) one two 4).after
    ≡ (97 ∷ 0 ∷ 0 ∷ 7 ∷ []) ++ two_stored
unfolding holding area
store-refused = refl

-- ---- reading

abbrev pub reads : Bytes → Answer
reads recs = record { number = 0; amount = length recs; text = some recs; epoch = 0 }

unfoldable pub two_file : Bytes
unfolding holding
two_file = holding ((97 ∷ 0 ∷ 0 ∷ 7 ∷ []) ++ two_stored)

-- the records and their byte count, with room for them or more; the bytes after the answer stay
pub read-two : ((read_records two_file one 6).answer ≡ reads two) × ((read_records two_file one 8).answer ≡ reads two)
    × (filled_records two_file one (9 ∷ 9 ∷ 9 ∷ 9 ∷ 9 ∷ 9 ∷ 9 ∷ 9 ∷ []) ≡ two ++ (9 ∷ 9 ∷ []))
unfolding two_file
read-two = (refl, refl, refl)

-- a slice too short: 19 and no count, and it is as it was
pub read_short : ((read_records two_file one 5).answer ≡ refused 19)
    × (filled_records two_file one (9 ∷ 9 ∷ 9 ∷ 9 ∷ 9 ∷ []) ≡ 9 ∷ 9 ∷ 9 ∷ 9 ∷ 9 ∷ [])
unfolding two_file
read_short = (refl, refl)

-- of no record there is nothing to fill
pub read_none : ((read_records (holding (97 ∷ 0 ∷ 0 ∷ 1 ∷ 5 ∷ [])) one 0).answer ≡ reads [])
    × (filled_records (holding (97 ∷ 0 ∷ 0 ∷ 1 ∷ 5 ∷ [])) one (9 ∷ []) ≡ 9 ∷ [])
unfolding holding
read_none = (refl, refl)

-- the number that a reading is answered where byte 1 has these message bytes
unfoldable pub number_of_read : Bytes → ℕ
unfolding holding
number_of_read m = (read_records (holding m) one 99).answer.number

-- An empty message, an inactive one of whole columns, width 0, width 65 of one record, a byte too few; then width 64,
-- which is allowed. A message that is not sound gives 11, "after" which 19 stands, also where its width is 0.
pub read_told : number_of_read (97 ∷ 0 ∷ 0 ∷ 0 ∷ []) ∷ number_of_read ((100 ∷ 0 ∷ 0 ∷ 7 ∷ []) ++ two_stored)
    ∷ number_of_read (97 ∷ 0 ∷ 0 ∷ 1 ∷ 0 ∷ []) ∷ number_of_read ((97 ∷ 0 ∷ 0 ∷ 66 ∷ 65 ∷ []) ++ zeros 65)
    ∷ number_of_read (97 ∷ 0 ∷ 0 ∷ 3 ∷ 3 ∷ 10 ∷ 20 ∷ []) ∷ number_of_read ((97 ∷ 0 ∷ 0 ∷ 65 ∷ 64 ∷ []) ++ zeros 64)
    ∷ number_of_read (98 ∷ 0 ∷ 0 ∷ 1 ∷ 0 ∷ []) ∷ []
    ≡ 19 ∷ 19 ∷ 19 ∷ 19 ∷ 19 ∷ 0 ∷ 11 ∷ []
unfolding number_of_read
read_told = refl

-- 7 and 14 come before it; a point without a message has no width
pub read_asked : (read_records two_file (0 ∷ []) 0).answer.number ∷ (read_records two_file (2 ∷ []) 0).answer.number
    ∷ (read_records (set_field two_file 2064 0) one 99).answer.number ∷ []
    ≡ 7 ∷ 14 ∷ 19 ∷ []
unfolding two_file
read_asked = refl
