-- Cases of create, of the hash, and of questions 1 to 6 on the header; more in
-- crates/spec_cases/proofs/CasesHeaders.antt.
--     Leaves n img K N           create is refused with n and leaves the bytes as they were
--     Refused n img              every call on the image is refused with n
-- Assumes nothing.
use mathlib.Core.Path.{◌≡◌, refl}
use Prim.Native.Nat.{ℕ}
use mathlib.Core.List.{[], ◌∷◌}
use mathlib.Core.Bool.{Bool, true, false}
use lib.ListN.{replicate}
use Rattle.spec_file.specs.Limits.{serial_field, key_field, slots_field, points_field, multiplier_field, start_field, first_field, last_field, scramble_field, table_field, data_field, free_field, page_field}
use Rattle.spec_file.specs.Bytes.{Bytes, part, store, zeros}
use Rattle.spec_file.specs.Image.{field, set_field, hash}
use Rattle.spec_file.specs.Questions.{version_known, header_sound, create_number}
use Rattle.spec_file.specs.Calls.{create}
use Rattle.spec_file.specs.Lists.{adding, deleting, looking, counting}
use Rattle.spec_file.proofs.CasesBase.{definitions, fresh, headed, done, refused, answered}

-- ---- the image that create leaves

-- "Header: 0 "BHTF"; 4 the letter v and three bytes, version 1, 0, 1; 8 serial; 12 K .. ; 56 M, last page." 02:
-- "Version bytes become 1, 0, 2 at create". K = 1, N = 4, D = 4,096.
pub header-bytes : part (fresh 4096 4) 0 60
    ≡ 66 ∷ 72 ∷ 84 ∷ 70 ∷ 118 ∷ 1 ∷ 0 ∷ 2 ∷ 0 ∷ 0 ∷ 0 ∷ 0 ∷ 0 ∷ 0 ∷ 0 ∷ 1 ∷ 0 ∷ 0 ∷ 0 ∷ 4 ∷ 0 ∷ 0 ∷ 0 ∷ 0
    ∷ 1 ∷ 0 ∷ 1 ∷ 147 ∷ 129 ∷ 28 ∷ 157 ∷ 197 ∷ 0 ∷ 0 ∷ 0 ∷ 32 ∷ 0 ∷ 0 ∷ 0 ∷ 126 ∷ 0 ∷ 0 ∷ 2 ∷ 0 ∷ 0 ∷ 0 ∷ 8 ∷ 0
    ∷ 0 ∷ 0 ∷ 16 ∷ 0 ∷ 0 ∷ 0 ∷ 16 ∷ 0 ∷ 255 ∷ 255 ∷ 255 ∷ 255 ∷ []
unfolding fresh
header-bytes = refl

-- where the numbers stand, in the same order
pub field-places : serial_field ∷ key_field ∷ slots_field ∷ points_field ∷ multiplier_field ∷ start_field ∷ first_field
    ∷ last_field ∷ scramble_field ∷ table_field ∷ data_field ∷ free_field ∷ page_field ∷ []
    ≡ 8 ∷ 12 ∷ 16 ∷ 20 ∷ 24 ∷ 28 ∷ 32 ∷ 36 ∷ 40 ∷ 44 ∷ 48 ∷ 52 ∷ 56 ∷ []
field-places = refl

-- "N (0 means 5,507)": D is 32,768, and such an image has room for nothing else.
pub five-thousand : ((create (zeros 32768) 1 0 0).answer ≡ done)
    × (field (create (zeros 32768) 1 0 0).after slots_field ≡ 5507) × ((create (zeros 28672) 1 0 0).answer ≡ refused 4)
unfolding definitions
five-thousand = (refl, refl, refl)

-- ---- create refused: the question before the later ones' "no", and what stood there is left

unfoldable pub sevens : ℕ → Bytes
sevens n = replicate n 7

abbrev pub Leaves : ℕ → Bytes → ℕ → ℕ → Type 0
Leaves n img K N = create img K N 0 ≡ record { after = img; answer = refused n }

pub create-3 : Leaves 3 (sevens 4096) 1 1048577
unfolding definitions sevens
create-3 = refl

-- the sizes at the edges of 1 to 4
pub create-edges : (create_number 4096 1 409 ≡ 0) × (create_number 1073741824 32 1048576 ≡ 0)
    × (create_number 1073745920 1 4 ≡ 1) × (create_number 8193 1 4 ≡ 1) × (create_number 0 1 4 ≡ 1)
    × (create_number 1073741824 33 4 ≡ 2) × (create_number 1073741824 1 1048577 ≡ 3) × (create_number 4096 1 410 ≡ 4)
unfolding definitions
create-edges = (refl, refl, refl, refl, refl, refl, refl, refl)

-- ---- the hash

-- "For each key byte c": of two bytes, in their order
pub hash-two : (hash (fresh 4096 4) (65 ∷ 66 ∷ []) ≡ 0x79254BBE) × (hash (fresh 4096 4) (66 ∷ 65 ∷ []) ≡ 0xDFCFA770)
unfolding fresh
hash-two = (refl, refl)

-- ---- questions 1, 5 and 6, which every call but create puts first, before 7

-- "count answers C, and 0 beside the number when refused"
abbrev pub Refused : ℕ → Bytes → Type 0
Refused n img =
    answered (adding [] [] 0 ∷ deleting [] ∷ looking [] ∷ counting ∷ []) img
    ≡ refused n ∷ refused n ∷ refused n ∷ refused n ∷ []

-- 5, before 6, also where C is not 0
pub opened-5 : Refused 5 (zeros 4096) × Refused 5 (store (set_field (headed 1 4 4096) points_field 3) 6 (1 ∷ []))
unfolding answered headed
opened-5 = (refl, refl)

-- "the first 5 bytes "BHTFv", the next two 1 and 0, the next at most 1", 02: "up to 2": versions 1.0.0, 1.0.1 and 1.0.2
-- are known; another letter than v and versions 0.0.1, 2.0.1, 1.1.1 and 1.0.3 are not
abbrev pub Known : ℕ → ℕ → ℕ → ℕ → Bool → Type 0
Known letter a b c known = version_known (66 ∷ 72 ∷ 84 ∷ 70 ∷ letter ∷ a ∷ b ∷ c ∷ []) ≡ known

pub versions : Known 118 1 0 1 true × Known 118 1 0 0 true × Known 119 1 0 1 false × Known 118 0 0 1 false
    × Known 118 2 0 1 false × Known 118 1 1 1 false × Known 118 1 0 2 true × Known 118 1 0 3 false
unfolding definitions
versions = (refl, refl, refl, refl, refl, refl, refl, refl)

-- 02: "N up to 1,048,576": one more is refused, though D fits it
pub slots-1048577 : header_sound (headed 1 1048577 5246976) ≡ false
unfolding headed
slots-1048577 = refl
