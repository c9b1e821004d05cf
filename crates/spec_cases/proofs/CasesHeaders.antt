-- More cases of create, of the hash, and of questions 1 to 6 on the header.
--     WithField at n refusal     an image with the number n in a header field is refused so; 0 where it is accepted
-- Assumes nothing.
use mathlib.Core.Path.{◌≡◌, refl}
use Prim.Native.Nat.{ℕ}
use mathlib.Core.List.{[], ◌∷◌}
use lib.ListN.{length}
use Rattle.spec_file.specs.Limits.{serial_field, key_field, slots_field, points_field, multiplier_field, start_field, first_field, last_field, scramble_field, table_field, data_field, free_field}
use Rattle.spec_file.specs.Bytes.{part, zeros}
use Rattle.spec_file.specs.Image.{field, set_field, hash}
use Rattle.spec_file.specs.Questions.{open_number}
use Rattle.spec_file.specs.Calls.{create}
use Rattle.spec_file.proofs.CasesBase.{definitions, fresh, headed, done, answered}
use Rattle.spec_file.proofs.CasesHeader.{sevens, Leaves, Refused}

-- ---- the image that create leaves

-- behind the header, up to the first scramble number, and behind the last: "All other bytes become zero."
pub fresh-zeros : (length (fresh 4096 4) ≡ 4096) × (part (fresh 4096 4) 60 452 ≡ zeros 452)
    × (part (fresh 4096 4) 892 3204 ≡ zeros 3204)
unfolding fresh
fresh-zeros = (refl, refl, refl)

-- the first and the last scramble number: the states after 1 and 95 steps, from seed 0 and from seed 7
pub fresh-scramble : (field (fresh 4096 4) 512 ≡ 1013904223) × (field (fresh 4096 4) 888 ≡ 3432461637)
    × (field (create (zeros 4096) 1 4 7).after 512 ≡ 1025555898)
    × (field (create (zeros 4096) 1 4 7).after 888 ≡ 2915684136)
unfolding fresh
fresh-scramble = (refl, refl, refl, refl)

-- what stood there is gone
pub create-over : create (sevens 4096) 1 4 0 ≡ record { after = fresh 4096 4; answer = done }
unfolding fresh sevens
create-over = refl

-- ---- create refused: 1, 2 and 4, each put with the later ones' "no"

pub create-1 : Leaves 1 (sevens 4095) 0 1048577 × Leaves 1 [] 1 4
unfolding definitions sevens
create-1 = (refl, refl)

pub create-2 : Leaves 2 (sevens 4096) 0 1048577 × Leaves 2 (sevens 4096) 33 1048577
unfolding definitions sevens
create-2 = (refl, refl)

-- 2,048 + 410 × 5 is above 4,096
pub create-4 : Leaves 4 (sevens 4096) 1 410 × Leaves 4 (sevens 4096) 1 0
unfolding definitions sevens
create-4 = (refl, refl)

-- ---- the hash

-- "if F ≤ c ≤ E": bytes 32 and 126 are scrambled, 31 and 127 are not.
pub hash-edges : (hash (fresh 4096 4) (126 ∷ []) ≡ 0xC99B685A) × (hash (fresh 4096 4) (127 ∷ []) ≡ 0x050C5D1F)
    × (hash (fresh 4096 4) (31 ∷ []) ≡ 0x050C5D1F)
unfolding fresh
hash-edges = (refl, refl, refl)

-- multiplier, start value, F and E are the header's: with F = 33 byte 33 takes the number that byte 32 took
abbrev pub HashWith : ℕ → ℕ → ℕ → ℕ → Type 0
HashWith at n c h = hash (set_field (fresh 4096 4) at n) (c ∷ []) ≡ h

pub hash-fields : HashWith multiplier_field 1 1 0x811C9DC5 × HashWith start_field 0 32 0x3C6EF35F
    × HashWith first_field 33 33 0x3962AE40 × HashWith first_field 33 32 0x050C5D1F
    × HashWith last_field 125 126 0x050C5D1F
unfolding fresh
hash-fields = (refl, refl, refl, refl, refl)

-- ---- questions 1, 5 and 6, which every call but create puts first, before 7

-- 1: no byte, a byte too few, a byte too many; and before 5
pub opened-1 : Refused 1 [] × Refused 1 (headed 1 4 4095) × Refused 1 (headed 1 4 4097) × Refused 1 (zeros 4095)
unfolding answered headed
opened-1 = (refl, refl, refl, refl)

-- 6, also where C is not 0
pub opened-6 : Refused 6 (set_field (set_field (headed 1 4 4096) points_field 3) key_field 0)
unfolding answered headed
opened-6 = refl

abbrev pub WithField : ℕ → ℕ → ℕ → Type 0
WithField at n refusal = open_number (set_field (headed 1 4 4096) at n) ≡ refusal

-- K, N, C, F, E, scramble and table offset, D, X: one below and one above what is taken
pub fields-6 : WithField key_field 33 6 × WithField slots_field 0 6 × WithField points_field 5 6
    × WithField first_field 127 6 × WithField last_field 31 6 × WithField last_field 256 6 × WithField scramble_field 508 6
    × WithField scramble_field 516 6 × WithField table_field 2044 6 × WithField table_field 2052 6
    × WithField data_field 0 6 × WithField free_field 4095 6 × WithField free_field 4097 6
unfolding headed
fields-6 = (refl, refl, refl, refl, refl, refl, refl, refl, refl, refl, refl, refl, refl)

-- K = 32, N = 1, C = N, F = E, E = 255; "serial, multiplier and start value may be any number"
pub fields-taken : WithField key_field 32 0 × WithField slots_field 1 0 × WithField points_field 4 0
    × WithField first_field 126 0 × WithField last_field 255 0 × WithField serial_field 0xFFFFFFFF 0
    × WithField multiplier_field 0xFFFFFFFF 0 × WithField start_field 0xFFFFFFFF 0
unfolding headed
fields-taken = (refl, refl, refl, refl, refl, refl, refl, refl)

-- "D ≤ X ≤ L": of 8,192 bytes with D = 4,096; D itself may not lie higher
pub free-edges : (open_number (set_field (headed 1 4 8192) free_field 8192) ≡ 0)
    × (open_number (set_field (headed 1 4 8192) free_field 8193) ≡ 6)
    × (open_number (set_field (set_field (headed 1 4 8192) free_field 8192) data_field 8192) ≡ 6)
unfolding headed
free-edges = (refl, refl, refl)
