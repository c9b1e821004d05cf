-- Document 02, Job 13, "Plates that are half legible": cases, by computation. Every call's whole answer: its number,
-- how many slots were found, and the list.
--     range-definitions     unfolding it unfolds all that they compute with
--     plates                K = 2, N = 5: "A1" in slot 0, slot 1 empty with offset bytes, "B2" in slot 2, bytes 0 and
--                           50 in slot 3, "A3" in slot 4
-- Assumes nothing.
use Prim.Native.Nat.{ℕ}
use mathlib.Core.List.{[], ◌∷◌}
use mathlib.Core.Path.{◌≡◌, refl}
use Rattle.spec_file.specs.Bytes.{Bytes, store, zeros}
use Rattle.spec_file.specs.Limits.{free_field}
use Rattle.spec_file.specs.Image.{set_field}
use Rattle.spec_file.proofs.CasesBase.{inspect-definitions, headed}
use Rattle.spec_range.specs.Ranges.{all_below, in_range, byte_in_range, key_in_ranges, selects, chosen_from, selected, slot_numbers, ranges_allowed, list_holds, select_asks, select_number, Selection, select}

unfoldable pub range-definitions : ℕ
unfolding inspect-definitions
    all_below in_range byte_in_range key_in_ranges selects chosen_from selected slot_numbers ranges_allowed list_holds select_asks
    select_number select
range-definitions = 0

-- the header's C is 0: no question and no answer of this call looks at it
unfoldable pub plates : Bytes
unfolding headed
plates =
    store (headed 2 5 4096) 2048
    (65 ∷ 49 ∷ 0 ∷ 0 ∷ 0 ∷ 0 ∷ 0 ∷ 0 ∷ 0 ∷ 0 ∷ 0 ∷ 9 ∷ 66 ∷ 50 ∷ 0 ∷ 0 ∷ 0 ∷ 0 ∷ 0 ∷ 50 ∷ 0 ∷ 0 ∷ 0 ∷ 0
    ∷ 65 ∷ 51 ∷ 0 ∷ 0 ∷ 0 ∷ 0 ∷ [])

-- a list of 20 bytes, as 5 slot numbers need, and two bytes more
abbrev pub lent : Bytes
lent = 7 ∷ 7 ∷ 7 ∷ 7 ∷ 7 ∷ 7 ∷ 7 ∷ 7 ∷ 7 ∷ 7 ∷ 7 ∷ 7 ∷ 7 ∷ 7 ∷ 7 ∷ 7 ∷ 7 ∷ 7 ∷ 7 ∷ 7 ∷ 7 ∷ 7 ∷ []

-- the number, how many, and the list
abbrev pub Answers : Selection → ℕ → ℕ → Bytes → Type 0
Answers s n found list = s ≡ record { number = n; found = found; list = list }

-- ---- what is listed

-- "A" and any byte: slots 0 and 4, and the bytes after the answer stay
pub first-letter : Answers (select plates (65 ∷ 0 ∷ []) (65 ∷ 255 ∷ []) lent) 0 2
    (0 ∷ 0 ∷ 0 ∷ 0 ∷ 0 ∷ 0 ∷ 0 ∷ 4 ∷ 7 ∷ 7 ∷ 7 ∷ 7 ∷ 7 ∷ 7 ∷ 7 ∷ 7 ∷ 7 ∷ 7 ∷ 7 ∷ 7 ∷ 7 ∷ 7 ∷ [])
unfolding range-definitions plates
first-letter = refl

-- any byte and "2" or "3": the first byte 0 of slot 3 lies in its range
pub last_letter : Answers (select plates (0 ∷ 50 ∷ []) (255 ∷ 51 ∷ []) lent) 0 3
    (0 ∷ 0 ∷ 0 ∷ 2 ∷ 0 ∷ 0 ∷ 0 ∷ 3 ∷ 0 ∷ 0 ∷ 0 ∷ 4 ∷ 7 ∷ 7 ∷ 7 ∷ 7 ∷ 7 ∷ 7 ∷ 7 ∷ 7 ∷ 7 ∷ 7 ∷ [])
unfolding range-definitions plates
last_letter = refl

-- the lowest and the highest byte lie in the range: "A1" is the lowest of both, "B2" the highest
pub ends-belong : Answers (select plates (65 ∷ 49 ∷ []) (66 ∷ 50 ∷ []) lent) 0 2
    (0 ∷ 0 ∷ 0 ∷ 0 ∷ 0 ∷ 0 ∷ 0 ∷ 2 ∷ 7 ∷ 7 ∷ 7 ∷ 7 ∷ 7 ∷ 7 ∷ 7 ∷ 7 ∷ 7 ∷ 7 ∷ 7 ∷ 7 ∷ 7 ∷ 7 ∷ [])
unfolding range-definitions plates
ends-belong = refl

-- every range from 0 to 255: all taken slots, and the empty one not
pub all-taken : Answers (select plates (0 ∷ 0 ∷ []) (255 ∷ 255 ∷ []) lent) 0 4
    (0 ∷ 0 ∷ 0 ∷ 0 ∷ 0 ∷ 0 ∷ 0 ∷ 2 ∷ 0 ∷ 0 ∷ 0 ∷ 3 ∷ 0 ∷ 0 ∷ 0 ∷ 4 ∷ 7 ∷ 7 ∷ 7 ∷ 7 ∷ 7 ∷ 7 ∷ [])
unfolding range-definitions plates
all-taken = refl

-- "equal bounds everywhere": one slot, none, and, of zeros, none
pub equal-bounds : Answers (select plates (65 ∷ 51 ∷ []) (65 ∷ 51 ∷ []) lent) 0 1
    (0 ∷ 0 ∷ 0 ∷ 4 ∷ 7 ∷ 7 ∷ 7 ∷ 7 ∷ 7 ∷ 7 ∷ 7 ∷ 7 ∷ 7 ∷ 7 ∷ 7 ∷ 7 ∷ 7 ∷ 7 ∷ 7 ∷ 7 ∷ 7 ∷ 7 ∷ [])
    × Answers (select plates (65 ∷ 50 ∷ []) (65 ∷ 50 ∷ []) lent) 0 0 lent
    × Answers (select plates (0 ∷ 0 ∷ []) (0 ∷ 0 ∷ []) lent) 0 0 lent
unfolding range-definitions plates
equal-bounds = (refl, refl, refl)

-- ---- what is refused: no byte of the list changes, and 0 slots are found

-- "A wrong number of ranges": one too few, one too many, of the lowest bytes or of the highest
pub wrong-ranges : Answers (select plates (65 ∷ []) (65 ∷ 255 ∷ []) lent) 22 0 lent
    × Answers (select plates (65 ∷ 0 ∷ 0 ∷ []) (65 ∷ 255 ∷ []) lent) 22 0 lent
    × Answers (select plates (65 ∷ 0 ∷ []) (65 ∷ []) lent) 22 0 lent
    × Answers (select plates (65 ∷ 0 ∷ []) (65 ∷ 255 ∷ 255 ∷ []) lent) 22 0 lent
unfolding range-definitions plates
wrong-ranges = (refl, refl, refl, refl)

-- "a lowest above its highest", at the first position and at the last
pub crossed-ranges : Answers (select plates (66 ∷ 0 ∷ []) (65 ∷ 255 ∷ []) lent) 22 0 lent
    × Answers (select plates (65 ∷ 51 ∷ []) (65 ∷ 50 ∷ []) lent) 22 0 lent
unfolding range-definitions plates
crossed-ranges = (refl, refl)

-- "a list that can't hold N slot numbers": a byte too few; 20 bytes are enough
pub short-list : Answers (select plates (65 ∷ 0 ∷ []) (65 ∷ 255 ∷ []) (zeros 19)) 16 0 (zeros 19)
    × Answers (select plates (65 ∷ 0 ∷ []) (65 ∷ 255 ∷ []) (zeros 20)) 0 2
    (0 ∷ 0 ∷ 0 ∷ 0 ∷ 0 ∷ 0 ∷ 0 ∷ 4 ∷ zeros 12)
unfolding range-definitions plates
short-list = (refl, refl)

-- 22 "after 6", 16 "here after 22": all three, and the last two
pub in_order : Answers (select (set_field plates free_field 9000) (66 ∷ 0 ∷ []) (65 ∷ 255 ∷ []) (zeros 19)) 6 0 (zeros 19)
    × Answers (select plates (66 ∷ 0 ∷ []) (65 ∷ 255 ∷ []) (zeros 19)) 22 0 (zeros 19)
unfolding range-definitions plates
in_order = (refl, refl)
