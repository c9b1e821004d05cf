-- Document 01, "Questions before a call": questions 1 to 14, and for each call the order in which it puts them.
--     first_no qs      the number of the first question answered no, 0 where there is none
-- Where a question begins with a condition ("If the key is absent, .."), it is answered yes where the condition fails.
-- Assumes nothing.
use Rattle.std.specs.Prelude.{ℕ, ◌+◌, ◌%◌, Bool, true, cond, not, ◌&&◌, ◌||◌, List, [], ◌∷◌, length, get_or, leb, ltb, eqb}
use Rattle.std.proofs.Math.Option.{Option, none, some}
use Rattle.spec_file.specs.Bytes.{Bytes, part, same, all_zero}
use Rattle.spec_file.specs.Limits.{page_size, most_image, most_key, most_slots, most_character, magic, major, minor, patch, wide_major, wide_minor, wide_patch, active, inactive, key_field, slots_field, points_field, first_field, last_field, scramble_field, table_field, data_field, free_field, scramble_start, table_start}
use Rattle.spec_file.specs.Image.{field, data_start, Layout, layout_of, slot, offset_of}
use Rattle.spec_file.specs.Search.{Probe, met, empty, exhausted, search, is_met, is_empty}
use Rattle.spec_file.specs.Messages.{head_size, letter_at, length_at, placed_text}

-- "In this order; the first "no" gives the number."
pub record Question : Type 0 where
  pub asked : ℕ
  pub yes? : Bool

unfoldable pub ask : ℕ → Bool → Question
ask n b = record { asked = n; yes? = b }

unfoldable pub first_no : List Question → ℕ
first_no [] = 0
first_no (q ∷ qs) = cond q.yes? (first_no qs) q.asked

-- "1. Is L a multiple of 4,096 from 4,096 to 16,777,216?" 02: "Questions 1, 3 and 6 take the new limits", here
-- "Images may be up to 1,073,741,824 bytes"
unfoldable pub size_allowed : ℕ → Bool
size_allowed L = eqb (L % page_size) 0 && leb page_size L && leb L most_image

-- "2. Is K from 1 to 32?"
unfoldable pub key_allowed : ℕ → Bool
key_allowed K = leb 1 K && leb K most_key

-- "3. Is N at most 65,536?" 02: "N up to 1,048,576"
unfoldable pub slots_allowed : ℕ → Bool
slots_allowed N = leb N most_slots

-- "4. Is D at most L?"
unfoldable pub table_fits : ℕ → ℕ → ℕ → Bool
table_fits L K N = leb (data_start K N) L

-- "5. Are the first 5 bytes "BHTFv", the next two 1 and 0, the next at most 1?" 02: "question 5 accepts up to 2";
-- Job 11: "Question 5 takes 2, 0, 0 too"
unfoldable pub version_known : Bytes → Bool
version_known img =
    same (part img 0 5) magic
    && ((eqb (get_or img 5 0) major && eqb (get_or img 6 0) minor && leb (get_or img 7 0) patch)
    || (eqb (get_or img 5 0) wide_major && eqb (get_or img 6 0) wide_minor && eqb (get_or img 7 0) wide_patch))

-- "6. Is K from 1 to 32, N from 1 to 65,536, C at most N, F ≤ E ≤ 255, are the scramble and table offsets as above, is
-- D by its formula, and D ≤ X ≤ L?" 02: "N up to 1,048,576". After question 1 no field within these bounds has its top
-- bit set: `top_bit`.
unfoldable pub header_sound : Bytes → Bool
header_sound img =
    key_allowed (field img key_field)
    && (leb 1 (field img slots_field) && slots_allowed (field img slots_field))
    && leb (field img points_field) (field img slots_field)
    && (leb (field img first_field) (field img last_field) && leb (field img last_field) most_character)
    && (eqb (field img scramble_field) scramble_start && eqb (field img table_field) table_start)
    && eqb (field img data_field) (data_start (field img key_field) (field img slots_field))
    && (leb (field img data_field) (field img free_field) && leb (field img free_field) (length img))

-- "7. Has the key K bytes, not all zero?"
unfoldable pub name_allowed : ℕ → Bytes → Bool
name_allowed K key = eqb (length key) K && not (all_zero key)

-- "8. Is the mode 1, 2 or 3?" 02: "question .. 8 [accepts] mode 4"
unfoldable pub mode_known : ℕ → Bool
mode_known mode = leb 1 mode && leb mode 4

-- 02: "Mode 4 .. gives 14 for an absent name", "14 stands after 8 for mode 4"
unfoldable pub met_in_mode4 : Probe → ℕ → Bool
met_in_mode4 s mode = not (eqb mode 4) || is_met s

-- "9. In mode 1, is the key absent?"
unfoldable pub new_in_mode1 : Probe → ℕ → Bool
new_in_mode1 s mode = not (eqb mode 1 && is_met s)

-- "10. If the key is absent, is a slot empty and C below N?" of a number of points
unfoldable pub slot_to_take : ℕ → ℕ → Probe → Bool
slot_to_take points N s = is_met s || (is_empty s && ltb points N)

-- "11. If the key is present with an offset other than 0: is it at least D, the letter "a" or "d", m at least 1, the
-- message's end at most X?" of the offset o. 02: "question .. 11 [accepts] m = 0"
unfoldable pub message_sound : Layout → Bytes → ℕ → Bool
message_sound g img o =
    eqb o 0
    || (leb g.D o
    && (eqb (letter_at img o) active || eqb (letter_at img o) inactive)
    && leb (o + head_size g + length_at g img o) (field img free_field))

-- of the key's slot, where it is present
unfoldable pub met_message_sound : Layout → Bytes → Probe → Bool
met_message_sound g img (met i) = message_sound g img (offset_of g (slot g img i))
met_message_sound g img (empty i) = true
met_message_sound g img exhausted = true

-- "For delete, with or without an offset: is C at least 1?"
unfoldable pub some_point : Bytes → Bool
some_point img = leb 1 (field img points_field)

-- "12. Is the message to be placed in new space at most 16,777,215 bytes?" 02, Job 11: on a 2.0 image
-- "question 12's bound is 1,073,741,823"
unfoldable pub length_allowed : Layout → Option Bytes → Bool
length_allowed g none = true
length_allowed g (some t) = leb (length t) g.most

-- "13. Does that space end at or below L?" of space that is taken at a place
unfoldable pub space_left : Layout → ℕ → ℕ → Option Bytes → Bool
space_left g place L none = true
space_left g place L (some t) = leb (place + head_size g + length t) L

-- "14. Is the key present?" is `is_met`.

-- ---- the order for each call: "Create: 1 to 4. Every other call: 1, 5, 6, then add 7 to 13; lookup and delete 7, 14,
-- 11; count, walk and check nothing more." N is the number of slots after "0 means 5,507".
unfoldable pub create_asks : ℕ → ℕ → ℕ → List Question
create_asks L K N = ask 1 (size_allowed L) ∷ ask 2 (key_allowed K) ∷ ask 3 (slots_allowed N) ∷ ask 4 (table_fits L K N) ∷ []

unfoldable pub opened : Bytes → List Question → List Question
opened img more = ask 1 (size_allowed (length img)) ∷ ask 5 (version_known img) ∷ ask 6 (header_sound img) ∷ more

-- 7 and 8, before all that looks at the table
unfoldable pub named : ℕ → Bytes → ℕ → List Question → List Question
named K key mode more = ask 7 (name_allowed K key) ∷ ask 8 (mode_known mode) ∷ more

-- 14 for mode 4, then 9 to 13
unfoldable pub point_asks : Layout → Bytes → Probe → Bytes → ℕ → List Question
point_asks g img s data' mode =
    ask 14 (met_in_mode4 s mode)
    ∷ ask 9 (new_in_mode1 s mode)
    ∷ ask 10 (slot_to_take (field img points_field) g.N s)
    ∷ ask 11 (met_message_sound g img s)
    ∷ ask 12 (length_allowed g (placed_text g img s data' mode))
    ∷ ask 13 (space_left g (field img free_field) (length img) (placed_text g img s data' mode))
    ∷ []

unfoldable pub add_asks : Layout → Bytes → Probe → Bytes → Bytes → ℕ → List Question
add_asks g img s key data' mode = named g.K key mode (point_asks g img s data' mode)

-- 14 and 11, of lookup and of delete
abbrev pub shown_asks : Layout → Bytes → Probe → List Question
shown_asks g img s = ask 14 (is_met s) ∷ ask 11 (met_message_sound g img s) ∷ []

abbrev pub removed_asks : Layout → Bytes → Probe → List Question
removed_asks g img s = ask 14 (is_met s) ∷ ask 11 (met_message_sound g img s && some_point img) ∷ []

unfoldable pub lookup_asks : Layout → Bytes → Probe → Bytes → List Question
lookup_asks g img s key = ask 7 (name_allowed g.K key) ∷ shown_asks g img s

unfoldable pub delete_asks : Layout → Bytes → Probe → Bytes → List Question
delete_asks g img s key = ask 7 (name_allowed g.K key) ∷ removed_asks g img s

-- 12 and 13 alone, of the text that is to be placed in new space, if any
abbrev pub place_number : Layout → Bytes → Option Bytes → ℕ
place_number g img p =
    first_no (ask 12 (length_allowed g p) ∷ ask 13 (space_left g (field img free_field) (length img) p) ∷ [])

-- the number that each call is refused with, 0 where it is accepted
unfoldable pub create_number : ℕ → ℕ → ℕ → ℕ
create_number L K N = first_no (create_asks L K N)

unfoldable pub open_number : Bytes → ℕ
open_number img = first_no (opened img [])

-- 1, 5, 6 and 7, and add's 8 (yes where a call has no mode): what every call on a name asks before the table is read
unfoldable pub seek_number : Bytes → Bytes → Bool → ℕ
seek_number img key known = first_no (opened img (ask 7 (name_allowed (layout_of img).K key) ∷ ask 8 known ∷ []))

unfoldable pub add_number : Bytes → Bytes → Bytes → ℕ → ℕ
add_number img key data' mode =
    let g : Layout = layout_of img in
    first_no (opened img (add_asks g img (search g img key) key data' mode))

unfoldable pub delete_number : Bytes → Bytes → ℕ
delete_number img key =
    let g : Layout = layout_of img in
    first_no (opened img (delete_asks g img (search g img key) key))

unfoldable pub lookup_number : Bytes → Bytes → ℕ
lookup_number img key =
    let g : Layout = layout_of img in
    first_no (opened img (lookup_asks g img (search g img key) key))
