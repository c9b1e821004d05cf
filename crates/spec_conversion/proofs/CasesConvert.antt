-- Document 02, Job 11, "Scans longer than sixteen MiB": cases of the converter, by computation, and the order of its
-- questions. Lists that go on in the target stand in crates/spec_cases, the book's in crates/spec_book.
--     convert-definitions     unfolding it unfolds all that a conversion computes with
--     wide_others              the file of another program, as 2.0.0
-- Assumes nothing.
use mathlib.Core.Path.{◌≡◌, refl}
use Prim.Native.Nat.{ℕ}
use mathlib.Core.Bool.{true, false}
use mathlib.Core.List.{[], ◌∷◌, ◌++◌}
use lib.ListN.{length, replicate}
use Rattle.spec_file.specs.Bytes.{Bytes, part, store, digits, zeros}
use Rattle.spec_file.specs.Limits.{magic, points_field, free_field}
use Rattle.spec_file.specs.Image.{set_field, slot_bytes, Layout, layout_of}
use Rattle.spec_file.specs.Questions.{ask, first_no, size_allowed, version_known, header_sound}
use Rattle.spec_file.specs.Lists.{adding}
use Rattle.spec_file.specs.Inspect.{check}
use Rattle.spec_file.proofs.CasesBase.{inspect-definitions, headed, after, one, point, refused}
use Rattle.spec_file.proofs.CasesInspect.{no, slot_of}
use Rattle.spec_file.proofs.CasesOthers.{others, left}
use Rattle.spec_compaction.specs.Compact.{is_sound}
use Rattle.spec_conversion.specs.Convert.{other_major, other_version, recast, other_layout, bare_slot, bare_slots, bare_image, slot_with, carried, carried_slot, carried_at, carried_from, converted, needs, needs_from, told, told_from, lengths_told, target_holds, convert_number, convert, convert_into}

unfoldable pub convert-definitions : ℕ
unfolding inspect-definitions is_sound
    other_major other_version recast other_layout bare_slot bare_slots bare_image slot_with carried carried_slot carried_at
    carried_from converted needs needs_from told told_from lengths_told target_holds convert_number convert convert_into
convert-definitions = 0

-- ---- every byte of the target

-- the file of another program in a version, with X, and with the table and the data area as given: serial, multiplier,
-- start value, F and E, and scramble are its own; M is 0; all other bytes are zero
unfoldable pub others_as : Bytes → ℕ → Bytes → Bytes → Bytes
unfolding digits zeros
others_as version X table area =
    magic ++ version ++ digits 4 77 ++ digits 4 1 ++ digits 4 3 ++ digits 4 3 ++ digits 4 5 ++ digits 4 7
    ++ digits 4 0 ++ digits 4 3 ++ digits 4 512 ++ digits 4 2048 ++ digits 4 4096 ++ digits 4 X ++ digits 4 0
    ++ zeros 452 ++ digits 4 9 ++ digits 4 0 ++ digits 4 1 ++ digits 4 3 ++ zeros 1520 ++ table ++ zeros 2033 ++ area

-- "in the order of their offsets": "PQ" of slot 2 and "T" of slot 1, each behind a letter and 4 bytes; "RS" of slot 0,
-- inactive, loses its offset. The source's 1.0.0, its M of 9 and its bytes that no rule names are gone.
unfoldable pub wide_others : Bytes
unfolding others_as slot_bytes digits zeros
wide_others =
    others_as (2 ∷ 0 ∷ 0 ∷ []) 4109
    (slot_bytes (1 ∷ []) 0 ++ slot_bytes (3 ∷ []) 4103 ++ slot_bytes (2 ∷ []) 4096)
    (97 ∷ 0 ∷ 0 ∷ 0 ∷ 2 ∷ 80 ∷ 81 ∷ 97 ∷ 0 ∷ 0 ∷ 0 ∷ 1 ∷ 84 ∷ zeros 4083)

pub others-widened : (convert others 8192).after ≡ wide_others
unfolding convert-definitions others wide_others
others-widened = refl

-- and back, as 1.0.2, with 3 bytes
unfoldable pub narrow_others : Bytes
unfolding others_as slot_bytes digits zeros
narrow_others =
    others_as (1 ∷ 0 ∷ 2 ∷ []) 4107
    (slot_bytes (1 ∷ []) 0 ++ slot_bytes (3 ∷ []) 4102 ++ slot_bytes (2 ∷ []) 4096)
    (97 ∷ 0 ∷ 0 ∷ 2 ∷ 80 ∷ 81 ∷ 97 ∷ 0 ∷ 0 ∷ 1 ∷ 84 ∷ zeros 4085)

pub others-narrowed : (convert wide_others 8192).after ≡ narrow_others
unfolding convert-definitions wide_others narrow_others
others-narrowed = refl

-- Offset bytes of an empty slot become zero; the target, longer than the source, was full of sevens.
pub left-widened : convert_into left (replicate 8192 7)
    ≡ store (set_field (store (headed 1 4 4096) 2048 (no ++ no ++ no ++ slot_of 1 0)) points_field 1) 5 (2 ∷ 0 ∷ 0 ∷ [])
    ++ zeros 4096
unfolding convert-definitions left headed
left-widened = refl

-- An empty note is carried, of 5 bytes; a point without a message has no offset.
pub note-widened : part (convert (after (adding one [] 1 ∷ point 2 ∷ []) (headed 1 4 8192)) 8192).after 2048 2054
    ≡ slot_bytes (2 ∷ []) 0 ++ no ++ no ++ slot_bytes (1 ∷ []) 4096 ++ zeros 2028 ++ (97 ∷ 0 ∷ 0 ∷ 0 ∷ 0 ∷ 0 ∷ [])
unfolding convert-definitions after headed
note-widened = refl

-- ---- refused

-- "1 to both slices, 5 and 6, then 15 if unsound, .. and 13 for a target too small": the target's 1 before 5, the
-- source's too; 15 before 13
pub numbers : convert_number (zeros 4095) 8192 ∷ convert_number (zeros 4096) 8193 ∷ convert_number (zeros 4096) 8192
    ∷ convert_number (set_field others free_field 9000) 4096 ∷ convert_number (set_field others points_field 2) 4096
    ∷ convert_number others 4096 ∷ []
    ≡ 1 ∷ 1 ∷ 5 ∷ 6 ∷ 15 ∷ 13 ∷ []
unfolding convert-definitions others
numbers = refl

-- D and 5 + 2 and 5 + 1: such a target holds the messages, one byte fewer does not; nor does one below D hold none
pub target-holds : (target_holds others 4109 ≡ true) × (target_holds others 4108 ≡ false) × (target_holds left 4096 ≡ true)
    × (target_holds left 4095 ≡ false)
unfolding convert-definitions others left
target-holds = (refl, refl, refl, refl)

-- refused, it leaves the list in the source, and the target as it was
pub refused-convert : (convert others 4096 ≡ record { after = others; answer = refused 13 })
    × (convert_into others (replicate 4096 7) ≡ replicate 4096 7)
unfolding convert-definitions others
refused-convert = (refl, refl)

-- "20 .. an active message above" the largest length that the target's headers tell, here 1: of "PQ" in slot 2, not of
-- the inactive "RS" in slot 0, nor of "T" in slot 1
abbrev one_byte : Layout
one_byte = record { K = 1; N = 3; D = 4096; W = 3; most = 1; hashed = λ key. 0 }

pub lengths : (told (layout_of others) one_byte others 0 ≡ true) × (told (layout_of others) one_byte others 1 ≡ true)
    × (told (layout_of others) one_byte others 2 ≡ false)
unfolding convert-definitions others
lengths = (refl, refl, refl)

-- the target's largest length, on widening and on narrowing
pub target-most : ((other_layout others).most ≡ 1073741823) × ((other_layout wide_others).most ≡ 16777215)
unfolding convert-definitions others wide_others
target-most = (refl, refl)

-- ---- the order of 15, 20 and 13, which no small image shows

module _ (img : Bytes) (L : ℕ) (a : size_allowed (length img) ≡ true) (b : size_allowed L ≡ true)
    (c : version_known img ≡ true) (d : header_sound img ≡ true) where
  -- "then 15 if unsound", whatever the lengths
  pub first-15 : is_sound (check img) ≡ false → convert_number img L ≡ 15
  unfolding convert_number first_no ask
  first-15 e = rw (a, b, c, d, e) refl

  -- "20 .., and 13", whether or not the target holds them
  pub first-20 : is_sound (check img) ≡ true → lengths_told img ≡ false → convert_number img L ≡ 20
  unfolding convert_number first_no ask
  first-20 e f = rw (a, b, c, d, e, f) refl
