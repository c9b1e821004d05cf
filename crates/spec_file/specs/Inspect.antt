-- Document 01, "Walk, check, lister, C": the key walk and the check of an image. Both put questions 1, 5 and 6.
-- Assumes nothing.
use Rattle.std.specs.Prelude.{ℕ, zero, suc, ◌+◌, ◌-◌, Bool, true, false, cond, not, ◌&&◌, ◌||◌, ltb, eqb}
use Rattle.std.proofs.Math.Option.{Option, none, some}
use Rattle.spec_file.specs.Bytes.{Bytes, part}
use Rattle.spec_file.specs.Limits.{points_field}
use Rattle.spec_file.specs.Image.{field, Layout, layout_of, slot_start, slot, key_of, offset_of, vacant}
use Rattle.spec_file.specs.Search.{Probe, met, empty, exhausted, search}
use Rattle.spec_file.specs.Messages.{head_size, length_at}
use Rattle.spec_file.specs.Questions.{message_sound, open_number}

-- the lowest slot at or above i, of those that are left, for which the test holds
unfoldable pub lowest : (ℕ → Bool) → ℕ → ℕ → Option ℕ
lowest p zero i = none
lowest p (suc left) i = elim (p i) [ true ↦ some i | false ↦ lowest p left (suc i) ]

unfoldable pub taken : Layout → Bytes → ℕ → Bool
taken g img i = not (vacant g (slot g img i))

-- how many slots from i on, of those that are left, are taken
unfoldable pub taken_from : Layout → Bytes → ℕ → ℕ → ℕ
taken_from g img zero i = 0
taken_from g img (suc left) i = cond (taken g img i) 1 0 + taken_from g img left (suc i)

-- ---- the walk

-- "The walk from slot i shows the lowest taken slot at or above i, its key as a part of the image, or the end; i ≥ N is
-- the end. The end and a refusal show the image's first 0 bytes."
pub data Stop : Type 0 where
  refused : ℕ → Stop
  stopped : ℕ → Stop
  end : Stop

unfoldable pub next_taken : Layout → Bytes → ℕ → Option ℕ
next_taken g img i = lowest (taken g img) (g.N - i) i

unfoldable pub stop_at : Option ℕ → Stop
stop_at none = end
stop_at (some i) = stopped i

unfoldable pub key_walk : Bytes → ℕ → Stop
key_walk img i = cond (eqb (open_number img) 0) (stop_at (next_taken (layout_of img) img i)) (refused (open_number img))

-- the walk's number
unfoldable pub stop_number : Stop → ℕ
stop_number (refused n) = n
stop_number (stopped i) = 0
stop_number end = 0

-- where the part that the walk shows starts, and its length
unfoldable pub key_start : Bytes → Stop → ℕ
key_start img (refused n) = 0
key_start img (stopped i) = slot_start (layout_of img) i
key_start img end = 0

unfoldable pub key_length : Bytes → Stop → ℕ
key_length img (refused n) = 0
key_length img (stopped i) = (layout_of img).K
key_length img end = 0

unfoldable pub key_shown : Bytes → Stop → Bytes
key_shown img s = part img (key_start img s) (key_length img s)

-- ---- the check

unfoldable pub ends_at : Probe → ℕ → Bool
ends_at (met j) i = eqb j i
ends_at (empty j) i = false
ends_at exhausted i = false

-- a taken slot whose "key, searched, ends there", and whose "message passes 11"
unfoldable pub entry_sound : Layout → Bytes → ℕ → Bool
entry_sound g img i =
    ends_at (search g img (key_of g (slot g img i))) i && message_sound g img (offset_of g (slot g img i))

-- Document 02, Job 1: "Now a taken slot with an offset other than 0 also fails the check when its stretch, from its
-- header to the end of its message, meets the stretch of a lower-numbered taken slot." Inactive messages have stretches
-- too; equal offsets meet, and a stretch that begins where another ends does not. Start and end are 0 where a slot has
-- no stretch, so that it meets none.
unfoldable pub stretch_start : Layout → Bytes → ℕ → ℕ
stretch_start g img i = cond (taken g img i) (offset_of g (slot g img i)) 0

-- where the message at an offset ends; 0 for no offset
unfoldable pub end_at : Layout → Bytes → ℕ → ℕ
end_at g img o = cond (eqb o 0) 0 (o + head_size g + length_at g img o)

unfoldable pub stretch_end : Layout → Bytes → ℕ → ℕ
stretch_end g img i = end_at g img (stretch_start g img i)

-- the stretches of two slots share a byte
unfoldable pub meets : Layout → Bytes → ℕ → ℕ → Bool
meets g img i j =
    ltb (stretch_start g img i) (stretch_end g img j) && ltb (stretch_start g img j) (stretch_end g img i)

-- whether the test holds for a number below n
unfoldable pub some_below : (ℕ → Bool) → ℕ → Bool
some_below p zero = false
some_below p (suc n) = p n || some_below p n

unfoldable pub meets_lower : Layout → Bytes → ℕ → Bool
meets_lower g img i = some_below (meets g img i) i

unfoldable pub slot_sound : Layout → Bytes → ℕ → Bool
slot_sound g img i = entry_sound g img i && not (meets_lower g img i)

unfoldable pub slot_fails : Layout → Bytes → ℕ → Bool
slot_fails g img i = taken g img i && not (slot_sound g img i)

-- "The check says sound when each taken slot's key, searched, ends there, its message passes 11, and C is the number of
-- taken slots. Else it names the lowest failing slot, or, if only C fails, the count." A slot fails for any of the
-- three reasons.
pub data Verdict : Type 0 where
  refused : ℕ → Verdict
  sound : Verdict
  slot_bad : ℕ → Verdict
  count_bad : Verdict

unfoldable pub count_sound : Layout → Bytes → Bool
count_sound g img = eqb (field img points_field) (taken_from g img g.N 0)

unfoldable pub verdict_of : Bool → Option ℕ → Verdict
verdict_of c (some i) = slot_bad i
verdict_of true none = sound
verdict_of false none = count_bad

-- of the table of an image whose header is accepted
abbrev pub table_verdict : Bytes → Verdict
table_verdict img =
    verdict_of (count_sound (layout_of img) img) (lowest (slot_fails (layout_of img) img) (layout_of img).N 0)

unfoldable pub check : Bytes → Verdict
check img = cond (eqb (open_number img) 0) (table_verdict img) (refused (open_number img))

-- the check's number
unfoldable pub verdict_number : Verdict → ℕ
verdict_number (refused n) = n
verdict_number sound = 0
verdict_number (slot_bad i) = 0
verdict_number count_bad = 0
