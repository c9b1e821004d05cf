-- Document 02, Job 2: "A new call moves all active messages down, in the order of their offsets, without gaps from D
-- on, lowers X, zeroes every byte from X on, and sets the offset of each inactive message to 0."
--     packed g img         the active messages of taken slots, one behind the other in the order of their offsets
--     packed_offset g img o where the message at offset o stands afterwards, 0 where it is not active
--     compacted g img      the image that an accepted compaction leaves
--     compact img          the call
-- Assumes nothing.
use Rattle.std.specs.Prelude.{ℕ, zero, suc, ◌+◌, ◌-◌, Bool, true, false, cond, ◌&&◌, [], ◌∷◌, ◌++◌, length, eqb}
use Rattle.spec_file.specs.Bytes.{Bytes, part, store, zeros}
use Rattle.spec_file.specs.Limits.{free_field, table_start}
use Rattle.spec_file.specs.Image.{field, Layout, layout_of, slot, key_of, offset_of, slot_bytes}
use Rattle.spec_file.specs.Messages.{head_size, length_at, is_active, set_free}
use Rattle.spec_file.specs.Questions.{ask, first_no, opened}
use Rattle.spec_file.specs.Calls.{Outcome, plain, settled}
use Rattle.spec_file.specs.Inspect.{taken, some_below, Verdict, refused, sound, slot_bad, count_bad, check}

-- ---- the messages

-- a taken slot's active message begins at offset p
unfoldable pub begins_at : Layout → Bytes → ℕ → Bool
begins_at g img p = is_active img p && some_below (λ i. taken g img i && eqb (offset_of g (slot g img i)) p) g.N

-- its bytes, header and text; none where no message begins
unfoldable pub block_at : Layout → Bytes → ℕ → Bytes
block_at g img p = cond (begins_at g img p) (part img p (head_size g + length_at g img p)) []

-- "in the order of their offsets, without gaps": the messages that begin at p, p + 1, .., of so many places
unfoldable pub packed_from : Layout → Bytes → ℕ → ℕ → Bytes
packed_from g img zero p = []
packed_from g img (suc left) p = block_at g img p ++ packed_from g img left (suc p)

-- those that begin below q
unfoldable pub packed_below : Layout → Bytes → ℕ → Bytes
packed_below g img q = packed_from g img (q - g.D) g.D

-- all of them
unfoldable pub packed : Layout → Bytes → Bytes
packed g img = packed_below g img (field img free_field)

-- ---- the table

-- "moves all active messages down .. from D on", "sets the offset of each inactive message to 0"
unfoldable pub packed_offset : Layout → Bytes → ℕ → ℕ
packed_offset g img o = cond (is_active img o) (g.D + length (packed_below g img o)) 0

-- slot i afterwards: a taken one with its message's offset, an empty one as it was
unfoldable pub packed_slot : Layout → Bytes → ℕ → Bytes
packed_slot g img i =
    let s : Bytes = slot g img i in
    cond (taken g img i) (slot_bytes (key_of g s) (packed_offset g img (offset_of g s))) s

-- the slots from i on, of those that are left
unfoldable pub packed_slots : Layout → Bytes → ℕ → ℕ → Bytes
packed_slots g img zero i = []
packed_slots g img (suc left) i = packed_slot g img i ++ packed_slots g img left (suc i)

-- ---- the image

-- X afterwards
unfoldable pub packed_end : Layout → Bytes → ℕ
packed_end g img = g.D + length (packed g img)

-- "without gaps from D on, .. zeroes every byte from X on"
unfoldable pub packed_data : Layout → Bytes → Bytes
packed_data g img = packed g img ++ zeros (length img - packed_end g img)

-- "lowers X"; 01: "A call that changes X rewrites M", so where X stays, M stays
unfoldable pub lower_free : ℕ → Bytes → ℕ → Bytes
lower_free D img x = cond (eqb (field img free_field) x) img (set_free D img x)

unfoldable pub compacted : Layout → Bytes → Bytes
compacted g img =
    lower_free g.D (store (store img table_start (packed_slots g img g.N 0)) g.D (packed_data g img))
    (packed_end g img)

-- ---- the call

unfoldable pub is_sound : Verdict → Bool
is_sound (refused n) = false
is_sound sound = true
is_sound (slot_bad i) = false
is_sound count_bad = false

-- "It answers 0, or 15, after 6, if the image isn't sound."
unfoldable pub compact_number : Bytes → ℕ
compact_number img = first_no (opened img (ask 15 (is_sound (check img)) ∷ []))

unfoldable pub compact : Bytes → Outcome Bytes
compact img =
    let n : ℕ = compact_number img in
    record { after = settled n img (compacted (layout_of img) img); answer = plain n }
