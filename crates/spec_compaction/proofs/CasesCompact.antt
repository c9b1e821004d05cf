-- Document 02, Job 2, "Space of dead messages": cases of compaction, by computation. Names of bytes below 32 have one
-- home: of 4 slots byte 1 takes slot 3, byte 2 slot 0, byte 3 slot 1. The book's answers to the same lists stand in
-- crates/spec_book/proofs/CasesTrimmed.antt.
--     compact-definitions     unfolding it unfolds all that a compaction computes with
-- Assumes nothing.
use mathlib.Core.Path.{◌≡◌, refl}
use Prim.Native.Nat.{ℕ}
use mathlib.Core.List.{List, [], ◌∷◌, ◌++◌}
use Rattle.spec_file.specs.Bytes.{Bytes, store, digits, zeros}
use Rattle.spec_file.specs.Limits.{free_field, page_field, points_field}
use Rattle.spec_file.specs.Image.{set_field, slot_bytes}
use Rattle.spec_file.specs.Calls.{Answer}
use Rattle.spec_file.specs.Lists.{Call, adding, deleting, looking}
use Rattle.spec_file.proofs.CasesBase.{inspect-definitions, headed, after, one, two, point, done, refused, shows, shows-none}
use Rattle.spec_file.proofs.CasesOthers.{others, left}
use Rattle.spec_compaction.specs.Compact.{begins_at, block_at, packed_from, packed_below, packed, packed_offset, packed_slot, packed_slots, packed_end, packed_data, lower_free, compacted, is_sound, compact_number, compact}

unfoldable pub compact-definitions : ℕ
unfolding inspect-definitions
    begins_at block_at packed_from packed_below packed packed_offset packed_slot packed_slots packed_end packed_data lower_free
    compacted is_sound compact_number compact
compact-definitions = 0

-- ---- lists of calls before and after a compaction; the file's answers: crates/spec_cases/proofs/CasesLists.antt

-- "in the order of their offsets": "P" of slot 3, "S" of slot 1 and "TUV" of slot 0, which was "QR" before. The freed
-- space "is used again": "W" goes behind them.
abbrev pub order_before : List Call
order_before =
    adding one (80 ∷ []) 1 ∷ adding two (81 ∷ 82 ∷ []) 1 ∷ adding (3 ∷ []) (83 ∷ []) 1
    ∷ adding two (84 ∷ 85 ∷ 86 ∷ []) 2 ∷ []

abbrev pub order_after : List Call
order_after = looking one ∷ looking two ∷ looking (3 ∷ []) ∷ adding (4 ∷ []) (87 ∷ []) 1 ∷ []

abbrev pub order_answers : List Answer
order_answers = shows 1 (80 ∷ []) ∷ shows 3 (84 ∷ 85 ∷ 86 ∷ []) ∷ shows 1 (83 ∷ []) ∷ done ∷ []

-- Withdrawn "PQ", "RS" emptied in place, a deleted "T", a note, and a point without a message. "after compaction an
-- entry has an offset exactly when its text is not none": the two notes stay, of 4 bytes each. "makes held the text's
-- length": a note of the withdrawn point takes new space, a note in place of a note none, and a byte in its place new
-- space, where 2 bytes stood before.
abbrev pub mixed_before : List Call
mixed_before =
    adding one (80 ∷ 81 ∷ []) 1 ∷ adding two (82 ∷ 83 ∷ []) 1 ∷ adding (5 ∷ []) (84 ∷ []) 1 ∷ adding (3 ∷ []) [] 1
    ∷ deleting (5 ∷ []) ∷ point 4 ∷ adding one [] 4 ∷ adding two [] 2 ∷ []

abbrev pub mixed_after : List Call
mixed_after =
    looking one ∷ looking two ∷ looking (3 ∷ []) ∷ looking (4 ∷ []) ∷ looking (5 ∷ []) ∷ adding one [] 2
    ∷ adding (3 ∷ []) [] 2 ∷ adding two (86 ∷ []) 2 ∷ []

abbrev pub mixed_answers : List Answer
mixed_answers =
    shows-none ∷ shows 0 [] ∷ shows 0 [] ∷ shows-none ∷ refused 14 ∷ done ∷ done ∷ done ∷ []

-- ---- every byte of the file

-- "PQ" at D and "R" behind it, both active
unfoldable pub tidy : Bytes
unfolding after headed
tidy = after (adding one (80 ∷ 81 ∷ []) 1 ∷ adding two (82 ∷ []) 1 ∷ []) (headed 1 4 8192)

-- with a wrong M, and with bytes that are not zero below D, above X and at the end
unfoldable pub dirty : Bytes
unfolding tidy store digits set_field
dirty = set_field (store (store (store tidy 4095 (9 ∷ [])) 4107 (9 ∷ 9 ∷ [])) 8191 (9 ∷ [])) page_field 77

-- Nothing is dead: the wrong M stays, since X does. "zeroes every byte from X on", up to L; the byte below D stays.
pub nothing-dead : (compact dirty).after ≡ set_field (store tidy 4095 (9 ∷ [])) page_field 77
unfolding compact-definitions dirty
nothing-dead = refl

-- Of the file of another program: "PQ" of slot 2 and "T" of slot 1 move down, "RS" of slot 0, inactive, loses its
-- offset; X falls by 13, and M, which was 9, is written. All other bytes are as they were.
pub others-compacted : (compact others).after
    ≡ set_field (set_field
    (store (store others 2048 (slot_bytes (1 ∷ []) 0 ++ slot_bytes (3 ∷ []) 4102 ++ slot_bytes (2 ∷ []) 4096))
    4096 (97 ∷ 0 ∷ 0 ∷ 2 ∷ 80 ∷ 81 ∷ 97 ∷ 0 ∷ 0 ∷ 1 ∷ 84 ∷ zeros 13))
    free_field 4107) page_field 0
unfolding compact-definitions others
others-compacted = refl

-- the offset bytes of an empty slot stay
pub left-stays : (compact left).after ≡ left
unfolding compact-definitions left
left-stays = refl

-- ---- refused

-- slot 1 begins inside slot 0's message: "15, after 6, if the image isn't sound"; no byte changes
unfoldable pub meeting : Bytes
unfolding after headed slot_bytes digits
meeting =
    set_field
    (store (after (adding one (97 ∷ 0 ∷ 0 ∷ 0 ∷ []) 1 ∷ []) (headed 1 4 8192)) 2048 (slot_bytes (2 ∷ []) 4100))
    points_field 2

pub refused-compact : ((compact meeting).answer ≡ refused 15) × ((compact meeting).after ≡ meeting)
    × ((compact (set_field meeting free_field 9000)).answer ≡ refused 6)
    × ((compact (set_field tidy points_field 1)).answer ≡ refused 15)
unfolding compact-definitions meeting tidy
refused-compact = (refl, refl, refl, refl)
