-- Cases of the file alone: messages, on bytes fewer than an image has; the table, and images that no create left. More
-- in crates/spec_cases/proofs/CasesImages.antt.
--     short m       one slot, of byte 1, with the message bytes m at D = 2,053; `asks` puts 9 to 13 there
--     single        K = 1, N = 4, with byte 1 in slot 3
-- Assumes nothing.
use mathlib.Core.Path.{◌≡◌, refl}
use Prim.Native.Nat.{ℕ}
use mathlib.Core.List.{[], ◌∷◌, ◌++◌}
use mathlib.Core.Option.{none, some}
use Rattle.spec_file.specs.Limits.{slots_field, points_field, free_field}
use Rattle.spec_file.specs.Bytes.{Bytes, part, store, zeros}
use Rattle.spec_file.specs.Image.{Layout, set_field, layout_of, slot_bytes}
use Rattle.spec_file.specs.Search.{Probe, met, empty, exhausted, search, slots_read}
use Rattle.spec_file.specs.Messages.{shown_length, set_free, retire, overwrite, renewed_text}
use Rattle.spec_file.specs.Questions.{first_no, point_asks}
use Rattle.spec_file.specs.Calls.{lookup_start, lookup_text}
use Rattle.spec_file.specs.Lists.{adding, deleting, looking, counting}
use Rattle.spec_file.proofs.CasesBase.{definitions, headed, after, table, one, two, point, done, refused, counts, answered}

-- ---- messages

-- one slot, of byte 1, at 2,048; from D = 2,053 on the bytes of its message, then 6 more; X = 2,058
abbrev pub short_layout : Layout
short_layout = record { K = 1; N = 1; D = 2053; W = 3; most = 3; hashed = λ key. 0 }

unfoldable pub short : Bytes → Bytes
unfolding definitions
short m = set_field (zeros 2048) free_field 2058 ++ slot_bytes one 2053 ++ m ++ zeros 6

-- 9 to 14 of data in a mode, where the search ended so and the message is "P" behind that letter: X = 2,058, L = 2,064
unfoldable pub asks : ℕ → Probe → ℕ → Bytes → ℕ
unfolding short
asks letter s mode t = first_no (point_asks short_layout (short (letter ∷ 0 ∷ 0 ∷ 1 ∷ 80 ∷ [])) s t mode)

-- 2 bytes find room and 3 give 13; behind "P" 1 does and 2 give 13. 4 give 12, before 13.
pub asks-room : (asks 97 (met 0) 2 (81 ∷ 82 ∷ []) ≡ 0) × (asks 97 (met 0) 2 (81 ∷ 82 ∷ 83 ∷ []) ≡ 13)
    × (asks 97 (met 0) 3 (81 ∷ []) ≡ 0) × (asks 97 (met 0) 3 (81 ∷ 82 ∷ []) ≡ 13)
    × (asks 97 (met 0) 3 (81 ∷ 82 ∷ 83 ∷ []) ≡ 12)
unfolding asks
asks-room = (refl, refl, refl, refl, refl)

-- another letter gives 11, before 12 and 13, but after 9
pub asks-letter : (asks 98 (met 0) 3 (81 ∷ 82 ∷ 83 ∷ 84 ∷ []) ≡ 11) × (asks 98 (met 0) 3 (81 ∷ 82 ∷ 83 ∷ []) ≡ 11)
    × (asks 98 (met 0) 3 [] ≡ 11) × (asks 98 (met 0) 1 (81 ∷ 82 ∷ 83 ∷ 84 ∷ []) ≡ 9)
unfolding asks
asks-letter = (refl, refl, refl, refl)

-- absent: 10 before 12 and 13 where no slot is empty, then 12 and 13; nothing where there is no data
pub asks-absent : (asks 97 exhausted 1 (81 ∷ 82 ∷ 83 ∷ 84 ∷ []) ≡ 10)
    × (asks 97 (empty 0) 1 (81 ∷ 82 ∷ 83 ∷ 84 ∷ []) ≡ 12) × (asks 97 (empty 0) 2 (81 ∷ 82 ∷ 83 ∷ []) ≡ 13)
    × (asks 97 (empty 0) 3 (81 ∷ 82 ∷ []) ≡ 0) × (asks 97 (empty 0) 3 [] ≡ 0)
unfolding asks
asks-absent = (refl, refl, refl, refl, refl)

-- withdrawal of an absent name: 14, before 10 where no slot is empty, whatever its data; of a point it asks for no room
pub asks-withdrawn : (asks 97 exhausted 4 [] ≡ 14) × (asks 97 (empty 0) 4 (81 ∷ 82 ∷ 83 ∷ 84 ∷ []) ≡ 14)
    × (asks 97 (met 0) 4 (81 ∷ 82 ∷ 83 ∷ 84 ∷ []) ≡ 0)
unfolding asks
asks-withdrawn = (refl, refl, refl)

-- the largest length of a file
pub most-length : (layout_of []).most ≡ 16777215
unfolding definitions
most-length = refl

-- Append to a point without a message, and to an inactive "PQ": "Otherwise new space is taken for the new bytes only."
pub placed-none : renewed_text short_layout (short []) 0 (82 ∷ []) 3 ≡ some (82 ∷ [])
unfolding short
placed-none = refl

pub placed-inactive : renewed_text short_layout (short (100 ∷ 0 ∷ 0 ∷ 2 ∷ 80 ∷ 81 ∷ [])) 2053 (82 ∷ []) 3 ≡ some (82 ∷ [])
unfolding short
placed-inactive = refl

pub placed-active : renewed_text short_layout (short (97 ∷ 0 ∷ 0 ∷ 2 ∷ 80 ∷ 81 ∷ [])) 2053 (82 ∷ []) 3
    ≡ some (80 ∷ 81 ∷ 82 ∷ [])
unfolding short
placed-active = refl

-- the bytes that an active, an inactive and no message shows
pub shown-lengths : shown_length short_layout (short (97 ∷ 0 ∷ 0 ∷ 2 ∷ 80 ∷ 81 ∷ [])) 2053
    ∷ shown_length short_layout (short (100 ∷ 0 ∷ 0 ∷ 2 ∷ 80 ∷ 81 ∷ [])) 2053 ∷ shown_length short_layout (short []) 0 ∷ []
    ≡ 2 ∷ 0 ∷ 0 ∷ []
unfolding short
shown-lengths = refl

-- In place of 3 bytes, also inactive ones, 3 take no new space; in place of 1, 2 do.
pub placed-in-place : renewed_text short_layout (short (100 ∷ 0 ∷ 0 ∷ 3 ∷ 80 ∷ 81 ∷ 82 ∷ [])) 2053 (83 ∷ 84 ∷ 85 ∷ []) 2
    ≡ none
unfolding short
placed-in-place = refl

pub placed-longer : renewed_text short_layout (short (97 ∷ 0 ∷ 0 ∷ 1 ∷ 80 ∷ [])) 2053 (81 ∷ 82 ∷ []) 2
    ≡ some (81 ∷ 82 ∷ [])
unfolding short
placed-longer = refl

-- A shorter text: "written there as active, with the rest of the old bytes zeroed"; the byte behind stays.
pub bytes-shorter : part (overwrite short_layout (short (100 ∷ 0 ∷ 0 ∷ 3 ∷ 80 ∷ 81 ∷ 82 ∷ 9 ∷ [])) 2053 (83 ∷ [])) 2053 8
    ≡ 97 ∷ 0 ∷ 0 ∷ 1 ∷ 83 ∷ 0 ∷ 0 ∷ 9 ∷ []
unfolding short
bytes-shorter = refl

-- "the old header, if there is one, becomes "d"": the letter alone changes, and nothing where there is no offset
pub bytes-retired : (part (retire (short (97 ∷ 1 ∷ 2 ∷ 3 ∷ 80 ∷ [])) 2053) 2053 5 ≡ 100 ∷ 1 ∷ 2 ∷ 3 ∷ 80 ∷ [])
    × (retire (97 ∷ 1 ∷ []) 0 ≡ 97 ∷ 1 ∷ [])
unfolding short
bytes-retired = (refl, refl)

-- "A call that changes X rewrites M": X = 4,096 + 4,097
pub bytes-free : part (set_free 4096 (zeros 62) 8193) 52 10 ≡ 0 ∷ 0 ∷ 32 ∷ 1 ∷ 0 ∷ 0 ∷ 0 ∷ 1 ∷ 0 ∷ 0 ∷ []
unfolding definitions
bytes-free = refl

-- ---- the table, and header numbers after a call

-- byte 1 at home in slot 3, at 2,063
unfoldable pub single : Bytes
unfolding headed
single = set_field (store (headed 1 4 4096) 2063 (slot_bytes one 0)) points_field 1

-- K, N, C, .. and D, X, M after an add: "C grows by 1", "X grows by 4 + m", "A call that changes X rewrites M".
pub header-added : (part (after (adding one (80 ∷ 81 ∷ []) 1 ∷ []) (headed 1 4 8192)) 12 12
    ≡ 0 ∷ 0 ∷ 0 ∷ 1 ∷ 0 ∷ 0 ∷ 0 ∷ 4 ∷ 0 ∷ 0 ∷ 0 ∷ 1 ∷ [])
    × (part (after (adding one (80 ∷ 81 ∷ []) 1 ∷ []) (headed 1 4 8192)) 48 12
    ≡ 0 ∷ 0 ∷ 16 ∷ 0 ∷ 0 ∷ 0 ∷ 16 ∷ 6 ∷ 0 ∷ 0 ∷ 0 ∷ 0 ∷ [])
unfolding after headed
header-added = (refl, refl)

-- Bytes 1 and 2 are both at home in slot 3. Deleted, byte 1 with "P" gives its slot to byte 2 with "Q", offset and all,
-- and slot 0, where that stood, is zeroed.
pub table-moved : table (after (adding one (80 ∷ []) 1 ∷ adding two (81 ∷ []) 1 ∷ deleting one ∷ []) (headed 1 4 8192))
    ≡ 0 ∷ 0 ∷ 0 ∷ 0 ∷ 0 ∷ 0 ∷ 0 ∷ 0 ∷ 0 ∷ 0 ∷ 0 ∷ 0 ∷ 0 ∷ 0 ∷ 0 ∷ 2 ∷ 0 ∷ 0 ∷ 16 ∷ 5 ∷ []
unfolding table after headed
table-moved = refl

-- "A slot is empty exactly when its key bytes are all zero": slot 3 with offset bytes is empty. A search ends there,
-- lookup gives 14 and not 11, and an add without data writes over the offset.
unfoldable pub offset_only : Bytes
unfolding headed
offset_only = store (headed 1 4 4096) 2063 (0 ∷ 0 ∷ 0 ∷ 0 ∷ 7 ∷ [])

pub offset-only : (search (layout_of offset_only) offset_only one ≡ empty 3)
    × (answered (looking one ∷ point 1 ∷ []) offset_only ≡ refused 14 ∷ done ∷ [])
    × (part (after (point 1 ∷ []) offset_only) 2063 5 ≡ 1 ∷ 0 ∷ 0 ∷ 0 ∷ 0 ∷ [])
unfolding answered after offset_only
offset-only = (refl, refl, refl)

-- how many slots a search read: bytes 1 and 2 in slots 3 and 0, both at home in 3, and the empty slot behind them
unfoldable pub two-taken : Bytes
unfolding headed
two-taken = store (store (headed 1 4 4096) 2048 (slot_bytes two 0)) 2063 (slot_bytes one 0)

unfoldable pub reads : Bytes → ℕ
unfolding two-taken
reads key = slots_read (layout_of two-taken) two-taken key

pub read-met : (reads one ≡ 1) × (reads two ≡ 2)
unfolding reads
read-met = (refl, refl)

pub read-empty : reads (3 ∷ []) ≡ 3
unfolding reads
read-empty = refl

-- ---- lookup

-- Byte 1 with "P", byte 2 with an empty message; byte 3 is absent: the first message byte and the text, 0 and none.
unfoldable pub two-texts : Bytes
unfolding headed
two-texts =
    set_field
    (store (store (store (headed 1 4 8192) 2048 (slot_bytes two 4101)) 2063 (slot_bytes one 4096)) 4096
    (97 ∷ 0 ∷ 0 ∷ 1 ∷ 80 ∷ 97 ∷ 0 ∷ 0 ∷ 0 ∷ []))
    free_field 4105

pub lookup-parts : (lookup_start two-texts one ∷ lookup_start two-texts two ∷ lookup_start two-texts (3 ∷ []) ∷ []
    ≡ 4100 ∷ 4105 ∷ 0 ∷ [])
    × (lookup_text two-texts one ∷ lookup_text two-texts two ∷ lookup_text two-texts (3 ∷ []) ∷ []
    ≡ some (80 ∷ []) ∷ some [] ∷ none ∷ [])
unfolding two-texts
lookup-parts = (refl, refl)

-- ---- opened images that no create left

-- Byte 1 with an offset below D: 9 before 11 in mode 1, 11 before 13, 14 before 11 where the name is absent.
pub unsound : answered (adding one [] 1 ∷ adding one (80 ∷ []) 3 ∷ looking one ∷ deleting one ∷ deleting two ∷ [])
    (set_field single 2064 60)
    ≡ refused 9 ∷ refused 11 ∷ refused 11 ∷ refused 11 ∷ refused 14 ∷ []
unfolding answered single
unsound = refl

-- "10. If the key is absent, is a slot empty and C below N?" No slot empty but C below N.
pub ten-by-table : answered (point 2 ∷ counting ∷ [])
    (set_field (store (headed 1 4 4096) 2048 (slot_bytes one 0)) slots_field 1)
    ≡ refused 10 ∷ counts 0 ∷ []
unfolding answered headed
ten-by-table = refl
