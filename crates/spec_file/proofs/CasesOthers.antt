-- Images that no call of ours made. The check calls them sound: crates/spec_cases/proofs/CasesInspected.antt.
--     others     version 1.0.0; another multiplier, start value, F = 0 and E = 3; a full table, no key at home
--     left       offset bytes in an empty slot, and the image's last slot taken
-- Assumes nothing.
use mathlib.Core.List.{[], ◌∷◌, ◌++◌}
use Rattle.spec_file.specs.Limits.{magic, points_field}
use Rattle.spec_file.specs.Bytes.{Bytes, store, digits, zeros}
use Rattle.spec_file.specs.Image.{set_field, slot_bytes}
use Rattle.spec_file.proofs.CasesBase.{headed}
use Rattle.spec_file.proofs.CasesInspect.{no, slot_of}

-- ---- a file of another program

-- K = 1, N = C = 3, serial 77; D = 4,096 and X = 4,120; M is 9, which no question asks about
unfoldable pub others_header : Bytes
unfolding digits
others_header =
    magic ++ (1 ∷ 0 ∷ 0 ∷ []) ++ digits 4 77 ++ digits 4 1 ++ digits 4 3 ++ digits 4 3 ++ digits 4 5 ++ digits 4 7
    ++ digits 4 0 ++ digits 4 3 ++ digits 4 512 ++ digits 4 2048 ++ digits 4 4096 ++ digits 4 4120 ++ digits 4 9

-- 7 × 5 = 35, with these numbers for bytes 0 to 3: bytes 1 and 3 are at home in slot 2, byte 2 in slot 1
unfoldable pub others_table : Bytes
unfolding digits slot_bytes
others_table =
    (8 ∷ 8 ∷ []) ++ zeros 450 ++ digits 4 9 ++ digits 4 0 ++ digits 4 1 ++ digits 4 3 ++ zeros 1520
    ++ slot_bytes (1 ∷ []) 4107 ++ slot_bytes (3 ∷ []) 4114 ++ slot_bytes (2 ∷ []) 4099

-- "PQ" of byte 2 behind a gap of 3 bytes, "RS" of byte 1 inactive behind one of 2, "T" of byte 3 behind one of 1, and
-- another byte up to X
unfoldable pub others_messages : Bytes
others_messages =
    9 ∷ 9 ∷ 9 ∷ 97 ∷ 0 ∷ 0 ∷ 2 ∷ 80 ∷ 81 ∷ 9 ∷ 9 ∷ 100 ∷ 0 ∷ 0 ∷ 2 ∷ 82 ∷ 83 ∷ 9 ∷ 97 ∷ 0 ∷ 0 ∷ 1 ∷ 84 ∷ 9 ∷ []

unfoldable pub others : Bytes
unfolding others_header others_table others_messages zeros
others = others_header ++ others_table ++ zeros 2033 ++ others_messages ++ zeros 4072

-- ---- bytes left in an empty slot

-- offset 9 in slot 0, which is empty; byte 1 in slot 3, the last, without a message; no room for any
unfoldable pub left : Bytes
unfolding headed store digits set_field
left = set_field (store (headed 1 4 4096) 2048 (slot_of 0 9 ++ no ++ no ++ slot_of 1 0)) points_field 1
