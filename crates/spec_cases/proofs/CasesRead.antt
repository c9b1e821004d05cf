-- Cases of how many slots a call's search read. K = 1, N = 4, and every name below is at home in slot 3.
--     held          byte 1 in slot 3, and byte 2 in slot 0 with an offset below D
--     crowded       bytes 2, 3, 4 and 1 in slots 0 to 3
-- Assumes nothing.
use mathlib.Core.Path.{◌≡◌, refl}
use Prim.Native.Nat.{ℕ}
use mathlib.Core.List.{List, [], ◌∷◌, ◌++◌}
use Rattle.spec_file.specs.Bytes.{Bytes, store}
use Rattle.spec_file.specs.Limits.{points_field}
use Rattle.spec_file.specs.Image.{set_field, slot_bytes}
use Rattle.spec_file.specs.Calls.{add_read, delete_read, lookup_read}
use Rattle.spec_file.specs.Lists.{adding, deleting, looking}
use Rattle.spec_file.proofs.CasesBase.{definitions, headed, one, two, told}

abbrev three : Bytes
three = 3 ∷ []

unfoldable pub held : Bytes
unfolding headed
held = set_field (store (store (headed 1 4 4096) 2048 (slot_bytes two 60)) 2063 (slot_bytes one 0)) points_field 2

unfoldable pub crowded : Bytes
unfolding headed
crowded =
    set_field (store (headed 1 4 4096) 2048
    (slot_bytes two 0 ++ slot_bytes three 0 ++ slot_bytes (4 ∷ []) 0 ++ slot_bytes one 0)) points_field 4

-- "the number of slots that the search read": met at home, met a slot further round the table's end, and the empty slot
-- behind both
pub read-each : (lookup_read held one ∷ lookup_read held two ∷ lookup_read held three ∷ [] ≡ 1 ∷ 2 ∷ 3 ∷ [])
    × (delete_read held one ∷ delete_read held two ∷ delete_read held three ∷ [] ≡ 1 ∷ 2 ∷ 3 ∷ [])
    × (add_read held one 3 ∷ add_read held two 2 ∷ add_read held three 1 ∷ [] ≡ 1 ∷ 2 ∷ 3 ∷ [])
unfolding held
read-each = (refl, refl, refl)

-- the last slot, and no slot of N
pub read-crowded : lookup_read crowded (4 ∷ []) ∷ lookup_read crowded (5 ∷ []) ∷ add_read crowded (5 ∷ []) 1 ∷ []
    ≡ 4 ∷ 4 ∷ 4 ∷ []
unfolding crowded
read-crowded = refl

-- refused behind the search, with 9, 11, 14 and 10, calls report it
pub read-refused : (told (adding one [] 1 ∷ looking two ∷ deleting three ∷ []) held ≡ 9 ∷ 11 ∷ 14 ∷ [])
    × (add_read held one 1 ∷ lookup_read held two ∷ delete_read held three ∷ [] ≡ 1 ∷ 2 ∷ 3 ∷ [])
    × (told (adding (5 ∷ []) [] 1 ∷ []) crowded ≡ 10 ∷ [])
unfolding told held crowded
read-refused = (refl, refl, refl)

-- "or 0 when refused before it": the name of zeros, 7; mode 0, 8; no image, 1
pub read_none : (told (looking (0 ∷ []) ∷ adding one [] 0 ∷ []) held ≡ 7 ∷ 8 ∷ [])
    × (lookup_read held (0 ∷ []) ∷ delete_read held (0 ∷ []) ∷ add_read held (0 ∷ []) 1 ∷ add_read held one 0
    ∷ lookup_read [] one ∷ [] ≡ 0 ∷ 0 ∷ 0 ∷ 0 ∷ 0 ∷ [])
unfolding told held
read_none = (refl, refl)
