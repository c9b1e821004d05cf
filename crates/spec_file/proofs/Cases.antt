-- Document 01, "The proved table", as theorems about the definitions: the lines that an edit names, and those that need
-- no image. Each holds by computation. The others stand in crates/spec_cases/proofs/CasesTable.antt, the book's part in
-- crates/spec_book/proofs/CasesBook.antt. `CasesBase` names the modules with more cases.
-- Assumes nothing.
use mathlib.Core.Path.{◌≡◌, refl}
use Prim.Native.Nat.{◌+◌}
use mathlib.Core.List.{[], ◌∷◌, ◌++◌}
use mathlib.Core.Bool.{false}
use Rattle.spec_file.specs.Limits.{minus_one, points_field}
use Rattle.spec_file.specs.Bytes.{Bytes, store, same}
use Rattle.spec_file.specs.Image.{set_field, round_up, data_start, last_page, hash, slot_bytes}
use Rattle.spec_file.specs.Lists.{Call, adding, deleting}
use Rattle.spec_file.proofs.CasesBase.{fresh, after, keys, point}

-- ---- the table

-- "K = 4: N = 256 gives D = 4,096; 257 gives 8,192; 5,033 gives 45,056."
pub data-256 : data_start 4 256 ≡ 4096
unfolding data_start round_up
data-256 = refl

pub data-257 : data_start 4 257 ≡ 8192
unfolding data_start round_up
data-257 = refl

pub data-5033 : data_start 4 5033 ≡ 45056
unfolding data_start round_up
data-5033 = refl

-- "X − D of 0, 4,096, 4,097 gives M −1, 0, 1."
pub page-0 : last_page 8192 8192 ≡ minus_one
unfolding last_page
page-0 = refl

pub page-4096 : last_page 8192 (8192 + 4096) ≡ 0
unfolding last_page
page-4096 = refl

pub page-4097 : last_page 8192 (8192 + 4097) ≡ 1
unfolding last_page
page-4097 = refl

-- "Seed 0, K = 1: the hash of byte 32 is 0x3962AE40, of byte 1 is 0x050C5D1F."
pub hash-32 : hash (fresh 4096 4) (32 ∷ []) ≡ 0x3962AE40
unfolding fresh
hash-32 = refl

pub hash-1 : hash (fresh 4096 4) (1 ∷ []) ≡ 0x050C5D1F
unfolding fresh
hash-1 = refl

-- "Deleting 1 leaves 2, 3, 32 in slots 3, 0, 1 and slot 2 empty."
pub four-delete : keys 4 0 (after (point 1 ∷ point 2 ∷ point 3 ∷ point 32 ∷ deleting (1 ∷ []) ∷ []) (fresh 4096 4))
    ≡ (3 ∷ []) ∷ (32 ∷ []) ∷ (0 ∷ []) ∷ (2 ∷ []) ∷ []
unfolding keys after fresh
four-delete = refl

-- "Seed 0, K = 1, N = 3, an opened image with 33, 34, 32 in slots 0, 1, 2: deleting 33 leaves 32 in slot 0 and 34 in
-- slot 2."
unfoldable pub three : Bytes
unfolding fresh
three =
    set_field (store (fresh 4096 3) 2048 (slot_bytes (33 ∷ []) 0 ++ slot_bytes (34 ∷ []) 0 ++ slot_bytes (32 ∷ []) 0))
    points_field 3

pub three-delete : keys 3 0 (after (deleting (33 ∷ []) ∷ []) three) ≡ (32 ∷ []) ∷ (0 ∷ []) ∷ (34 ∷ []) ∷ []
unfolding keys after three
three-delete = refl

-- "Replacing 5 bytes by 3, then 4: U is 9, 9, 17." X − D of the file.
abbrev pub five : Call
five = adding (1 ∷ []) (1 ∷ 2 ∷ 3 ∷ 4 ∷ 5 ∷ []) 1

abbrev pub by_three : Call
by_three = adding (1 ∷ []) (6 ∷ 7 ∷ 8 ∷ []) 2

abbrev pub by-four : Call
by-four = adding (1 ∷ []) (6 ∷ 7 ∷ 8 ∷ 9 ∷ []) 2

-- ---- mistakes to expect

-- "000 compares keys as C strings and stops at a zero byte."
pub same-past-zero : same (1 ∷ 0 ∷ 2 ∷ []) (1 ∷ 0 ∷ 3 ∷ []) ≡ false
unfolding same
same-past-zero = refl
