-- Document 01, "The image", from "Create takes a slice" on: the generator, the scramble, and create's image.
-- Assumes nothing.
use Rattle.std.specs.Prelude.{ℕ, zero, suc, ◌+◌, ◌-◌, ◌*◌, ◌%◌, cond, [], ◌∷◌, ◌++◌, eqb}
use Rattle.spec_file.specs.Bytes.{Bytes, digits, zeros}
use Rattle.spec_file.specs.Limits.{word, magic, major, minor, patch, default_slots, default_first, default_last, scramble_count, default_multiplier, default_start, scramble_start, table_start, header_size, minus_one}
use Rattle.spec_file.specs.Image.{data_start}

-- "a step is state × 1,664,525 + 1,013,904,223, cut to 32 bits"
unfoldable pub step : ℕ → ℕ
step s = (s * 1664525 + 1013904223) % word

-- the generator's state after some steps from the seed
unfoldable pub state : ℕ → ℕ → ℕ
state seed zero = seed
state seed (suc n) = step (state seed n)

-- "Scramble number i is the generator's state after i + 1 steps from the seed"
unfoldable pub drawn : ℕ → ℕ → ℕ
drawn seed i = state seed (suc i)

-- scramble numbers i, i + 1, .. as bytes, n of them
unfoldable pub drawn_bytes : ℕ → ℕ → ℕ → Bytes
drawn_bytes seed i zero = []
drawn_bytes seed i (suc n) = digits 4 (drawn seed i) ++ drawn_bytes seed (suc i) n

-- "N (0 means 5,507)"
unfoldable pub slots_asked : ℕ → ℕ
slots_asked N = cond (eqb N 0) default_slots N

-- The header, field by field: "BHTF" and version, serial, K, N, C, multiplier, start value, F, E, scramble offset,
-- table offset, D, X = D, M.
unfoldable pub fresh_header : ℕ → ℕ → Bytes
fresh_header K N =
    magic ++ (major ∷ minor ∷ patch ∷ []) ++ digits 4 0 ++ digits 4 K ++ digits 4 N ++ digits 4 0
    ++ digits 4 default_multiplier ++ digits 4 default_start ++ digits 4 default_first ++ digits 4 default_last
    ++ digits 4 scramble_start ++ digits 4 table_start ++ digits 4 (data_start K N) ++ digits 4 (data_start K N)
    ++ digits 4 minus_one

-- "It writes the header above with .. and the scramble. All other bytes become zero." N is not 0 here.
unfoldable pub fresh_image : ℕ → ℕ → ℕ → ℕ → Bytes
fresh_image L K N seed =
    fresh_header K N ++ zeros (scramble_start - header_size) ++ drawn_bytes seed 0 scramble_count
    ++ zeros (L - (scramble_start + 4 * scramble_count))
