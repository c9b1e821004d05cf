-- Document 01, "From name to slot": the search, and the cyclic order of slots that it and delete's walk go by.
-- Assumes nothing.
use Rattle.std.specs.Prelude.{ℕ, zero, suc, ◌+◌, ◌-◌, Bool, true, false, cond, leb, ltb}
use Rattle.spec_file.specs.Bytes.{Bytes, same}
use Rattle.spec_file.specs.Image.{Layout, slot, key_of, vacant, home}

-- "upwards, wrapping from N − 1 to 0"
unfoldable pub next : ℕ → ℕ → ℕ
next N i = cond (ltb (i + 1) N) (i + 1) 0

-- steps upwards, with wrap, from slot a to slot b
unfoldable pub dist : ℕ → ℕ → ℕ → ℕ
dist N a b = cond (leb a b) (b - a) (b + N - a)

-- how a search ended: the key was met at a slot, an empty slot was met, or N slots were read
pub data Probe : Type 0 where
  met : ℕ → Probe
  empty : ℕ → Probe
  exhausted : Probe

-- from slot i on, with so many slots left to read: "until the key is met, an empty slot is met, or N slots were read"
unfoldable pub probe : Layout → Bytes → Bytes → ℕ → ℕ → Probe
probe g img key zero i = exhausted
probe g img key (suc left) i =
    elim (same (key_of g (slot g img i)) key) [
      | true ↦ met i
      | false ↦ elim (vacant g (slot g img i)) [ true ↦ empty i | false ↦ probe g img key left (next g.N i) ]
    ]

-- "Search: from home upwards"
unfoldable pub search : Layout → Bytes → Bytes → Probe
search g img key = probe g img key g.N (home g key)

-- Document 02, Job 7: "the number of slots that the search read". From slot i on, with so many slots left to read.
unfoldable pub read_from : Layout → Bytes → Bytes → ℕ → ℕ → ℕ
read_from g img key zero i = 0
read_from g img key (suc left) i =
    elim (same (key_of g (slot g img i)) key) [
      | true ↦ 1
      | false ↦ elim (vacant g (slot g img i)) [ true ↦ 1 | false ↦ suc (read_from g img key left (next g.N i)) ]
    ]

unfoldable pub slots_read : Layout → Bytes → Bytes → ℕ
slots_read g img key = read_from g img key g.N (home g key)

unfoldable pub is_met : Probe → Bool
is_met (met i) = true
is_met (empty i) = false
is_met exhausted = false

unfoldable pub is_empty : Probe → Bool
is_empty (met i) = false
is_empty (empty i) = true
is_empty exhausted = false

-- the slot where a search ended (0 where it read N slots)
unfoldable pub slot_of : Probe → ℕ
slot_of (met i) = i
slot_of (empty i) = i
slot_of exhausted = 0
