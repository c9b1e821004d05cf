-- Cases of two points on one message, on small images; each holds by computation.
--     placed i o n img      slot i taken, with a message of n bytes at offset o
-- Assumes nothing.
use mathlib.Core.Path.{◌≡◌, refl}
use Prim.Native.Nat.{ℕ}
use mathlib.Core.List.{[], ◌∷◌}
use mathlib.Core.Option.{none, some}
use Rattle.spec_file.specs.Bytes.{Bytes, part, store, number, digits, zeros, all_zero}
use Rattle.spec_file.specs.Limits.{inactive}
use Rattle.spec_file.specs.Image.{Layout, slot_size, slot_start, slot, put_slot, key_of, offset_of, slot_bytes, vacant}
use Rattle.spec_file.specs.Messages.{head_size, length_at, message}
use Rattle.spec_file.specs.Inspect.{lowest, taken, stretch_start, end_at, stretch_end, meets, some_below, meets_lower}

-- ten slots of one-byte keys, and a data area behind them
g : Layout
g = record { K = 1; N = 10; D = 2112; W = 3; most = 16777215; hashed = λ key. 0 }

empty : Bytes
empty = zeros 2176

-- unfolding these unfolds all that the cases compute with
bytes : ℕ
unfolding part store number digits zeros all_zero head_size length_at message g empty
bytes = 0

slots : ℕ
unfolding bytes slot_size slot_start slot put_slot key_of offset_of slot_bytes vacant taken
slots = 0

all : ℕ
unfolding slots lowest stretch_start end_at stretch_end meets some_below meets_lower
all = 0

slot_at : ℕ → ℕ → Bytes → Bytes
slot_at i o img = put_slot g img i (slot_bytes (65 ∷ []) o)

placed : ℕ → ℕ → ℕ → Bytes → Bytes
placed i o n img = slot_at i o (store img o (message g.W (zeros n)))

-- a stretch that begins where another ends
touching : lowest (meets_lower g (placed 1 2122 6 (placed 0 2112 6 empty))) 10 0 ≡ none
unfolding all placed slot_at
touching = refl

-- and one that begins a byte before
by_one : lowest (meets_lower g (placed 1 2121 6 (placed 0 2112 6 empty))) 10 0 ≡ some 1
unfolding all placed slot_at
by_one = refl

-- the header is part of a stretch: without it the two would lie 2 bytes apart
by-header : lowest (meets_lower g (placed 1 2120 6 (placed 0 2112 6 empty))) 10 0 ≡ some 1
unfolding all placed slot_at
by-header = refl

-- two slots on one message, of which the higher fails; below it none does
equal : lowest (meets_lower g (slot_at 7 2112 (placed 3 2112 6 empty))) 10 0 ≡ some 7
unfolding all placed slot_at
equal = refl

equal-below : lowest (meets_lower g (slot_at 7 2112 (placed 3 2112 6 empty))) 7 0 ≡ none
unfolding all placed slot_at
equal-below = refl

-- inactive messages have stretches too
inactive-too : lowest (meets_lower g (store (slot_at 7 2112 (placed 3 2112 6 empty)) 2112 (inactive ∷ []))) 10 0 ≡ some 7
unfolding all placed slot_at
inactive-too = refl

-- a long message in slot 5, one inside it in slot 9, another inside it in slot 7: 7 is the lowest that fails, though in
-- the order of offsets 5 and 9 are neighbours
lowest-named : lowest (meets_lower g (placed 7 2140 4 (placed 9 2130 4 (placed 5 2112 40 empty)))) 10 0 ≡ some 7
unfolding all placed slot_at
lowest-named = refl

-- an offset in an empty slot, and a taken slot without an offset
none-there : lowest (meets_lower g (slot_at 4 0 (put_slot g (placed 3 2112 6 empty) 7 (slot_bytes (0 ∷ []) 2112)))) 10 0
    ≡ none
unfolding all placed slot_at
none-there = refl
