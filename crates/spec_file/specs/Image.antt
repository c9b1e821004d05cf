-- Document 01, "The image": header numbers, data offset D, last page M, slots; and "From name to slot": hash and home.
--     field img at          the number that stands at offset `at`
--     set_field img at n     the image with n there
--     Layout                the numbers of an image that place its bytes and that no call changes
--     layout_of img          the layout that an image's header gives
--     slot g img i          the bytes of slot i; key_of and offset_of take them apart
-- Assumes nothing.
use Rattle.std.specs.Prelude.{ℕ, ◌+◌, ◌-◌, ◌*◌, ◌/◌, ◌%◌, Bool, cond, ◌&&◌, [], ◌∷◌, ◌++◌, take, drop, get_or, leb, eqb}
use Rattle.std.specs.Int.Bits.{bit_xor}
use Rattle.spec_file.specs.Bytes.{Bytes, part, store, number, digits, zeros, all_zero}
use Rattle.spec_file.specs.Limits.{page_size, length_width, most_length, wide_width, most_wide, wide_major, version_field, word, minus_one, key_field, slots_field, multiplier_field, start_field, first_field, last_field, data_field, scramble_start, table_start}

unfoldable pub field : Bytes → ℕ → ℕ
field img at = number (part img at 4)

unfoldable pub set_field : Bytes → ℕ → ℕ → Bytes
set_field img at n = store img at (digits 4 n)

-- "D is 2,048 + N × (K + 4), rounded up to a multiple of 4,096."
unfoldable pub round_up : ℕ → ℕ
round_up n = (n + (page_size - 1)) / page_size * page_size

unfoldable pub data_start : ℕ → ℕ → ℕ
data_start K N = round_up (table_start + N * (K + 4))

-- "M is signed, two's complement: −1 when X = D, else the whole part of (X − D − 1) / 4,096."
unfoldable pub last_page : ℕ → ℕ → ℕ
last_page D X = cond (eqb X D) minus_one ((X - D - 1) / page_size)

-- ---- From name to slot

-- "For each key byte c multiply by the multiplier, cut to 32 bits; then, if F ≤ c ≤ E, exclusive-or with scramble
-- number c − F."
-- S is the scramble's bytes.
unfoldable pub hash_step : ℕ → ℕ → ℕ → Bytes → ℕ → ℕ → ℕ
hash_step multiplier F E S h c =
    let x : ℕ = h * multiplier % word in
    cond (leb F c && leb c E) (bit_xor x (number (part S (4 * (c - F)) 4))) x

-- the hash of the bytes that are left, from h on
unfoldable pub hash_from : ℕ → ℕ → ℕ → Bytes → ℕ → Bytes → ℕ
hash_from multiplier F E S h [] = h
hash_from multiplier F E S h (c ∷ cs) = hash_from multiplier F E S (hash_step multiplier F E S h c) cs

-- "The scramble is E − F + 1 numbers from offset 512."
unfoldable pub scramble : Bytes → Bytes
scramble img = part img scramble_start (4 * (field img last_field - field img first_field + 1))

-- "Hash: begin with the start value." The hash of a key, before the modulo.
unfoldable pub hash : Bytes → Bytes → ℕ
hash img key =
    hash_from (field img multiplier_field) (field img first_field) (field img last_field) (scramble img)
    (field img start_field) key

-- ---- The layout

-- the version's first byte, by which a message's header goes; "its version bytes never change" of 2.0, and of 1.x only
-- the last one does
unfoldable pub major_of : Bytes → ℕ
major_of img = get_or img version_field 0

unfoldable pub wide : ℕ → Bool
wide v = eqb v wide_major

unfoldable pub width_of : ℕ → ℕ
width_of v = cond (wide v) wide_width length_width

unfoldable pub most_of : ℕ → ℕ
most_of v = cond (wide v) most_wide most_length

-- W is the number of bytes of a message's length, most the largest length.
pub record Layout : Type 0 where
  pub K : ℕ
  pub N : ℕ
  pub D : ℕ
  pub W : ℕ
  pub most : ℕ
  pub hashed : Bytes → ℕ

unfoldable pub layout_of : Bytes → Layout
layout_of img =
    record {
      K = field img key_field;
      N = field img slots_field;
      D = field img data_field;
      W = width_of (major_of img);
      most = most_of (major_of img);
      hashed = hash img;
    }

-- "The home slot is the hash modulo N."
unfoldable pub home : Layout → Bytes → ℕ
home g key = g.hashed key % g.N

-- ---- Slots

-- "Slot i (0 to N − 1) is K key bytes and a message offset, at 2,048 + i × (K + 4)."
unfoldable pub slot_size : Layout → ℕ
slot_size g = g.K + 4

unfoldable pub slot_start : Layout → ℕ → ℕ
slot_start g i = table_start + i * slot_size g

unfoldable pub slot : Layout → Bytes → ℕ → Bytes
slot g img i = part img (slot_start g i) (slot_size g)

unfoldable pub put_slot : Layout → Bytes → ℕ → Bytes → Bytes
put_slot g img i s = store img (slot_start g i) s

unfoldable pub key_of : Layout → Bytes → Bytes
key_of g s = take g.K s

unfoldable pub offset_of : Layout → Bytes → ℕ
offset_of g s = number (drop g.K s)

unfoldable pub slot_bytes : Bytes → ℕ → Bytes
slot_bytes key offset = key ++ digits 4 offset

unfoldable pub blank : Layout → Bytes
blank g = zeros (slot_size g)

-- "A slot is empty exactly when its key bytes are all zero."
unfoldable pub vacant : Layout → Bytes → Bool
vacant g s = all_zero (key_of g s)
