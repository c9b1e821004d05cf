-- Numbers of 4 and 3 bytes as shifts and masks make them, and stores of so many bytes as one `store`.
--     part-cons, part-four, part-three        a part, byte by byte
--     number-four, number-three               the number of so many bytes, written out
--     or-four, or-three                       the same number, by shifts and ors
--     low-three                               the number of the last three of four bytes
--     swapped-four                            the same number with its bytes in the other order
--     store-sets, set-store, store-four      stores of bytes one after the other
--     digits-swapped, digits-behind           the digits, by a swap; of a byte and three behind it
-- Assumes nothing.
use Rattle.std.proofs.Common.{◌≡◌, ℕ, suc, ◌+◌, ◌*◌, ◌/◌, ◌%◌, ◌<◌, ◌≤◌, [], ◌∷◌, ◌++◌, length, get_or, take, drop, set, sym, refl, ap, ◌∙◌, append_assoc, mod-eq_of_lt, div-one, add-one, arith, drop-cons, drop-drop}
use lib.Seq.{sets, sets-eq}
use lib.Bits.{bit_or, or_shifted}
use Rattle.spec_file.specs.Bytes.{Bytes, part, store, number, digits}

-- ---- part
pub part-cons : (s : Bytes) (at n : ℕ) → at < length s → part s at (suc n) ≡ get_or s at 0 ∷ part s (at + 1) n
unfolding part
part-cons s at n h = rw (add-one, drop-cons s at 0 h)

pub part-zero : (s : Bytes) (at : ℕ) → part s at 0 ≡ []
unfolding part
part-zero s at = refl

pub part-three : (s : Bytes) (at : ℕ) → at + 3 ≤ length s
    → part s at 3 ≡ get_or s at 0 ∷ get_or s (at + 1) 0 ∷ get_or s (at + 2) 0 ∷ []
part-three s at h =
    let e₂ : at + 1 + 1 ≡ at + 2 = omega arith in
    part-cons s at 2 (omega arith)
    ∙ ap (λ (t : Bytes). get_or s at 0 ∷ t)
    (part-cons s (at + 1) 1 (omega arith)
    ∙ ap (λ (t : Bytes). get_or s (at + 1) 0 ∷ t)
    (rw e₂ (part-cons s (at + 2) 0 (omega arith))
    ∙ ap (λ (t : Bytes). get_or s (at + 2) 0 ∷ t) (part-zero s (at + 2 + 1))))

pub part-four : (s : Bytes) (at : ℕ) → at + 4 ≤ length s
    → part s at 4 ≡ get_or s at 0 ∷ get_or s (at + 1) 0 ∷ get_or s (at + 2) 0 ∷ get_or s (at + 3) 0 ∷ []
part-four s at h =
    let e₂ : at + 1 + 1 ≡ at + 2 = omega arith in
    let e₃ : at + 1 + 2 ≡ at + 3 = omega arith in
    part-cons s at 3 (omega arith)
    ∙ ap (λ (t : Bytes). get_or s at 0 ∷ t) (rw (← e₂, ← e₃) (part-three s (at + 1) (omega arith)))

-- ---- number
pub number-four : (a b c d : ℕ) → number (a ∷ b ∷ c ∷ d ∷ []) ≡ a * 16777216 + (b * 65536 + (c * 256 + d))
unfolding number
number-four a b c d = omega arith

pub number-three : (a b c : ℕ) → number (a ∷ b ∷ c ∷ []) ≡ a * 65536 + (b * 256 + c)
unfolding number
number-three a b c = omega arith

-- a shift that loses nothing
uncut : (x : ℕ) → x < 4294967296 → x % 4294967296 ≡ x
uncut x h = mod-eq_of_lt h

pub or-three : (a b c : ℕ) → a < 65536 → b < 256 → c < 256
    → bit_or (bit_or (a * 65536 % 4294967296) (b * 256 % 4294967296)) c ≡ a * 65536 + (b * 256 + c)
or-three a b c p q r =
    let e : (a * 256 + b) * 256 ≡ a * 65536 + b * 256 = omega arith in
    let f : bit_or (a * 65536) (b * 256) ≡ (a * 256 + b) * 256 = or_shifted a 16 (b * 256) (omega arith) ∙ sym e in
    let g : bit_or ((a * 256 + b) * 256) c ≡ (a * 256 + b) * 256 + c = or_shifted (a * 256 + b) 8 c (omega arith) in
    rw (uncut (a * 65536) (omega arith), uncut (b * 256) (omega arith), f, g) (omega arith)

pub or-four : (a b c d : ℕ) → a < 256 → b < 256 → c < 256 → d < 256
    → bit_or (bit_or (bit_or (a * 16777216 % 4294967296) (b * 65536 % 4294967296)) (c * 256 % 4294967296)) d
    ≡ a * 16777216 + (b * 65536 + (c * 256 + d))
or-four a b c d p q r s =
    let e : (a * 256 + b) * 65536 ≡ a * 16777216 + b * 65536 = omega arith in
    let o : bit_or (a * 16777216) (b * 65536) ≡ a * 16777216 + b * 65536 = or_shifted a 24 (b * 65536) (omega arith) in
    let f : bit_or (a * 16777216) (b * 65536) ≡ (a * 256 + b) * 65536 = o ∙ sym e in
    let m : (a * 256 + b) * 65536 % 4294967296 ≡ (a * 256 + b) * 65536 = uncut ((a * 256 + b) * 65536) (omega arith) in
    rw (uncut (a * 16777216) (omega arith), uncut (b * 65536) (omega arith), f)
    (ap (λ (t : ℕ). bit_or (bit_or t (c * 256 % 4294967296)) d) (sym m)
    ∙ or-three (a * 256 + b) c d (omega arith) r s
    ∙ omega arith)

low_byte : (h l : ℕ) → l < 256 → (h * 256 + l) % 256 ≡ l
low_byte h l p = omega arith

-- the last three of four bytes
pub low-three : (a b c d : ℕ) → b < 256 → c < 256 → d < 256
    → (a * 16777216 + (b * 65536 + (c * 256 + d))) % 16777216 ≡ b * 65536 + (c * 256 + d)
low-three a b c d q r s = omega arith

-- four bytes in the other order
pub swapped-four : (a b c d x : ℕ) → a < 256 → b < 256 → c < 256 → d < 256
    → x ≡ d * 16777216 + (c * 65536 + (b * 256 + a))
    → x % 256 * 16777216 + (x / 256 % 256 * 65536 + (x / 65536 % 256 * 256 + x / 16777216))
    ≡ a * 16777216 + (b * 65536 + (c * 256 + d))
swapped-four a b c d x p q r s e =
    let e₀ : x % 256 ≡ a = omega arith in
    let e₁ : x / 256 ≡ (d * 256 + c) * 256 + b = omega arith in
    let e₂ : x / 65536 ≡ d * 256 + c = omega arith in
    let e₃ : x / 16777216 ≡ d = omega arith in
    rw (e₀, e₁, e₂, e₃, low_byte (d * 256 + c) b q, low_byte d c r)

-- ---- store
pub store-sets : (vs s : Bytes) (at : ℕ) → at + length vs ≤ length s → sets s at vs ≡ store s at vs
unfolding store
store-sets vs s at h =
    sets-eq vs s at h
    ∙ append_assoc (take at s) vs (drop (at + length vs) s)
    ∙ ap (λ (t : Bytes). take at s ++ (vs ++ t)) (sym (drop-drop (length vs) at s))

-- one byte is a store
pub set-store : (b : Bytes) (at v : ℕ) → at < length b → set b at v ≡ store b at (v ∷ [])
set-store b at v h = store-sets (v ∷ []) b at (omega arith)

pub store-four : (s : Bytes) (at a b c d : ℕ) → at + 4 ≤ length s
    → set (set (set (set s at a) (at + 1) b) (at + 2) c) (at + 3) d ≡ store s at (a ∷ b ∷ c ∷ d ∷ [])
store-four s at a b c d h =
    let e₁ : at + 1 ≡ suc at = omega arith in
    let e₂ : at + 2 ≡ suc (suc at) = omega arith in
    let e₃ : at + 3 ≡ suc (suc (suc at)) = omega arith in
    rw (e₁, e₂, e₃) (store-sets (a ∷ b ∷ c ∷ d ∷ []) s at h)

-- ---- digits
-- of a number's bytes, least significant first
bytes-four : (a b c d w : ℕ) → a < 256 → b < 256 → c < 256 → d < 256 → w ≡ d * 16777216 + (c * 65536 + (b * 256 + a))
    → w % 256 ∷ w / 256 % 256 ∷ w / 65536 % 256 ∷ w / 16777216 ∷ [] ≡ a ∷ b ∷ c ∷ d ∷ []
bytes-four a b c d w p q r s e =
    let e₀ : w % 256 ≡ a = omega arith in
    let e₁ : w / 256 ≡ (d * 256 + c) * 256 + b = omega arith in
    let e₂ : w / 65536 ≡ d * 256 + c = omega arith in
    let e₃ : w / 16777216 ≡ d = omega arith in
    rw (e₀, e₁, e₂, e₃, low_byte (d * 256 + c) b q, low_byte d c r) refl

-- the digits are the bytes of the number with its bytes in the other order
pub digits-swapped : (v w : ℕ) → v < 4294967296
    → w ≡ v % 256 * 16777216 + (v / 256 % 256 * 65536 + (v / 65536 % 256 * 256 + v / 16777216))
    → w % 256 ∷ w / 256 % 256 ∷ w / 65536 % 256 ∷ w / 16777216 ∷ [] ≡ digits 4 v
unfolding digits
digits-swapped v w h e =
    let top : v / 16777216 % 256 ≡ v / 16777216 = omega arith in
    bytes-four (v / 16777216) (v / 65536 % 256) (v / 256 % 256) (v % 256) w
    (omega arith) (omega arith) (omega arith) (omega arith) e
    ∙ rw (div-one v, top) refl

-- of a byte, and a number of three behind it
pub digits-behind : (b v : ℕ) → b < 256 → v < 16777216 → digits 4 (b * 16777216 + v) ≡ b ∷ digits 3 v
unfolding digits
digits-behind b v p q =
    let n = b * 16777216 + v in
    let top = v / 65536 in
    let mid = v / 256 % 256 in
    let e₀ : n / 16777216 ≡ b = omega arith in
    let e₁ : n / 65536 ≡ b * 256 + top = omega arith in
    let e₂ : n / 256 ≡ (b * 256 + top) * 256 + mid = omega arith in
    let e₃ : n % 256 ≡ v % 256 = omega arith in
    let few : top % 256 ≡ top = omega arith in
    rw (
      div-one n,
      div-one v,
      e₀,
      e₁,
      e₂,
      e₃,
      mod-eq_of_lt p,
      low_byte b top (omega arith),
      low_byte (b * 256 + top) mid (omega arith),
      few,
    )
    refl
