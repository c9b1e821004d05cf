-- Bits of a number: of a conjunction, a disjunction, and of a mask, the bits from a up to b.
--     mask-in, mask_below, mask-above      the mask's bits
--     mask-shifted      the mask, as code works it out
--     some-bit      a number other than 0 has a bit
--     and-free, and-met      whether a bit of the mask is held
--     or-in, or-out      the mask's bits put in
-- Assumes nothing.
use mathlib.Core.Path.{◌≡◌, sym, ap, ap₂, ◌∙◌}
use Prim.Native.Nat.{ℕ, zero, suc, ◌+◌, ◌-◌, ◌*◌, ◌/◌, ◌%◌, ◌^◌, ◌≤◌, ◌<◌}
use native.Mathlib.Nat.{zero-add, mul_assoc}
use native.Mathlib.Omega.{arith}
use mathlib.Core.Logic.{◌⊎◌, inl, inr}
use lib.Bits.{bit_and, bit_or, and_mask, and_le_l, and_zero_r, or_zero_r, and_shr, and_mod, or_shr, or_mod, shifted_even}
use lib.Pow.{pow-add, pow_pos, pow_mono, shr_le, shr_lt, shr-shr, shl-shr, shl_exact}
use lib.Pow.{high, high_ones, ones_split, ones_lt}
use Rattle.law_file.proofs.Tests.{by-eq, by_le}
use Rattle.check_marks.specs.Marks.{bit}

-- ---- the mask: ones, shifted
ones_bit : (m d : ℕ) → d < m → bit (2 ^ m - 1) d ≡ 1
unfolding bit
ones_bit m d h =
    let e : 2 ^ m - 1 ≡ (2 ^ (m - d) - 1) * 2 ^ d + (2 ^ d - 1) =
    ap (λ (n : ℕ). 2 ^ n - 1) (omega arith) ∙ ones_split (m - d) d in
    let s : (2 ^ m - 1) / 2 ^ d ≡ 2 ^ (m - d) - 1 =
    ap (λ (n : ℕ). n / 2 ^ d) e ∙ high (2 ^ (m - d) - 1) d (ones_lt d) in
    let t : 2 ^ (m - d) ≡ 2 ^ (m - d - 1) * 2 = ap (λ (n : ℕ). 2 ^ n) (omega arith) ∙ pow-add 2 (m - d - 1) 1 in
    omega (arith, s, t, pow_pos (m - d - 1))

module _ (a b : ℕ) (order : a ≤ b) where
  shifted : 2 ^ b - 2 ^ a ≡ (2 ^ (b - a) - 1) * 2 ^ a
  shifted = ap (λ (n : ℕ). 2 ^ n - 2 ^ a) (omega arith) ∙ high_ones (b - a) a

  mask-in : (j : ℕ) → a ≤ j → j < b → bit (2 ^ b - 2 ^ a) j ≡ 1
  unfolding bit
  mask-in j h k =
      ap (λ (n : ℕ). n / 2 ^ j % 2) shifted
      ∙ ap (λ (n : ℕ). (2 ^ (b - a) - 1) * 2 ^ a / 2 ^ n % 2) (omega arith)
      ∙ ap (λ (n : ℕ). n % 2) (sym (shr-shr ((2 ^ (b - a) - 1) * 2 ^ a) a (j - a)))
      ∙ ap (λ (n : ℕ). n / 2 ^ (j - a) % 2) (shl-shr (2 ^ (b - a) - 1) a)
      ∙ ones_bit (b - a) (j - a) (omega arith)

  mask_below : (j : ℕ) → j < a → bit (2 ^ b - 2 ^ a) j ≡ 0
  unfolding bit
  mask_below j h =
      let x = 2 ^ (b - a) - 1 in
      let k = a - j - 1 in
      let e : x * 2 ^ a ≡ x * 2 ^ suc k * 2 ^ j =
      ap (λ (n : ℕ). x * 2 ^ n) (omega arith) ∙ ap (λ (n : ℕ). x * n) (pow-add 2 (suc k) j)
      ∙ sym (mul_assoc x (2 ^ suc k) (2 ^ j)) in
      ap (λ (n : ℕ). n / 2 ^ j % 2) (shifted ∙ e)
      ∙ ap (λ (n : ℕ). n % 2) (shl-shr (x * 2 ^ suc k) j)
      ∙ shifted_even x k

  mask-above : (j : ℕ) → b ≤ j → bit (2 ^ b - 2 ^ a) j ≡ 0
  unfolding bit
  mask-above j h =
      let l : 2 ^ b - 2 ^ a < 2 ^ (0 + j) =
      omega (arith, ap (λ (n : ℕ). 2 ^ n) (zero-add j), pow_mono {i = b} {j = j} h, pow_pos a, pow_pos b) in
      omega (arith, shr_lt {n = 2 ^ b - 2 ^ a} 0 j l)

  -- as code shifts all bits of a word down and up again; no bit of the mask is lost
  pub mask-shifted : b ≤ 64 → 18446744073709551615 / 2 ^ (64 - (b - a)) * 2 ^ a % 18446744073709551616 ≡ 2 ^ b - 2 ^ a
  mask-shifted h =
      let m = b - a in
      let x = 2 ^ m - 1 in
      let e : 18446744073709551615 ≡ x * 2 ^ (64 - m) + (2 ^ (64 - m) - 1) =
      ap (λ (n : ℕ). 2 ^ n - 1) {x = 64} {y = m + (64 - m)} (omega arith) ∙ ones_split m (64 - m) in
      ap (λ (n : ℕ). n / 2 ^ (64 - m) * 2 ^ a % 18446744073709551616) e
      ∙ ap (λ (n : ℕ). n * 2 ^ a % 18446744073709551616) (high x (64 - m) (ones_lt (64 - m)))
      ∙ shl_exact {a = x} m a 64 (ones_lt m) (omega arith)
      ∙ sym shifted

-- ---- bits of a conjunction and of a disjunction
bit-and : (x y j : ℕ) → bit (bit_and x y) j ≡ bit_and (bit x j) (bit y j)
unfolding bit
bit-and x y j = ap (λ (n : ℕ). n % 2) (and_shr x y j) ∙ and_mod (x / 2 ^ j) (y / 2 ^ j) 1

bit-or : (x y j : ℕ) → bit (bit_or x y) j ≡ bit_or (bit x j) (bit y j)
unfolding bit
bit-or x y j = ap (λ (n : ℕ). n % 2) (or_shr x y j) ∙ or_mod (x / 2 ^ j) (y / 2 ^ j) 1

bit-small : (x j : ℕ) → bit x j < 2
unfolding bit
bit-small x j = omega arith

pub bit-zero : (j : ℕ) → bit 0 j ≡ 0
unfolding bit
bit-zero j = omega (arith, shr_le 0 j)

-- a number other than 0 has a bit: its lowest, or one of its half
bit-half : (x j : ℕ) → bit x (suc j) ≡ bit (x / 2) j
unfolding bit
bit-half x j = ap (λ (n : ℕ). x / 2 ^ n % 2) (omega arith) ∙ ap (λ (n : ℕ). n % 2) (sym (shr-shr x 1 j))

bit-lowest : (x : ℕ) → bit x 0 ≡ x % 2
unfolding bit
bit-lowest x = omega arith

some-bit : (n x : ℕ) → x ≤ n → (x ≡ 0 → ⊥) → (j : ℕ) × (bit x j ≡ 1)
some-bit zero x h n = absurd (n (omega arith))
some-bit (suc m) x h n =
    by-eq (x % 2) 1
    (λ e. (0, bit-lowest x ∙ e))
    (λ e.
    let w = some-bit m (x / 2) (omega arith) (λ z. n (omega arith)) in
    (suc w.0, bit-half x w.0 ∙ w.1))

module _ (held a b : ℕ) (order : a ≤ b) where
  pub and-free : bit_and held (2 ^ b - 2 ^ a) ≡ 0 → (j : ℕ) → a ≤ j → j < b → bit held j ≡ 0
  and-free e j h k =
      let z : bit_and (bit held j) 1 ≡ 0 =
      ap (bit_and (bit held j)) (sym (mask-in a b order j h k)) ∙ sym (bit-and held (2 ^ b - 2 ^ a) j)
      ∙ ap (λ (x : ℕ). bit x j) e ∙ bit-zero j in
      omega (arith, sym (and_mask (bit held j) 1) ∙ z, bit-small held j)

  pub and-met : (bit_and held (2 ^ b - 2 ^ a) ≡ 0 → ⊥) → (j : ℕ) × (a ≤ j) × (j < b) × (bit held j ≡ 1)
  and-met n =
      let w = some-bit (bit_and held (2 ^ b - 2 ^ a)) (bit_and held (2 ^ b - 2 ^ a)) (omega arith) n in
      let j = w.0 in
      let e : bit_and (bit held j) (bit (2 ^ b - 2 ^ a) j) ≡ 1 = sym (bit-and held (2 ^ b - 2 ^ a) j) ∙ w.1 in
      let none : bit (2 ^ b - 2 ^ a) j ≡ 0 → ⊥ = λ z.
      omega (arith, sym e, ap (bit_and (bit held j)) z, and_zero_r (bit held j)) in
      by_le a j
      (λ h. by_le b j
      (λ k. absurd (none (mask-above a b order j k)))
      (λ k. (j, h, k, omega (arith, e, and_le_l (bit held j) (bit (2 ^ b - 2 ^ a) j), bit-small held j))))
      (λ h. absurd (none (mask_below a b order j h)))

  pub or-in : (j : ℕ) → a ≤ j → j < b → bit held j ≡ 0 → bit (bit_or held (2 ^ b - 2 ^ a)) j ≡ 1
  or-in j h k z =
      bit-or held (2 ^ b - 2 ^ a) j ∙ ap₂ bit_or z (mask-in a b order j h k)

  pub or-out : (j : ℕ) → (j < a) ⊎ (b ≤ j) → bit (bit_or held (2 ^ b - 2 ^ a)) j ≡ bit held j
  or-out j s = bit-or held (2 ^ b - 2 ^ a) j ∙ ap (bit_or (bit held j)) (none s) ∙ or_zero_r (bit held j)
    where
      none : (j < a) ⊎ (b ≤ j) → bit (2 ^ b - 2 ^ a) j ≡ 0
      none (inl h) = mask_below a b order j h
      none (inr h) = mask-above a b order j h
