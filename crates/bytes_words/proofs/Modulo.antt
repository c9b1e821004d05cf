-- A product modulo 2^32 by 16-bit halves, and what wrapping sums and products make together.
--     halves-bound     a product of halves fits 32 bits
--     mul-halves       the product of the halves' sums, cut to 32 bits
-- Assumes nothing.
use Rattle.std.proofs.Common.{◌≡◌, ℕ, ◌+◌, ◌*◌, ◌/◌, ◌%◌, ◌<◌, ◌≤◌, sym, ap, ◌∙◌, mul_assoc, add-mul, mul-le-mul, div-add-mod', mul-add, mul_right_comm, arith}
use lib.Bits.{bit_and, and_mask}

pub halves-bound : (a b : ℕ) → a < 65536 → b < 65536 → a * b < 4294967296
halves-bound a b p q =
    let h : a * b ≤ 65535 * 65535 = mul-le-mul {n₂ = 65535} {m₂ = 65535} (omega arith) (omega arith) in
    omega arith

-- a factor of two halves
mul-half : (x y₁ y₀ : ℕ) → x * (y₁ * 65536 + y₀) ≡ x * y₁ * 65536 + x * y₀
mul-half x y₁ y₀ = mul-add x (y₁ * 65536) y₀ ∙ ap (λ (t : ℕ). t + x * y₀) (sym (mul_assoc x y₁ 65536))

expand : (a₁ a₀ b₁ b₀ : ℕ)
    → (a₁ * 65536 + a₀) * (b₁ * 65536 + b₀) ≡ (a₁ * b₁ * 65536 + a₁ * b₀) * 65536 + (a₀ * b₁ * 65536 + a₀ * b₀)
expand a₁ a₀ b₁ b₀ =
    add-mul (a₁ * 65536) a₀ (b₁ * 65536 + b₀)
    ∙ ap (λ (t : ℕ). t + a₀ * (b₁ * 65536 + b₀)) (mul_right_comm a₁ 65536 (b₁ * 65536 + b₀))
    ∙ ap (λ (t : ℕ). t * 65536 + a₀ * (b₁ * 65536 + b₀)) (mul-half a₁ b₁ b₀)
    ∙ ap (λ (t : ℕ). (a₁ * b₁ * 65536 + a₁ * b₀) * 65536 + t) (mul-half a₀ b₁ b₀)

-- the highest product is cut away, and the middle ones may be cut before they are shifted
cut : (u t q p : ℕ)
    → (p + (q + t) % 4294967296 * 65536 % 4294967296) % 4294967296
    ≡ ((u * 65536 + t) * 65536 + (q * 65536 + p)) % 4294967296
cut u t q p = omega arith

pub mul-halves : (a b m r : ℕ)
    → m ≡ (bit_and a 65535 * (b / 65536) + a / 65536 * bit_and b 65535) % 4294967296
    → r ≡ (bit_and a 65535 * bit_and b 65535 + m * 65536 % 4294967296) % 4294967296
    → r ≡ a * b % 4294967296
mul-halves a b m r e f =
    let a₁ : ℕ = a / 65536 in
    let a₀ : ℕ = bit_and a 65535 in
    let b₁ : ℕ = b / 65536 in
    let b₀ : ℕ = bit_and b 65535 in
    f
    ∙ ap (λ (t : ℕ). (a₀ * b₀ + t * 65536 % 4294967296) % 4294967296) e
    ∙ cut (a₁ * b₁) (a₁ * b₀) (a₀ * b₁) (a₀ * b₀)
    ∙ ap (λ (t : ℕ). t % 4294967296) (sym (expand a₁ a₀ b₁ b₀))
    ∙ rw (and_mask a 16, and_mask b 16, div-add-mod' a 65536, div-add-mod' b 65536)
