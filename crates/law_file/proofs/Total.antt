-- Sums over the slots below n.
--     total f n        f 0 + .. + f (n − 1)
--     total-same, total-change        two sums whose terms are equal, or equal but at one place
-- Assumes nothing.
use mathlib.Core.Path.{◌≡◌, refl, sym, ap, ap₂}
use Prim.Native.Nat.{ℕ, zero, suc, ◌+◌, ◌*◌, ◌≤◌, ◌<◌}
use native.Mathlib.Nat.{suc-mul}
use native.Mathlib.Omega.{arith}
use Rattle.law_file.proofs.Tests.{by-eq}

unfoldable pub total : (ℕ → ℕ) → ℕ → ℕ
total f zero = 0
total f (suc n) = total f n + f n

pub total-same : (f h : ℕ → ℕ) (n : ℕ) → ((i : ℕ) → i < n → f i ≡ h i) → total f n ≡ total h n
unfolding total
total-same f h zero e = refl
total-same f h (suc n) e = ap₂ ◌+◌ (total-same f h n (λ i l. e i (omega arith))) (e n (omega arith))

-- equal but at i: what h has more at i it has more in all
pub total-change : (f h : ℕ → ℕ) (n i : ℕ) → i < n → ((j : ℕ) → j < n → (j ≡ i → ⊥) → f j ≡ h j)
    → total f n + h i ≡ total h n + f i
unfolding total
total-change f h zero i l e = absurd (omega arith)
total-change f h (suc n) i l e =
    let ih : i < n → total f n + h i ≡ total h n + f i = λ k. total-change f h n i k (λ j m. e j (omega arith)) in
    by-eq i n
    (λ q.
    let below : total f n ≡ total h n = total-same f h n (λ j m. e j (omega arith) (λ z. absurd (omega arith))) in
    omega (arith, ap f q, ap h q))
    (λ q. omega (arith, ih (omega arith), e n (omega arith) (λ z. q (sym z))))

pub total-const : (c n : ℕ) → total (λ i. c) n ≡ n * c
unfolding total
total-const c zero = omega arith
total-const c (suc n) = omega (arith, total-const c n, suc-mul n c)

pub total-bound : (f : ℕ → ℕ) (n b : ℕ) → ((i : ℕ) → i < n → f i ≤ b) → total f n ≤ n * b
unfolding total
total-bound f zero b h = omega arith
total-bound f (suc n) b h =
    omega (arith, total-bound f n b (λ i l. h i (omega arith)), h n (omega arith), suc-mul n b)

-- a term is at most the sum
pub term-le : (f : ℕ → ℕ) (n i : ℕ) → i < n → f i ≤ total f n
unfolding total
term-le f zero i l = absurd (omega arith)
term-le f (suc n) i l =
    let ih : i < n → f i ≤ total f n = λ k. term-le f n i k in
    by-eq i n (λ q. omega (arith, ap f q)) (λ q. omega (arith, ih (omega arith)))
