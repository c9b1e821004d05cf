-- Lists of m rows of n bytes: byte k of row i stands at i * n + k.
--     place-below                      such a place is within the list
--     same_row, same_byte              no two bytes share a place
--     length-tabulate, byte-tabulate   of a row, by its places
--     length-rows, byte-rows           of rows that are written out one behind the other
--     rows-equal                       two lists are equal where each byte of each row is
-- Assumes nothing.
use Prim.Native.Nat.{ℕ, zero, suc, ◌+◌, ◌*◌, ◌/◌, ◌%◌, ◌≤◌, ◌<◌}
use native.Mathlib.Nat.{zero-mul, mul-zero, suc-mul, mul-le-mul_right, div-add-mod', div-lt_iff_lt-mul, mod-lt}
use native.Mathlib.Omega.{arith}
use mathlib.Core.List.{◌++◌}
use mathlib.Core.Path.{◌≡◌, refl, sym, ap, ◌∙◌}
use lib.ListN.{length, get_or, length-append, get_or-append}
use lib.Seq.{ext_get_or, get_or-append-add}
use Rattle.spec_file.specs.Bytes.{Bytes}
use Rattle.law_file.proofs.Tests.{by_le}
use Rattle.spec_columns.specs.Columns.{tabulate, concatenate}

-- ---- places

-- a row ends where the next begins
row-end : (n i k : ℕ) → i < k → i * n + n ≤ k * n
row-end n i k h = omega (arith, mul-le-mul_right n h, suc-mul i n)

pub place-below : (m n i k : ℕ) → i < m → k < n → i * n + k < m * n
place-below m n i k h l = omega (arith, row-end n i m h)

-- the same place: the same row, and so the same byte
pub same_row : (n i k i' k' : ℕ) → k < n → k' < n → i * n + k ≡ i' * n + k' → i ≡ i'
same_row n i k i' k' l l' e =
    by_le i i'
    (λ a. by_le i' i (λ b. omega arith) (λ b. absurd (omega (arith, row-end n i i' b))))
    (λ a. absurd (omega (arith, row-end n i' i a)))

pub same_byte : (n i k i' k' : ℕ) → k < n → k' < n → i * n + k ≡ i' * n + k' → k ≡ k'
same_byte n i k i' k' l l' e = omega (arith, ap (λ (r : ℕ). r * n) (same_row n i k i' k' l l' e))

-- ---- rows

pub length-tabulate : (n : ℕ) (f : ℕ → ℕ) → length (tabulate n f) ≡ n
unfolding tabulate
length-tabulate zero f = refl
length-tabulate (suc n) f = ap suc (length-tabulate n (λ i. f (suc i)))

pub byte-tabulate : (n : ℕ) (f : ℕ → ℕ) (i : ℕ) → i < n → get_or (tabulate n f) i 0 ≡ f i
unfolding tabulate
byte-tabulate zero f i h = absurd (omega arith)
byte-tabulate (suc n) f zero h = refl
byte-tabulate (suc n) f (suc i) h = byte-tabulate n (λ k. f (suc k)) i (omega arith)

pub length-rows : (m n : ℕ) (f : ℕ → Bytes) → ((i : ℕ) → length (f i) ≡ n) → length (concatenate m f) ≡ m * n
unfolding concatenate
length-rows zero n f l = sym (zero-mul n)
length-rows (suc m) n f l =
    omega (
      arith,
      length-append (f 0) (concatenate m (λ i. f (suc i))),
      l 0,
      suc-mul m n,
      length-rows m n (λ i. f (suc i)) (λ i. l (suc i)),
    )

pub byte-rows : (m n : ℕ) (f : ℕ → Bytes) → ((i : ℕ) → length (f i) ≡ n) → (i k : ℕ) → i < m → k < n
    → get_or (concatenate m f) (i * n + k) 0 ≡ get_or (f i) k 0
unfolding concatenate
byte-rows zero n f l i k h h' = absurd (omega arith)
byte-rows (suc m) n f l zero k h h' =
    let at : zero * n + k ≡ k = omega (arith, zero-mul n) in
    ap (λ (p : ℕ). get_or (f 0 ++ concatenate m (λ i. f (suc i))) p 0) at
    ∙ get_or-append (f 0) (concatenate m (λ i. f (suc i))) 0 k (omega (arith, l 0))
byte-rows (suc m) n f l (suc i) k h h' =
    let at : suc i * n + k ≡ length (f 0) + (i * n + k) = omega (arith, suc-mul i n, l 0) in
    ap (λ (p : ℕ). get_or (f 0 ++ concatenate m (λ i. f (suc i))) p 0) at
    ∙ get_or-append-add (f 0) (concatenate m (λ i. f (suc i))) (i * n + k) 0
    ∙ byte-rows m n (λ i. f (suc i)) (λ i. l (suc i)) i k (omega arith) h'

-- each place is that of a byte of a row
row-pos : (m n p : ℕ) → p < m * n → 0 < n
row-pos m zero p h = absurd (omega (arith, mul-zero m))
row-pos m (suc n) p h = omega arith

pub rows-equal : (m n : ℕ) (s t : Bytes) → length s ≡ m * n → length t ≡ m * n
    → ((i k : ℕ) → i < m → k < n → get_or s (i * n + k) 0 ≡ get_or t (i * n + k) 0) → s ≡ t
rows-equal m n s t ls lt e =
    ext_get_or 0 s t (ls ∙ sym lt)
    (λ p h.
    let below : p < m * n = omega arith in
    let pos : 0 < n = row-pos m n p below in
    let at : p / n * n + p % n ≡ p = div-add-mod' p n in
    ap (λ (q : ℕ). get_or s q 0) (sym at)
    ∙ e (p / n) (p % n) ((div-lt_iff_lt-mul pos).1 below) (mod-lt p pos)
    ∙ ap (λ (q : ℕ). get_or t q 0) at)
