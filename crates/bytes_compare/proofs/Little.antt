-- Blocks of bytes as numbers in the machine's own order, and a block of eight, byte by byte.
--     little-same                  bytes with the same number are the same
--     little-zero, zero-little     the number is 0 exactly where all bytes are
--     part-eight, store-eight      eight bytes read, and stored one after the other
-- Assumes nothing.
use Prim.Native.Nat.{ℕ, zero, suc, ◌+◌, ◌*◌, ◌≤◌}
use native.Mathlib.Omega.{arith}
use mathlib.Core.Bool.{true}
use mathlib.Core.List.{[], ◌∷◌, ◌++◌}
use mathlib.Core.Path.{◌≡◌, refl, sym, ap, ap₂, ◌∙◌}
use lib.ListN.{length, get_or, set, take, drop}
use lib.Seq.{get_or-drop, take-add, drop-drop}
use lib.Dec.{eqb}
use borrow.Author.Tests.{eq-eqb, eqb-true}
use Rattle.spec_file.specs.Bytes.{Bytes, part, store, all_zero}
use Rattle.law_file.proofs.Bytes.{AreBytes}
use Rattle.law_file.proofs.Tests.{and_left, and_right}
use Rattle.bytes_words.proofs.Numbers.{part-four, store-sets}
use Rattle.bytes_compare.specs.Little.{little}

-- ---- the bytes of a part are bytes
bytes_take : (n : ℕ) (b : Bytes) → AreBytes b → AreBytes (take n b)
bytes_take zero b h i = omega arith
bytes_take (suc n) [] h i = omega arith
bytes_take (suc n) (x ∷ b) h zero = h 0
bytes_take (suc n) (x ∷ b) h (suc i) = bytes_take n b (λ k. h (suc k)) i

pub bytes-part : (b : Bytes) (p m : ℕ) → AreBytes b → AreBytes (part b p m)
unfolding part
bytes-part b p m h = bytes_take m (drop p b) (λ i. omega (arith, get_or-drop p b i 0, h (p + i)))

-- ---- little
pub little-same : (a b : Bytes) → AreBytes a → AreBytes b → length a ≡ length b → little a ≡ little b → a ≡ b
unfolding little
little-same [] [] p q l e = refl
little-same [] (y ∷ b) p q l e = absurd (omega (arith, l))
little-same (x ∷ a) [] p q l e = absurd (omega (arith, l))
little-same (x ∷ a) (y ∷ b) p q l e =
    let h : x ≡ y = omega (arith, p 0, q 0, e) in
    ap₂ ◌∷◌ h (little-same a b (λ i. p (suc i)) (λ i. q (suc i)) (omega (arith, l)) (omega (arith, e, h)))

pub little-zero : (a : Bytes) → little a ≡ 0 → all_zero a ≡ true
unfolding little all_zero
little-zero [] e = refl
little-zero (x ∷ a) e = rw (eq-eqb x 0 (omega (arith, e))) (little-zero a (omega (arith, e)))

pub zero-little : (a : Bytes) → all_zero a ≡ true → little a ≡ 0
unfolding little all_zero
zero-little [] e = refl
zero-little (x ∷ a) e =
    omega (arith, eqb-true x 0 (and_left (eqb x 0) (all_zero a) e), zero-little a (and_right (eqb x 0) (all_zero a) e))

-- ---- eight bytes
-- two parts, one behind the other
pub part_join : (s : Bytes) (from j w : ℕ) → part s from j ++ part s (from + j) w ≡ part s from (j + w)
unfolding part
part_join s from j w =
    sym (take-add j w (drop from s) ∙ ap (λ (t : Bytes). take j (drop from s) ++ take w t) (drop-drop j from s))

high-four : (s : Bytes) (at : ℕ) → at + 8 ≤ length s
    → part s (at + 4) 4 ≡ get_or s (at + 4) 0 ∷ get_or s (at + 5) 0 ∷ get_or s (at + 6) 0 ∷ get_or s (at + 7) 0 ∷ []
high-four s at h =
    let e₅ : at + 4 + 1 ≡ at + 5 = omega arith in
    let e₆ : at + 4 + 2 ≡ at + 6 = omega arith in
    let e₇ : at + 4 + 3 ≡ at + 7 = omega arith in
    rw (← e₅, ← e₆, ← e₇) (part-four s (at + 4) (omega arith))

pub part-eight : (s : Bytes) (at : ℕ) → at + 8 ≤ length s
    → part s at 8
    ≡ get_or s at 0 ∷ get_or s (at + 1) 0 ∷ get_or s (at + 2) 0 ∷ get_or s (at + 3) 0
    ∷ get_or s (at + 4) 0 ∷ get_or s (at + 5) 0 ∷ get_or s (at + 6) 0 ∷ get_or s (at + 7) 0 ∷ []
part-eight s at h =
    sym (part_join s at 4 4) ∙ ap₂ ◌++◌ (part-four s at (omega arith)) (high-four s at h)

pub store-eight : (s : Bytes) (at a b c d e f g k : ℕ) → at + 8 ≤ length s
    → set (set (set (set (set (set (set (set s at a) (at + 1) b) (at + 2) c) (at + 3) d)
    (at + 4) e) (at + 5) f) (at + 6) g) (at + 7) k
    ≡ store s at (a ∷ b ∷ c ∷ d ∷ e ∷ f ∷ g ∷ k ∷ [])
store-eight s at a b c d e f g k h =
    let e₁ : at + 1 ≡ suc at = omega arith in
    let e₂ : at + 2 ≡ suc (suc at) = omega arith in
    let e₃ : at + 3 ≡ suc (suc (suc at)) = omega arith in
    let e₄ : at + 4 ≡ suc (suc (suc (suc at))) = omega arith in
    let e₅ : at + 5 ≡ suc (suc (suc (suc (suc at)))) = omega arith in
    let e₆ : at + 6 ≡ suc (suc (suc (suc (suc (suc at))))) = omega arith in
    let e₇ : at + 7 ≡ suc (suc (suc (suc (suc (suc (suc at)))))) = omega arith in
    rw (e₁, e₂, e₃, e₄, e₅, e₆, e₇) (store-sets (a ∷ b ∷ c ∷ d ∷ e ∷ f ∷ g ∷ k ∷ []) s at h)

-- the number of eight bytes, of its two halves
pub little-eight : (s : Bytes) (at : ℕ) → at + 8 ≤ length s
    → little (part s (at + 4) 4) * 4294967296 + little (part s at 4) ≡ little (part s at 8)
unfolding little
little-eight s at h = rw (high-four s at h, part-four s at (omega arith), part-eight s at h) (omega arith)

pub little-four : (s : Bytes) (at : ℕ) → at + 4 ≤ length s
    → get_or s (at + 3) 0 * 16777216 + (get_or s (at + 2) 0 * 65536 + (get_or s (at + 1) 0 * 256 + get_or s at 0))
    ≡ little (part s at 4)
unfolding little
little-four s at h = rw (part-four s at h) (omega arith)
