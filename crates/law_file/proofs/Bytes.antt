-- Laws of bytes: what is read at the place of a store, below it and above it, its length; numbers of any width.
-- Every write to an image is a `store`, so these laws carry all that is said of bytes. Callers do not unfold `store`.
-- Assumes nothing.
use mathlib.Core.Path.{◌≡◌, refl, sym, ap, ap₂, ◌∙◌, subst}
use Prim.Native.Nat.{ℕ, zero, suc, ◌+◌, ◌-◌, ◌*◌, ◌/◌, ◌%◌, ◌^◌, ◌≤◌, ◌<◌}
use native.Mathlib.Nat.{zero-add, mod-eq_of_lt, mod-one, suc-mul, mul-suc, mul-le-mul_right, pow-succ'}
use native.Mathlib.Omega.{arith}
use mathlib.Core.Bool.{true, false, true≢false, false≢true}
use mathlib.Core.Logic.{◌⊎◌, inl, inr}
use mathlib.Core.List.{List, [], ◌∷◌, ◌++◌}
use lib.ListN.{length, take, drop, get_or, length-append, length-drop, length-replicate}
use lib.Seq.{take_at, drop_at, take-append-le, drop-append-le, drop-append-add, drop-drop, take-take, take-add, length-take-le, get_or-drop}
use lib.Dec.{eqb}
use lib.Pow.{pow-add, mod-pow-add}
use borrow.Author.Tests.{eqb-true, eq-eqb}
use Rattle.law_file.proofs.Tests.{by_bool, by_le, and_left, and_right}
use Rattle.spec_file.specs.Bytes.{Bytes, part, store, number, digits, zeros, all_zero, same}

-- ---- part

pub part_length : (b : Bytes) (p m : ℕ) → p + m ≤ length b → length (part b p m) ≡ m
unfolding part
part_length b p m h = length-take-le m (drop p b) (simp length-drop (omega arith))

-- a part with bytes behind it
pub length-part-append : (b : Bytes) (p m : ℕ) (v : Bytes) → p + m ≤ length b → length (part b p m ++ v) ≡ m + length v
length-part-append b p m v h =
    length-append (part b p m) v ∙ ap (λ (n : ℕ). n + length v) (part_length b p m h)

pub part-part : (b : Bytes) (p n q m : ℕ) → q + m ≤ n → part (part b p n) q m ≡ part b (p + q) m
unfolding part
part-part b p n q m h = go q n (drop p b) h ∙ ap (take m) (drop-drop q p b)
  where
    go : (q n : ℕ) (l : List ℕ) → q + m ≤ n → take m (drop q (take n l)) ≡ take m (drop q l)
    go zero n l h = take-take m n l (omega arith)
    go (suc q) zero l h = absurd (omega arith)
    go (suc q) (suc n) [] h = refl
    go (suc q) (suc n) (x ∷ l) h = go q n l (omega arith)

-- a part and what stands behind it
pub part-add : (b : Bytes) (p n m : ℕ) → part b p (n + m) ≡ part b p n ++ part b (p + n) m
unfolding part
part-add b p n m =
    take-add n m (drop p b) ∙ ap (λ (l : Bytes). take n (drop p b) ++ take m l) (drop-drop n p b)

-- ---- store

-- what stands before a store, and its length
head-length : (b : Bytes) (p : ℕ) → p ≤ length b → length (take p b) ≡ p
head-length b p h = length-take-le p b h

pub length-store : (b : Bytes) (p : ℕ) (v : Bytes) → p + length v ≤ length b → length (store b p v) ≡ length b
unfolding store
length-store b p v h =
    length-append (take p b) (v ++ drop (length v) (drop p b))
    ∙ ap₂ ◌+◌ (head-length b p (omega arith)) (length-append v (drop (length v) (drop p b)))
    ∙ rest
  where
    rest : p + (length v + length (drop (length v) (drop p b))) ≡ length b
    rest = simp (length-drop) (omega arith)

pub part-store-same : (b : Bytes) (p : ℕ) (v : Bytes) → p ≤ length b → part (store b p v) p (length v) ≡ v
unfolding part store
part-store-same b p v h =
    ap (take (length v)) (drop_at (take p b) (v ++ drop (length v) (drop p b)) p (head-length b p h))
    ∙ take_at v (drop (length v) (drop p b)) (length v) refl

-- a part of what was stored
pub part-store-inside : (b : Bytes) (p : ℕ) (v : Bytes) (k m : ℕ) → p ≤ length b → k + m ≤ length v
    → part (store b p v) (p + k) m ≡ part v k m
part-store-inside b p v k m h f =
    sym (part-part (store b p v) p (length v) k m f) ∙ ap (λ (l : Bytes). part l k m) (part-store-same b p v h)

pub part-store-below : (b : Bytes) (p : ℕ) (v : Bytes) (q m : ℕ) → p ≤ length b → q + m ≤ p
    → part (store b p v) q m ≡ part b q m
unfolding part store
part-store-below b p v q m h f =
    ap (take m) (drop-append-le q (take p b) (v ++ drop (length v) (drop p b)) (simp (head-length b p h) (omega arith)))
    ∙ take-append-le m (drop q (take p b)) (v ++ drop (length v) (drop p b))
    (simp (length-drop, head-length b p h) (omega arith))
    ∙ inside
  where
    inside : take m (drop q (take p b)) ≡ take m (drop q b)
    inside = unfold part in (part-part b 0 p q m f ∙ ap (λ (n : ℕ). take m (drop n b)) (zero-add q))

pub part-store-above : (b : Bytes) (p : ℕ) (v : Bytes) (q m : ℕ) → p + length v ≤ length b → p + length v ≤ q
    → part (store b p v) q m ≡ part b q m
unfolding part store
part-store-above b p v q m h f =
    ap (take m)
    (ap (λ (n : ℕ). drop n (take p b ++ (v ++ tail))) split₁
    ∙ ap (λ (n : ℕ). drop (n + (length v + (q - (p + length v)))) (take p b ++ (v ++ tail)))
    (sym (head-length b p (omega arith)))
    ∙ drop-append-add (take p b) (v ++ tail) (length v + (q - (p + length v)))
    ∙ drop-append-add v tail (q - (p + length v))
    ∙ drop-drop (q - (p + length v)) (length v) (drop p b)
    ∙ drop-drop (length v + (q - (p + length v))) p b
    ∙ ap (λ (n : ℕ). drop n b) (sym split₁))
  where
    tail : List ℕ
    tail = drop (length v) (drop p b)

    split₁ : q ≡ p + (length v + (q - (p + length v)))
    split₁ = omega arith

-- the m places from q on and the n places from p on have none in common
abbrev pub Apart : ℕ → ℕ → ℕ → ℕ → Type 0
Apart q m p n = (q + m ≤ p) ⊎ (p + n ≤ q)

pub apart-sym : (q m p n : ℕ) → Apart q m p n → Apart p n q m
apart-sym q m p n (inl h) = inr h
apart-sym q m p n (inr h) = inl h

-- a stretch inside one of the two
pub apart-inside : (q m p n q' m' : ℕ) → q ≤ q' → q' + m' ≤ q + m → Apart q m p n → Apart q' m' p n
apart-inside q m p n q' m' lo hi (inl h) = inl (omega arith)
apart-inside q m p n q' m' lo hi (inr h) = inr (omega arith)

-- what is read apart from the place of a store
pub part-store-other : (b : Bytes) (p : ℕ) (v : Bytes) (q m : ℕ) → p + length v ≤ length b → Apart q m p (length v)
    → part (store b p v) q m ≡ part b q m
part-store-other b p v q m h (inl f) = part-store-below b p v q m (omega arith) f
part-store-other b p v q m h (inr f) = part-store-above b p v q m h f

-- bytes behind a store are as they were, also where it leads past the end
take-most : (n : ℕ) (l : List ℕ) → length (take n l) ≤ n
take-most zero l = omega arith
take-most (suc n) [] = omega arith
take-most (suc n) (x ∷ l) = omega (arith, take-most n l)

pub drop_past : (n : ℕ) (l : List ℕ) → length l ≤ n → drop n l ≡ []
drop_past zero [] h = refl
drop_past zero (x ∷ l) h = absurd (omega arith)
drop_past (suc n) [] h = refl
drop_past (suc n) (x ∷ l) h = drop_past n l (omega arith)

store-short : (b : Bytes) (p : ℕ) (v : Bytes) → length b < p + length v → length (store b p v) ≤ p + length v
unfolding store
store-short b p v h =
    rw (length-append (take p b) (v ++ drop (length v) (drop p b)), length-append v (drop (length v) (drop p b)))
    (simp (length-drop) (omega (arith, take-most p b)))

pub part-store-behind : (b : Bytes) (p : ℕ) (v : Bytes) (q m : ℕ) → p + length v ≤ q
    → part (store b p v) q m ≡ part b q m
unfolding part
part-store-behind b p v q m f =
    by_le (p + length v) (length b)
    (λ h. part-store-above b p v q m h f)
    (λ h.
    ap (take m)
    (drop_past q (store b p v) (omega (arith, store-short b p v h)) ∙ sym (drop_past q b (omega arith))))

-- ---- numbers of any width

pub length_digits : (w n : ℕ) → length (digits w n) ≡ w
unfolding digits
length_digits zero n = refl
length_digits (suc w) n = ap suc (length_digits w n)

-- 256 ^ w is a power of two, so that the laws of digits in base two serve
pow-256 : (w : ℕ) → 256 ^ w ≡ 2 ^ (8 * w)
pow-256 zero = refl
pow-256 (suc w) =
    pow-succ' 256 w ∙ ap (λ (n : ℕ). 256 * n) (pow-256 w) ∙ sym (pow-add 2 8 (8 * w))
    ∙ ap (λ (n : ℕ). 2 ^ n) (omega (arith, mul-suc 8 w))

-- one digit more: the digit above, and what is below it
digit-more : (n w : ℕ) → n / 256 ^ w % 256 * 256 ^ w + n % 256 ^ w ≡ n % 256 ^ suc w
digit-more n w =
    ap (λ (a : ℕ). n / a % 256 * a + n % a) (pow-256 w)
    ∙ sym (mod-pow-add n 8 (8 * w))
    ∙ ap (λ (a : ℕ). n % 2 ^ a) (omega (arith, mul-suc 8 w))
    ∙ ap (λ (a : ℕ). n % a) (sym (pow-256 (suc w)))

pub number_digits : (w n : ℕ) → number (digits w n) ≡ n % 256 ^ w
unfolding number digits
number_digits zero n = sym (mod-one n)
number_digits (suc w) n =
    ap₂ (λ (a b : ℕ). n / 256 ^ w % 256 * 256 ^ a + b) (length_digits w n) (number_digits w n) ∙ digit-more n w

-- what fits is read back as it was
pub number-digits-fits : (w n : ℕ) → n < 256 ^ w → number (digits w n) ≡ n
number-digits-fits w n h = number_digits w n ∙ mod-eq_of_lt h

-- every element is a byte: what owning a slice gives, as `c.shared-slice-known.given`
abbrev pub AreBytes : Bytes → Type 0
AreBytes b = (i : ℕ) → get_or b i 0 < 256

-- a number stored in bytes is below what its width can hold
pub number-below : (v : Bytes) → AreBytes v → number v < 256 ^ length v
unfolding number
number-below [] h = omega arith
number-below (b ∷ bs) h =
    let ih : number bs < 256 ^ length bs = number-below bs (λ i. h (suc i)) in
    let top : suc b * 256 ^ length bs ≤ 256 * 256 ^ length bs = mul-le-mul_right (256 ^ length bs) (h 0) in
    omega (arith, ih, top, suc-mul b (256 ^ length bs), pow-succ' 256 (length bs))

pub take-bytes : (m : ℕ) (b : Bytes) → AreBytes b → AreBytes (take m b)
take-bytes zero b h i = omega arith
take-bytes (suc m) [] h i = omega arith
take-bytes (suc m) (x ∷ b) h zero = h zero
take-bytes (suc m) (x ∷ b) h (suc i) = take-bytes m b (λ k. h (suc k)) i

pub drop-bytes : (n : ℕ) (b : Bytes) → AreBytes b → AreBytes (drop n b)
drop-bytes n b h i = rw (get_or-drop n b i 0) (h (n + i))

pub part-below : (b : Bytes) (p m : ℕ) → AreBytes b → p + m ≤ length b → number (part b p m) < 256 ^ m
part-below b p m h l =
    subst (λ (n : ℕ). number (part b p m) < 256 ^ n) (part_length b p m l)
    (number-below (part b p m)
    (unfold part in take-bytes m (drop p b) (drop-bytes p b h)))

-- bytes of one length that store the same number are the same
pub number_same : (a b : Bytes) → AreBytes a → AreBytes b → length a ≡ length b → number a ≡ number b → a ≡ b
unfolding number
number_same [] [] f h l e = refl
number_same [] (y ∷ b) f h l e = absurd (omega arith)
number_same (x ∷ a) [] f h l e = absurd (omega arith)
number_same (x ∷ a) (y ∷ b) f h l e =
    let l' : length a ≡ length b = omega arith in
    let P = 256 ^ length b in
    let p : 256 ^ length a ≡ P = ap (λ (n : ℕ). 256 ^ n) l' in
    let e' : x * P + number a ≡ y * P + number b = sym (ap (λ (n : ℕ). x * n + number a) p) ∙ e in
    let q : x ≡ y = top x y P (number a) (number b)
    (subst (λ (n : ℕ). number a < n) p (number-below a (λ i. f (suc i)))) (number-below b (λ i. h (suc i))) e' in
    let r : number a ≡ number b = omega (arith, e', ap (λ (n : ℕ). n * P) q) in
    ap₂ ◌∷◌ q (number_same a b (λ i. f (suc i)) (λ i. h (suc i)) l' r)
  where
    top : (x y P m n : ℕ) → m < P → n < P → x * P + m ≡ y * P + n → x ≡ y
    top x y P m n lm ln q =
        by_le x y
        (λ h. by_le y x (λ k. omega arith)
        (λ k. let s : suc x * P ≤ y * P = mul-le-mul_right P k in absurd (omega (arith, s, suc-mul x P))))
        (λ k. let s : suc y * P ≤ x * P = mul-le-mul_right P k in absurd (omega (arith, s, suc-mul y P)))

pub digits-bytes : (w n : ℕ) → AreBytes (digits w n)
unfolding digits
digits-bytes zero n i = omega arith
digits-bytes (suc w) n zero = omega arith
digits-bytes (suc w) n (suc i) = digits-bytes w n i

-- bytes are the digits of the number that they store
pub digits_number : (v : Bytes) → AreBytes v → digits (length v) (number v) ≡ v
digits_number v h =
    number_same (digits (length v) (number v)) v (digits-bytes (length v) (number v)) h
    (length_digits (length v) (number v)) (number-digits-fits (length v) (number v) (number-below v h))

-- ---- zeros and comparisons

pub length-zeros : (n : ℕ) → length (zeros n) ≡ n
unfolding zeros
length-zeros n = length-replicate n 0

pub all_zero-zeros : (n : ℕ) → all_zero (zeros n) ≡ true
unfolding all_zero zeros
all_zero-zeros zero = refl
all_zero-zeros (suc n) = all_zero-zeros n

pub all_zero-zeros-eq : (b : Bytes) → all_zero b ≡ true → b ≡ zeros (length b)
unfolding all_zero zeros
all_zero-zeros-eq [] h = refl
all_zero-zeros-eq (x ∷ b) h =
    ap₂ ◌∷◌ (eqb-true x 0 (and_left (eqb x 0) (all_zero b) h)) (all_zero-zeros-eq b (and_right (eqb x 0) (all_zero b) h))

pub same_refl : (b : Bytes) → same b b ≡ true
unfolding same
same_refl [] = refl
same_refl (x ∷ b) = rw (eq-eqb x x refl) (same_refl b)

pub same_true : (a b : Bytes) → same a b ≡ true → a ≡ b
unfolding same
same_true [] [] h = refl
same_true [] (y ∷ b) h = absurd (false≢true h)
same_true (x ∷ a) [] h = absurd (false≢true h)
same_true (x ∷ a) (y ∷ b) h =
    ap₂ ◌∷◌ (eqb-true x y (and_left (eqb x y) (same a b) h)) (same_true a b (and_right (eqb x y) (same a b) h))

pub same_false : (a b : Bytes) → same a b ≡ false → a ≡ b → ⊥
same_false a b h e = true≢false (sym (same_refl a) ∙ ap (same a) e ∙ h)

-- two strings are equal or not
pub by-same {ℓ} : {A : Type ℓ} (a b : Bytes) → (a ≡ b → A) → ((a ≡ b → ⊥) → A) → A
by-same a b yes' no' = by_bool (same a b) (λ h. yes' (same_true a b h)) (λ h. no' (same_false a b h))
