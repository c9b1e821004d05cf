-- What a comparison from the front has shown: `same` and `all_zero` of what is left, one byte or one block a turn.
--     same-pointwise                 `==` of two slices is `same`
--     same-lengths                   runs of different lengths are not the same
--     all_zero-step, all_zero-other    a zero byte at i leaves the rest; another one ends it
--     same_block, block-differ, same-last              the same of a block, and of the last, which may overlap
--     other_key                                        a block shows that neither holds
--     all_zero-block, all_zero-differ, all_zero-last      the same for zeros
-- Assumes nothing.
use Prim.Native.Nat.{ℕ, zero, suc, ◌+◌, ◌-◌, ◌≤◌, ◌<◌}
use native.Mathlib.Numerals.{add-one}
use mathlib.Core.Bool.{Bool, true, false, ◌&&◌, ◌||◌, and-false, true≢false}
use mathlib.Core.List.{[], ◌∷◌, ◌++◌}
use mathlib.Core.Path.{◌≡◌, refl, sym, ap, ap₂, ◌∙◌}
use lib.ListN.{length, get_or, take, drop, take-append-drop, length-drop}
use lib.Seq.{drop-cons, drop-length, drop-drop, take_all}
use lib.Dec.{eqb}
use lib.Pointwise.{pointwise}
use borrow.Author.Tests.{eq-eqb, ne_eqb, eqb-true}
use native.Mathlib.Omega.{arith}
use Rattle.spec_file.specs.Bytes.{Bytes, part, same, all_zero}
use Rattle.law_file.proofs.Tests.{by_bool, and_left, and_right}
use Rattle.law_file.proofs.Bytes.{AreBytes, part_length, same_refl, same_true}
use Rattle.bytes_compare.specs.Little.{little}
use Rattle.bytes_compare.proofs.Little.{bytes-part, little-same, little-zero, zero-little}

-- ---- same
pub same-pointwise : (a b : Bytes) → pointwise eqb a b ≡ same a b
unfolding same
same-pointwise [] [] = refl
same-pointwise [] (d ∷ b) = refl
same-pointwise (c ∷ a) [] = refl
same-pointwise (c ∷ a) (d ∷ b) = ap (λ (t : Bool). eqb c d && t) (same-pointwise a b)

-- the same of a block at once, as one number
same-append : (u a b : Bytes) → same (u ++ a) (u ++ b) ≡ same a b
unfolding same
same-append [] a b = refl
same-append (c ∷ u) a b = rw (eq-eqb c c refl) (same-append u a b)

-- a run from i on: a block, and what is behind it
split-block : (s : Bytes) (i w : ℕ) → drop i s ≡ part s i w ++ drop (i + w) s
unfolding part
split-block s i w = sym (take-append-drop w (drop i s)) ∙ ap (λ (t : Bytes). take w (drop i s) ++ t) (drop-drop w i s)

-- the last block is all that is left
last_block : (s : Bytes) (i w : ℕ) → i + w ≡ length s → drop i s ≡ part s i w
unfolding part
last_block s i w h = sym (take_all w (drop i s) (simp length-drop (omega arith)))

pub block-differ : (a b : Bytes) (i w : ℕ) → (little (part a i w) ≡ little (part b i w) → ⊥) → same a b ≡ false
block-differ a b i w n =
    by_bool (same a b) (λ h. absurd (n (ap (λ (t : Bytes). little (part t i w)) (same_true a b h)))) (λ h. h)

module _ (a b : Bytes) (p : AreBytes a) (q : AreBytes b) (l : length a ≡ length b) where
  blocks-equal : (i w : ℕ) → i + w ≤ length a → little (part a i w) ≡ little (part b i w) → part a i w ≡ part b i w
  blocks-equal i w h e =
      little-same (part a i w) (part b i w) (bytes-part a i w p) (bytes-part b i w q)
      (part_length a i w h ∙ sym (part_length b i w (omega arith))) e

  pub same_block : (i w : ℕ) → i + w ≤ length a → little (part a i w) ≡ little (part b i w)
      → same (drop i a) (drop i b) ≡ same (drop (i + w) a) (drop (i + w) b)
  same_block i w h e =
      ap₂ same
      (split-block a i w ∙ ap (λ (t : Bytes). t ++ drop (i + w) a) (blocks-equal i w h e))
      (split-block b i w)
      ∙ same-append (part b i w) (drop (i + w) a) (drop (i + w) b)

  -- the last block decides what is left of it
  pub same-last : (j i w : ℕ) → j ≤ i → j + w ≡ length a → same a b ≡ same (drop i a) (drop i b)
      → eqb (little (part a j w)) (little (part b j w)) ≡ same a b
  same-last j i w h f e =
      by_bool (eqb (little (part a j w)) (little (part b j w)))
      (λ t. t ∙ sym (e ∙ ap (λ (x : Bytes). same x (drop i b)) (left (eqb-true _ _ t)) ∙ same_refl (drop i b)))
      (λ t. t ∙ sym (block-differ a b j w (λ x. true≢false (sym (eq-eqb _ _ x) ∙ t))))
    where
      left : little (part a j w) ≡ little (part b j w) → drop i a ≡ drop i b
      left t =
          let k : j + (i - j) ≡ i = omega arith in
          let whole : drop j a ≡ drop j b =
          last_block a j w f ∙ blocks-equal j w (omega arith) t ∙ sym (last_block b j w (omega arith))
          in
          ap (λ (n : ℕ). drop n a) (sym k)
          ∙ sym (drop-drop (i - j) j a)
          ∙ ap (drop (i - j)) whole
          ∙ drop-drop (i - j) j b
          ∙ ap (λ (n : ℕ). drop n b) k

pub same-lengths : (a b : Bytes) → (length a ≡ length b → ⊥) → same a b ≡ false
unfolding same
same-lengths [] [] h = absurd (h refl)
same-lengths [] (c ∷ b) h = refl
same-lengths (c ∷ a) [] h = refl
same-lengths (c ∷ a) (d ∷ b) h =
    ap (λ (t : Bool). eqb c d && t) (same-lengths a b (λ e. h (ap suc e))) ∙ and-false (eqb c d)

-- ---- all_zero
pub all_zero-step : (s : Bytes) (i : ℕ) → i < length s → get_or s i 0 ≡ 0 → all_zero (drop i s) ≡ all_zero (drop (i + 1) s)
unfolding all_zero
all_zero-step s i p e = rw (add-one, drop-cons s i 0 p, eq-eqb (get_or s i 0) 0 e)

pub all_zero-other : (s : Bytes) (i : ℕ) → i < length s → (get_or s i 0 ≡ 0 → ⊥) → all_zero (drop i s) ≡ false
unfolding all_zero
all_zero-other s i p e = rw (drop-cons s i 0 p, ne_eqb (get_or s i 0) 0 e)

pub all_zero-end : (s : Bytes) (i : ℕ) → i ≡ length s → all_zero (drop i s) ≡ true
unfolding all_zero
all_zero-end s i p = rw (p, drop-length s)

-- a block at once
all_zero-append : (u a : Bytes) → all_zero u ≡ true → all_zero (u ++ a) ≡ all_zero a
unfolding all_zero
all_zero-append [] a e = refl
all_zero-append (c ∷ u) a e =
    rw (and_left (eqb c 0) (all_zero u) e) (all_zero-append u a (and_right (eqb c 0) (all_zero u) e))

pub all_zero-block : (s : Bytes) (i w : ℕ) → little (part s i w) ≡ 0 → all_zero (drop i s) ≡ all_zero (drop (i + w) s)
all_zero-block s i w e =
    ap all_zero (split-block s i w) ∙ all_zero-append (part s i w) (drop (i + w) s) (little-zero (part s i w) e)

-- parts of zeros are zeros
all_zero-take : (n : ℕ) (s : Bytes) → all_zero s ≡ true → all_zero (take n s) ≡ true
unfolding all_zero
all_zero-take zero s e = refl
all_zero-take (suc n) [] e = refl
all_zero-take (suc n) (c ∷ s) e =
    rw (and_left (eqb c 0) (all_zero s) e) (all_zero-take n s (and_right (eqb c 0) (all_zero s) e))

all_zero-drop : (n : ℕ) (s : Bytes) → all_zero s ≡ true → all_zero (drop n s) ≡ true
all_zero-drop zero s e = e
all_zero-drop (suc n) [] e = e
all_zero-drop (suc n) (c ∷ s) e = all_zero-drop n s (unfold all_zero in and_right (eqb c 0) (all_zero s) e)

pub all_zero-differ : (s : Bytes) (i w : ℕ) → (little (part s i w) ≡ 0 → ⊥) → all_zero s ≡ false
unfolding part
all_zero-differ s i w n =
    by_bool (all_zero s)
    (λ h. absurd (n (zero-little (take w (drop i s)) (all_zero-take w (drop i s) (all_zero-drop i s h)))))
    (λ h. h)

-- the last block decides what is left of it
pub all_zero-last : (s : Bytes) (j i w : ℕ) → j ≤ i → j + w ≡ length s → all_zero s ≡ all_zero (drop i s)
    → eqb (little (part s j w)) 0 ≡ all_zero s
all_zero-last s j i w h f e =
    by_bool (eqb (little (part s j w)) 0)
    (λ t. t ∙ sym (e ∙ left (eqb-true _ _ t)))
    (λ t. t ∙ sym (all_zero-differ s j w (λ x. true≢false (sym (eq-eqb _ _ x) ∙ t))))
  where
    left : little (part s j w) ≡ 0 → all_zero (drop i s) ≡ true
    left t =
        let k : j + (i - j) ≡ i = omega arith in
        ap (λ (n : ℕ). all_zero (drop n s)) (sym k)
        ∙ ap all_zero (sym (drop-drop (i - j) j s))
        ∙ all_zero-drop (i - j) (drop j s) (ap all_zero (last_block s j w f) ∙ little-zero (part s j w) t)

-- ---- a block that is neither the key's nor zero
pub other_key : (a b : Bytes) (i w x y : ℕ) → x ≡ little (part a i w) → y ≡ little (part b i w)
    → (eqb x y || eqb x 0) ≡ false → (same a b ≡ false) × (all_zero a ≡ false)
other_key a b i w x y p q e =
    let differs = or_left (eqb x y) (eqb x 0) e in
    let stands = or_right (eqb x y) (eqb x 0) e in (
      block-differ a b i w (λ h. true≢false (sym (eq-eqb x y (p ∙ h ∙ sym q)) ∙ differs)),
      all_zero-differ a i w (λ h. true≢false (sym (eq-eqb x 0 (p ∙ h)) ∙ stands)),
    )
  where
    or_left : (s t : Bool) → (s || t) ≡ false → s ≡ false
    or_left true t e = e
    or_left false t e = refl

    or_right : (s t : Bool) → (s || t) ≡ false → t ≡ false
    or_right true t e = absurd (true≢false e)
    or_right false t e = e
