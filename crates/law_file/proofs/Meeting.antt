-- Stretches of slots, and whether they meet.
--     some-which, some-no, some-all      the test over the numbers below n
--     vacant-apart       a slot that is not taken meets none
--     apart-meets, meets-apart      two stretches meet exactly where they are not apart
-- Assumes nothing.
use mathlib.Core.Path.{◌≡◌, refl, sym, ap, ap₂, ◌∙◌}
use Prim.Native.Nat.{ℕ, zero, suc, ◌+◌, ◌<◌}
use native.Mathlib.Omega.{arith}
use mathlib.Core.Bool.{Bool, true, false, ◌||◌, false≢true}
use mathlib.Core.Logic.{inl, inr}
use lib.Dec.{ltb}
use borrow.Author.Tests.{lt-ltb, le-ltb, ne_eqb}
use Rattle.spec_file.specs.Bytes.{Bytes}
use Rattle.spec_file.specs.Image.{Layout, slot, offset_of}
use Rattle.spec_file.specs.Inspect.{taken, stretch_start, end_at, stretch_end, meets, some_below, meets_lower}
use Rattle.law_file.proofs.Tests.{by_bool, by-eq, by_le, and-true, by-or, not-both}
use Rattle.law_file.proofs.Bytes.{Apart}
use Rattle.law_file.proofs.Stretch.{span}

-- ---- a test over the numbers below n

pub some-which : (p : ℕ → Bool) (n : ℕ) → some_below p n ≡ true → (k : ℕ) × (k < n) × (p k ≡ true)
unfolding some_below
some-which p zero h = absurd (false≢true h)
some-which p (suc n) h =
    let ih : some_below p n ≡ true → (k : ℕ) × (k < n) × (p k ≡ true) = some-which p n in
    by-or (p n) (some_below p n) h
    (λ y. (n, omega arith, y))
    (λ m r. let w = ih r in (w.0, omega (arith, w.1), w.2))

pub some-no : (p : ℕ → Bool) (n : ℕ) → some_below p n ≡ false → (k : ℕ) → k < n → p k ≡ false
unfolding some_below
some-no p zero h k l = absurd (omega arith)
some-no p (suc n) h k l =
    let ih : some_below p n ≡ false → k < n → p k ≡ false = λ h' l'. some-no p n h' k l' in
    by_bool (p n)
    (λ y. absurd (not-both (p n || some_below p n) (ap (λ (b : Bool). b || some_below p n) y) h))
    (λ m. by-eq k n (λ e. ap p e ∙ m) (λ e. ih (sym (ap (λ (b : Bool). b || some_below p n) m) ∙ h) (omega arith)))

pub some-all : (p : ℕ → Bool) (n : ℕ) → ((k : ℕ) → k < n → p k ≡ false) → some_below p n ≡ false
unfolding some_below
some-all p zero h = refl
some-all p (suc n) h = ap₂ ◌||◌ (h n (omega arith)) (some-all p n (λ k l. h k (omega arith)))

-- ---- two stretches

module _ (g : Layout) (img : Bytes) where
  abbrev at : ℕ → ℕ
  at i = offset_of g (slot g img i)

  start-vacant : (i : ℕ) → taken g img i ≡ false → (stretch_start g img i ≡ 0) × (stretch_end g img i ≡ 0)
  unfolding stretch_start stretch_end end_at
  start-vacant i v = (rw v refl, rw v refl)

  start_none : (i : ℕ) → taken g img i ≡ true → at i ≡ 0 → (stretch_start g img i ≡ 0) × (stretch_end g img i ≡ 0)
  unfolding stretch_start stretch_end end_at
  start_none i t z = (rw (t, z) refl, rw (t, z) refl)

  start-some : (i : ℕ) → taken g img i ≡ true → (at i ≡ 0 → ⊥)
      → (stretch_start g img i ≡ at i) × (stretch_end g img i ≡ at i + span g img (at i))
  unfolding stretch_start stretch_end end_at
  start-some i t z = (rw t refl, rw (t, ne_eqb (at i) 0 z) (omega arith))

  -- a slot without a stretch meets none
  meets-none : (i j : ℕ) → stretch_start g img i ≡ 0 → stretch_end g img i ≡ 0 → meets g img i j ≡ false
  unfolding meets
  meets-none i j s e =
      rw (e, le-ltb (stretch_start g img j) 0 (omega arith))
      (by_bool (ltb (stretch_start g img i) (stretch_end g img j)) (λ b. rw b refl) (λ b. rw b refl))

  none-meets : (i j : ℕ) → stretch_start g img j ≡ 0 → stretch_end g img j ≡ 0 → meets g img i j ≡ false
  unfolding meets
  none-meets i j s e = rw (e, le-ltb (stretch_start g img i) 0 (omega arith)) refl

  pub vacant-apart : (i : ℕ) → taken g img i ≡ false → meets_lower g img i ≡ false
  unfolding meets_lower
  vacant-apart i v =
      some-all (meets g img i) i (λ k l. meets-none i k (start-vacant i v).0 (start-vacant i v).1)

  -- apart, so that they do not meet; and the other way round
  pub apart-meets : (i j : ℕ)
      → (taken g img i ≡ true → taken g img j ≡ true → (at i ≡ 0 → ⊥) → (at j ≡ 0 → ⊥)
      → Apart (at i) (span g img (at i)) (at j) (span g img (at j)))
      → meets g img i j ≡ false
  apart-meets i j f =
      by_bool (taken g img i)
      (λ ti. by-eq (at i) 0
      (λ z. meets-none i j (start_none i ti z).0 (start_none i ti z).1)
      (λ zi. by_bool (taken g img j)
      (λ tj. by-eq (at j) 0
      (λ z. none-meets i j (start_none j tj z).0 (start_none j tj z).1)
      (λ zj. both i j ti tj zi zj (f ti tj zi zj)))
      (λ v. none-meets i j (start-vacant j v).0 (start-vacant j v).1)))
      (λ v. meets-none i j (start-vacant i v).0 (start-vacant i v).1)
    where
      both : (i j : ℕ) → taken g img i ≡ true → taken g img j ≡ true → (at i ≡ 0 → ⊥) → (at j ≡ 0 → ⊥)
          → Apart (at i) (span g img (at i)) (at j) (span g img (at j)) → meets g img i j ≡ false
      both i j ti tj zi zj (inl h) =
          let a = start-some i ti zi in
          let b = start-some j tj zj in
          let e = le-ltb (stretch_start g img j) (stretch_end g img i) (omega (arith, a.1, b.0)) in
          unfold meets in
          rw e (by_bool (ltb (stretch_start g img i) (stretch_end g img j)) (λ c. rw c refl) (λ c. rw c refl))
      both i j ti tj zi zj (inr h) =
          let a = start-some i ti zi in
          let b = start-some j tj zj in
          let e = le-ltb (stretch_start g img i) (stretch_end g img j) (omega (arith, a.0, b.1)) in
          unfold meets in rw e refl

  pub meets-apart : (i j : ℕ) → meets g img i j ≡ false → taken g img i ≡ true → taken g img j ≡ true
      → (at i ≡ 0 → ⊥) → (at j ≡ 0 → ⊥) → Apart (at i) (span g img (at i)) (at j) (span g img (at j))
  unfolding meets
  meets-apart i j h ti tj zi zj =
      let a = start-some i ti zi in
      let b = start-some j tj zj in
      by_le (at j + span g img (at j)) (at i)
      (λ le. inr (omega arith))
      (λ lt. by_le (at i + span g img (at i)) (at j)
      (λ le. inl (omega arith))
      (λ lt'. absurd (not-both (meets g img i j)
      (and-true _ _
      (lt-ltb (stretch_start g img i) (stretch_end g img j) (omega (arith, a.0, b.1)))
      (lt-ltb (stretch_start g img j) (stretch_end g img i) (omega (arith, a.1, b.0)))) h)))
