-- The lowest number below n for which a test holds, n where there is none.
--     first-is      it is known by three facts; first-low, first-yes, first-no give them back
--     first_either      the lowest of either of two tests: the second is asked only below the first's
-- Assumes nothing.
use mathlib.Core.Path.{◌≡◌, refl, ap, ap₂, ◌∙◌}
use Prim.Native.Nat.{ℕ, ◌≤◌, ◌<◌}
use native.Mathlib.Omega.{arith}
use mathlib.Core.Bool.{Bool, true, false, ◌||◌}
use mathlib.Core.Option.{Option, none, some}
use Rattle.spec_file.specs.Inspect.{lowest}
use Rattle.law_file.proofs.Tests.{by_le, or_right, not-both}
use Rattle.law_file.proofs.Verdict.{lowest-some, lowest-none}
use Rattle.message_stretch.specs.Stretches.{number_or}

abbrev first : (ℕ → Bool) → ℕ → ℕ
first p n = number_or n (lowest p n 0)

pub first-is : (p : ℕ → Bool) (n best : ℕ) → best ≤ n → (best < n → p best ≡ true) → ((k : ℕ) → k < best → p k ≡ false)
    → best ≡ number_or n (lowest p n 0)
unfolding number_or
first-is p n best low yes' no' = on (lowest p n 0) refl
  where
    on : (o : Option ℕ) → lowest p n 0 ≡ o → best ≡ number_or n o
    on none e =
        by_le n best (λ h. omega arith)
        (λ h. absurd (not-both (p best) (yes' h) (lowest-none p n 0 e best (omega arith) (omega arith))))
    on (some j) e =
        let f = lowest-some p n 0 j e in
        by_le best j
        (λ h.
        by_le j best (λ k. omega arith)
        (λ k. absurd (not-both (p best) (yes' (omega (arith, f.1))) (f.3 best (omega arith) k))))
        (λ h. absurd (not-both (p j) f.2 (no' j h)))

-- what it is of each answer
first-facts : (p : ℕ → Bool) (n : ℕ) (o : Option ℕ) → lowest p n 0 ≡ o
    → (number_or n o ≤ n) × (number_or n o < n → p (number_or n o) ≡ true) × ((k : ℕ) → k < number_or n o → p k ≡ false)
unfolding number_or
first-facts p n none e =
    (omega arith, λ h. absurd (omega arith), λ k h. lowest-none p n 0 e k (omega arith) (omega arith))
first-facts p n (some j) e =
    let f = lowest-some p n 0 j e in
    (omega (arith, f.1), λ h. f.2, λ k h. f.3 k (omega arith) h)

module _ (p : ℕ → Bool) (n : ℕ) where
  pub first-low : number_or n (lowest p n 0) ≤ n
  first-low = (first-facts p n (lowest p n 0) refl).0

  pub first-yes : number_or n (lowest p n 0) < n → p (number_or n (lowest p n 0)) ≡ true
  first-yes = (first-facts p n (lowest p n 0) refl).1

  pub first-no : (k : ℕ) → k < number_or n (lowest p n 0) → p k ≡ false
  first-no = (first-facts p n (lowest p n 0) refl).2

pub first_either : (p q : ℕ → Bool) (n : ℕ)
    → number_or (number_or n (lowest p n 0)) (lowest q (number_or n (lowest p n 0)) 0)
    ≡ number_or n (lowest (λ i. p i || q i) n 0)
first_either p q n =
    let P = first p n in
    let Q = first q P in
    first-is (λ i. p i || q i) n Q (omega (arith, first-low p n, first-low q P))
    (λ h.
    by_le P Q
    (λ k.
    let e : Q ≡ P = omega (arith, first-low q P) in
    ap (λ (i : ℕ). p i || q i) e ∙ ap (λ (b : Bool). b || q P) (first-yes p n (omega (arith, e))))
    (λ k. or_right (p Q) (q Q) (first-yes q P k)))
    (λ k h. ap₂ ◌||◌ (first-no p n k (omega (arith, first-low q P))) (first-no q P k h))
