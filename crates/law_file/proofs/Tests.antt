-- Tests on Bools and numbers: halves of a conjunction, and case splits by continuation, which keep the equation and
-- which `omega` reads.
--     by_bool b yes no      on b
--     by_le a b yes no      on a ≤ b; by-eq on a ≡ b; by-either on one of two facts
--     zero-yes, zero-no     what stands behind a number that is 0, and where it is not
--     was-no, was-yes       a test's answer by the callee's contract
-- Assumes nothing.
use mathlib.Core.Path.{◌≡◌, refl, sym, ap, ◌∙◌}
use Prim.Native.Nat.{ℕ, ◌≤◌, ◌<◌}
use native.Mathlib.Decide.{dec_le, ℕ_discrete}
use native.Mathlib.Nat.{lt_of_not-le}
use mathlib.Core.Bool.{Bool, true, false, cond, ◌&&◌, ◌||◌, true≢false, false≢true}
use mathlib.Core.Logic.{◌⊎◌, inl, inr}
use lib.Dec.{eqb}
use borrow.Author.Tests.{eq-eqb, ne_eqb}

pub by_bool {ℓ} : {A : Type ℓ} (b : Bool) → (b ≡ true → A) → (b ≡ false → A) → A
by_bool true yes' no' = yes' refl
by_bool false yes' no' = no' refl

pub by_le {ℓ} : {A : Type ℓ} (a b : ℕ) → (a ≤ b → A) → (b < a → A) → A
by_le a b yes' no' = elim (dec_le a b) [ yes h ↦ yes' h | no h ↦ no' (lt_of_not-le h) ]

pub by-eq {ℓ} : {A : Type ℓ} (a b : ℕ) → (a ≡ b → A) → ((a ≡ b → ⊥) → A) → A
by-eq a b yes' no' = elim (ℕ_discrete a b) [ yes h ↦ yes' h | no h ↦ no' h ]

pub by-either {ℓ} : {A B : Type 0} {C : Type ℓ} → A ⊎ B → (A → C) → (B → C) → C
by-either (inl a) left right = left a
by-either (inr b) left right = right b

-- ---- conjunction, disjunction, negation
pub and_left : (a b : Bool) → (a && b) ≡ true → a ≡ true
and_left true b h = refl
and_left false b h = h

pub and_right : (a b : Bool) → (a && b) ≡ true → b ≡ true
and_right true b h = h
and_right false b h = absurd (false≢true h)

pub and-true : (a b : Bool) → a ≡ true → b ≡ true → (a && b) ≡ true
and-true true b h k = k
and-true false b h k = h

pub or_right : (a b : Bool) → b ≡ true → (a || b) ≡ true
or_right true b h = refl
or_right false b h = h

pub or_no : (a b : Bool) → (a || b) ≡ false → (a ≡ false) × (b ≡ false)
or_no true b h = absurd (true≢false h)
or_no false b h = (refl, h)

-- a disjunction by cases, each with what held
pub by-or {ℓ} : {A : Type ℓ} (a b : Bool) → (a || b) ≡ true → (a ≡ true → A) → (a ≡ false → b ≡ true → A) → A
by-or true b h yes' no' = yes' refl
by-or false b h yes' no' = no' refl h

pub not-both : (b : Bool) → b ≡ true → b ≡ false → ⊥
not-both true h k = true≢false k
not-both false h k = false≢true h

-- ---- an answer that waits for a number to be 0
pub zero-yes : {A : Type 0} (n : ℕ) (x y : A) → n ≡ 0 → cond (eqb n 0) x y ≡ x
zero-yes n x y h = ap (λ (b : Bool). cond b x y) (eq-eqb n 0 h)

pub zero-no : {A : Type 0} (n : ℕ) (x y : A) → (n ≡ 0 → ⊥) → cond (eqb n 0) x y ≡ y
zero-no n x y h = ap (λ (b : Bool). cond b x y) (ne_eqb n 0 h)

-- ---- `if !f(..)`, with r what f answered
pub was-no : {r b : Bool} → r ≡ b → r ≡ false → b ≡ false
was-no e t = sym e ∙ t

pub was-yes : {r b : Bool} → r ≡ b → r ≡ true → b ≡ true
was-yes e t = sym e ∙ t
