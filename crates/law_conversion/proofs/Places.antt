-- Document 02, Job 11: the messages carried place by place, of any layouts and bytes.
--     from-append      so many places, and then so many more
--     from-nowhere     places where no active message of a taken slot begins
--     at-live          the place where a live slot's message begins; from-live: the next such place, past others
-- Assumes nothing.
use mathlib.Core.Path.{◌≡◌, refl, sym, ap, ap₂, ◌∙◌}
use Prim.Native.Nat.{ℕ, zero, suc, ◌+◌, ◌≤◌, ◌<◌}
use native.Mathlib.Nat.{add-zero}
use native.Mathlib.Omega.{arith}
use mathlib.Core.Bool.{Bool, true, false, ◌&&◌}
use mathlib.Core.Option.{Option, none, some}
use lib.Dec.{eqb}
use borrow.Author.Tests.{eqb-true, eq-eqb}
use Rattle.spec_file.specs.Bytes.{Bytes}
use Rattle.spec_file.specs.Image.{Layout, slot, key_of, offset_of}
use Rattle.spec_file.specs.Messages.{text_at, is_active}
use Rattle.spec_file.specs.Inspect.{taken, lowest}
use Rattle.spec_conversion.specs.Convert.{slot_with, carried, carried_slot, carried_at, carried_from}
use Rattle.law_file.proofs.Tests.{by_bool, and_left, and_right, and-true, not-both}
use Rattle.law_file.proofs.Verdict.{lowest-some, lowest-none}
use Rattle.law_compaction.proofs.Packing.{start_at, Live}

by_number {ℓ} : {A : Type ℓ} (o : Option ℕ) → (o ≡ none → A) → ((i : ℕ) → o ≡ some i → A) → A
by_number none n y = n refl
by_number (some i) n y = y i refl

module _ (g h : Layout) (img : Bytes) where
  pub from-append : (a c p : ℕ) (t : Bytes)
      → carried_from g h img (a + c) p t ≡ carried_from g h img c (p + a) (carried_from g h img a p t)
  unfolding carried_from
  from-append zero c p t =
      let z : 0 + c ≡ c = omega arith in
      ap (λ (n : ℕ). carried_from g h img n p t) z ∙ ap (λ (q : ℕ). carried_from g h img c q t) (sym (add-zero p))
  from-append (suc a) c p t =
      let s : suc a + c ≡ suc (a + c) = omega arith in
      let e : suc p + a ≡ p + suc a = omega arith in
      ap (λ (n : ℕ). carried_from g h img n p t) s
      ∙ from-append a c (suc p) (carried_at g h img p t)
      ∙ ap (λ (q : ℕ). carried_from g h img c q (carried_from g h img a (suc p) (carried_at g h img p t))) e

  abbrev stands : ℕ → ℕ → Bool
  stands p i = taken g img i && eqb (start_at g img i) p

  -- slot i's message begins at p
  abbrev pub Begins : ℕ → ℕ → Type 0
  Begins p i = Live g img i × (start_at g img i ≡ p)

  -- what is carried at p: nothing, or the message of a slot whose message begins there
  pub by_place {ℓ} : {A : Type ℓ} (p : ℕ) (t : Bytes)
      → (((i : ℕ) → Begins p i → ⊥) → carried_at g h img p t ≡ t → A)
      → ((i : ℕ) → Begins p i → carried_at g h img p t ≡ carried h t i (key_of g (slot g img i)) (text_at g img p) → A)
      → A
  unfolding carried_at carried_slot slot_with
  by_place p t no' yes' =
      by_bool (is_active img p)
      (λ a. by_number (lowest (stands p) g.N 0)
      (λ n. no'
      (λ i v.
      not-both (stands p i)
      (and-true (taken g img i) (eqb (start_at g img i) p) v.0.is (eq-eqb (start_at g img i) p v.1))
      (lowest-none (stands p) g.N 0 n i (omega arith) (omega (arith, v.0.low))))
      (rw (a, n) refl))
      (λ i y.
      let w = lowest-some (stands p) g.N 0 i y in
      let e : start_at g img i ≡ p =
      eqb-true (start_at g img i) p (and_right (taken g img i) (eqb (start_at g img i) p) w.2) in
      yes' i (
        record {
          low = omega (arith, w.1);
          is = and_left (taken g img i) (eqb (start_at g img i) p) w.2;
          active = ap (is_active img) e ∙ a;
        },
        e,
      )
      (rw (a, y) refl)))
      (λ a. no'
      (λ i v. not-both (is_active img p) (ap (is_active img) (sym v.1) ∙ v.0.active) a)
      (rw a refl))

  pub at-nowhere : (p : ℕ) (t : Bytes) → ((i : ℕ) → Begins p i → ⊥) → carried_at g h img p t ≡ t
  at-nowhere p t n = by_place p t (λ m e. e) (λ i v e. absurd (n i v))

  pub from-nowhere : (left p : ℕ) (t : Bytes)
      → ((i : ℕ) → Live g img i → p ≤ start_at g img i → start_at g img i < p + left → ⊥)
      → carried_from g h img left p t ≡ t
  unfolding carried_from
  from-nowhere zero p t n = refl
  from-nowhere (suc left) p t n =
      ap (carried_from g h img left (suc p))
      (at-nowhere p t (λ i v. n i v.0 (omega (arith, v.1)) (omega (arith, v.1))))
      ∙ from-nowhere left (suc p) t (λ i v lo hi. n i v (omega (arith, lo)) (omega (arith, hi)))

  -- messages begin at one place each
  module _ (alone : (i j : ℕ) → Live g img i → Live g img j → start_at g img i ≡ start_at g img j → i ≡ j) where
    pub at-live : (i : ℕ) → Live g img i → (t : Bytes)
        → carried_at g h img (start_at g img i) t
        ≡ carried h t i (key_of g (slot g img i)) (text_at g img (start_at g img i))
    at-live i v t =
        by_place (start_at g img i) t
        (λ m e. absurd (m i (v, refl)))
        (λ j w e.
        e ∙ ap (λ (k : ℕ). carried h t k (key_of g (slot g img k)) (text_at g img (start_at g img i)))
        (alone j i w.0 v w.1))

    -- past places where none begins, and the one where slot i's does
    pub from-live : (i : ℕ) → Live g img i → (left p : ℕ) (t : Bytes) → p + left ≡ start_at g img i
        → ((j : ℕ) → Live g img j → p ≤ start_at g img j → start_at g img j < start_at g img i → ⊥)
        → carried_from g h img (left + 1) p t
        ≡ carried h t i (key_of g (slot g img i)) (text_at g img (start_at g img i))
    from-live i v left p t e n =
        from-append left 1 p t
        ∙ ap₂ (carried_from g h img 1) e
        (from-nowhere left p t (λ j w lo hi. n j w lo (omega (arith, hi, e))))
        ∙ one (start_at g img i) t
        ∙ at-live i v t
      where
        one : (p : ℕ) (t : Bytes) → carried_from g h img 1 p t ≡ carried_at g h img p t
        one p t = unfold carried_from in refl
