-- What a power cut may leave, in two forms: by any bytes in the late places, as `MayLeave` has it, and as equal bytes
-- everywhere else, as the proofs use it.
-- Assumes nothing.
use mathlib.Core.Path.{◌≡◌, refl, sym, ap, ap₂, ◌∙◌, subst}
use Prim.Native.Nat.{ℕ, zero, suc, ◌+◌}
use native.Mathlib.Omega.{arith}
use mathlib.Core.Bool.{Bool, false, cond}
use mathlib.Core.List.{List, [], ◌∷◌}
use lib.ListN.{length, get_or}
use Rattle.spec_file.specs.Bytes.{Bytes}
use Rattle.law_file.proofs.Tests.{by_bool}
use Rattle.spec_changes.specs.Changes.{Pair, covered, Near}
use Rattle.spec_changes.specs.Journal.{Disk}
use Rattle.spec_disk.specs.Disk.{Slices, left_from, left, MayLeave}

length-left : (k : ℕ) (junk : ℕ → ℕ) (late : List Pair) (b : Bytes) → length (left_from k junk late b) ≡ length b
unfolding left_from
length-left k junk late [] = refl
length-left k junk late (x ∷ b) = ap suc (length-left (suc k) junk late b)

left-outside : (k : ℕ) (junk : ℕ → ℕ) (late : List Pair) (b : Bytes) (i : ℕ) → covered late (k + i) ≡ false
    → get_or (left_from k junk late b) i 0 ≡ get_or b i 0
unfolding left_from
left-outside k junk late [] i f = refl
left-outside k junk late (x ∷ b) zero f =
    let e : k + 0 ≡ k = omega arith in
    ap (λ (t : Bool). cond t (junk k) x) (ap (covered late) (sym e) ∙ f)
left-outside k junk late (x ∷ b) (suc i) f =
    let e : suc k + i ≡ k + suc i = omega arith in
    left-outside (suc k) junk late b i (ap (covered late) e ∙ f)

pub left_near : (junk : ℕ → ℕ) (late : List Pair) (b : Bytes) → Near late (left_from 0 junk late b) b
left_near junk late b =
    record {
      size = length-left 0 junk late b;
      outside = λ i f. let e : 0 + i ≡ i = omega arith in left-outside 0 junk late b i (ap (covered late) e ∙ f);
    }

-- every disk that may be left is left by some bytes
left_as : (k : ℕ) (b sure : Bytes) (late : List Pair) (junk : ℕ → ℕ) → length b ≡ length sure
    → ((i : ℕ) → junk (k + i) ≡ get_or b i 0)
    → ((i : ℕ) → covered late (k + i) ≡ false → get_or b i 0 ≡ get_or sure i 0) → b ≡ left_from k junk late sure
unfolding left_from
left_as k [] [] late junk l g f = refl
left_as k [] (y ∷ sure) late junk l g f = absurd (omega (arith, l))
left_as k (x ∷ b) [] late junk l g f = absurd (omega (arith, l))
left_as k (x ∷ b) (y ∷ sure) late junk l g f =
    let z : k + 0 ≡ k = omega arith in
    let more : (i : ℕ) → k + suc i ≡ suc k + i = λ i. omega arith in
    ap₂ (λ (p : ℕ) (q : Bytes). p ∷ q)
    (by_bool (covered late k)
    (λ h. sym (ap (λ (t : Bool). cond t (junk k) y) h ∙ ap junk (sym z) ∙ g 0))
    (λ h. f 0 (ap (covered late) z ∙ h) ∙ sym (ap (λ (t : Bool). cond t (junk k) y) h)))
    (left_as (suc k) b sure late junk (omega (arith, l)) (λ i. ap junk (sym (more i)) ∙ g (suc i))
    (λ i h. f (suc i) (ap (covered late) (more i) ∙ h)))

pub near-left : (b sure : Bytes) (late : List Pair) → Near late b sure → b ≡ left_from 0 (λ i. get_or b i 0) late sure
near-left b sure late n =
    let z : (i : ℕ) → 0 + i ≡ i = λ i. omega arith in
    left_as 0 b sure late (λ i. get_or b i 0) n.size (λ i. ap (λ (m : ℕ). get_or b m 0) (z i))
    (λ i h. n.outside i (ap (covered late) (sym (z i)) ∙ h))

-- ---- both slices

pub record Cut (s : Slices) (d : Disk) : Type 0 where
  pub image : Near s.image.late d.image s.image.sure
  pub journal : Near s.journal.late d.journal s.journal.sure

pub cut-near : (s : Slices) (d : Disk) → MayLeave s d → Cut s d
unfolding left
cut-near s d m =
    record {
      image =
          subst (λ (e : Disk). Near s.image.late e.image s.image.sure) (sym m.is)
          (left_near m.junk s.image.late s.image.sure);
      journal =
          subst (λ (e : Disk). Near s.journal.late e.journal s.journal.sure) (sym m.is)
          (left_near m.junk' s.journal.late s.journal.sure);
    }

pub near-cut : (s : Slices) (d : Disk) → Cut s d → MayLeave s d
unfolding left
near-cut s d c =
    record {
      junk = λ i. get_or d.image i 0;
      junk' = λ i. get_or d.journal i 0;
      is =
          ap₂ (λ (a b : Bytes). record { image = a; journal = b })
          (near-left d.image s.image.sure s.image.late c.image)
          (near-left d.journal s.journal.sure s.journal.late c.journal);
    }
