-- The next run, asked for again and again, gives the runs of Job 8 and no others.
--     front-runs        behind the first run, the others are those of the bytes from its end on
--     stepped-rest      asked for from k on, the runs of the bytes from k on
--     stepped-runs      from 0 on, all
--     runs-take         what one of the two has behind the other's end does not count
-- Assumes nothing.
use mathlib.Core.Path.{◌≡◌, refl, sym, ap, ap₂, ◌∙◌, subst}
use Prim.Native.Nat.{ℕ, zero, suc, ◌+◌, ◌-◌, ◌≤◌, ◌<◌}
use native.Mathlib.Omega.{arith}
use mathlib.Core.Bool.{Bool, cond}
use mathlib.Core.List.{List, [], ◌∷◌}
use mathlib.Core.Logic.{◌⊎◌, inl, inr}
use lib.ListN.{length, take, drop}
use lib.Seq.{drop-drop}
use lib.Dec.{eqb}
use borrow.Author.Tests.{ne_eqb}
use Rattle.spec_file.specs.Bytes.{Bytes}
use Rattle.spec_changes.specs.Changes.{Pair, joined, runs}
use Rattle.spec_changes.proofs.Changes.{joined-next, joined-apart, runs_same, runs-differ}
use Rattle.law_file.proofs.Tests.{by-eq}
use Rattle.law_file.proofs.Bytes.{drop_past}
use Rattle.spec_next.specs.Next.{lesser, first_run, next_run, stepped}

-- ---- behind the first run

-- the runs of bytes from k on: the first, and those from its end on
abbrev pub Front : ℕ → Bytes → Bytes → List Pair → Type 0
Front k old new [] = Unit {0}
Front k old new (r ∷ rs) =
    (k ≤ r.at)
    × (0 < r.size)
    × (rs ≡ runs (r.at + r.size) (drop (r.at + r.size - k) old) (drop (r.at + r.size - k) new))

module _ (k a b : ℕ) (old new : Bytes) where
  -- the runs from a place on, told with one byte more before it
  told : (n i j m : ℕ) → n ≡ m → j ≡ suc i
      → runs n (drop i old) (drop i new) ≡ runs m (drop j (a ∷ old)) (drop j (b ∷ new))
  told n i j m e f =
      ap (λ (t : ℕ). runs t (drop i old) (drop i new)) e
      ∙ ap (λ (t : ℕ). runs m (drop t (a ∷ old)) (drop t (b ∷ new))) (sym f)

  front-later : (rs : List Pair) → Front (suc k) old new rs → Front k (a ∷ old) (b ∷ new) rs
  front-later [] f = tt
  front-later (r ∷ rs) f =
      let place : r.at + r.size - k ≡ suc (r.at + r.size - suc k) = omega (arith, f.0, f.1) in
      (omega (arith, f.0), f.1, f.2 ∙ told (r.at + r.size) _ _ (r.at + r.size) refl place)

  front-joined : (rs : List Pair) → rs ≡ runs (suc k) old new → Front (suc k) old new rs
      → Front k (a ∷ old) (b ∷ new) (joined k rs)
  front-joined [] e f =
      unfold joined in (omega arith, omega arith, e ∙ told (suc k) 0 (k + 1 - k) (k + 1) (omega arith) (omega arith))
  front-joined (r ∷ rs) e f =
      by-eq r.at (suc k)
      (λ q.
      let place : k + suc r.size - k ≡ suc (r.at + r.size - suc k) = omega (arith, q, f.1) in
      subst (Front k (a ∷ old) (b ∷ new)) (sym (joined-next k r rs q))
      (omega arith, omega arith, f.2 ∙ told (r.at + r.size) _ _ (k + suc r.size) (omega (arith, q)) place))
      (λ q.
      subst (Front k (a ∷ old) (b ∷ new)) (sym (joined-apart k r rs q))
      (omega arith, omega arith, e ∙ told (suc k) 0 (k + 1 - k) (k + 1) (omega arith) (omega arith)))

pub front-runs : (k : ℕ) (old new : Bytes) → Front k old new (runs k old new)
front-runs k [] new = unfold runs in tt
front-runs k (a ∷ old) [] = unfold runs in tt
front-runs k (a ∷ old) (b ∷ new) =
    by-eq a b
    (λ e. subst (Front k (a ∷ old) (b ∷ new)) (sym (runs_same k a b old new e))
    (front-later k a b old new (runs (suc k) old new) (front-runs (suc k) old new)))
    (λ e. subst (Front k (a ∷ old) (b ∷ new)) (sym (runs-differ k a b old new e))
    (front-joined k a b old new (runs (suc k) old new) refl (front-runs (suc k) old new)))

-- ---- asked for again and again

pub runs_past : (k : ℕ) (old new : Bytes) → (length old ≤ k) ⊎ (length new ≤ k) → runs k (drop k old) (drop k new) ≡ []
runs_past k old new (inl h) = ap (λ (t : Bytes). runs k t (drop k new)) (drop_past k old h) ∙ (unfold runs in refl)
runs_past k old new (inr h) =
    ap (λ (t : Bytes). runs k (drop k old) t) (drop_past k new h) ∙ none k (drop k old)
  where
    none : (k : ℕ) (s : Bytes) → runs k s [] ≡ []
    none k [] = unfold runs in refl
    none k (x ∷ s) = unfold runs in refl

-- one turn, where the others are known
turn-rest : (n k : ℕ) (old new : Bytes)
    → ((m : ℕ) → suc k ≤ m → stepped n m old new ≡ runs m (drop m old) (drop m new))
    → stepped (suc n) k old new ≡ runs k (drop k old) (drop k new)
unfolding stepped next_run first_run
turn-rest n k old new next = go (runs k (drop k old) (drop k new)) (front-runs k (drop k old) (drop k new))
  where
    behind : (m : ℕ) (s : Bytes) → k ≤ m → drop (m - k) (drop k s) ≡ drop m s
    behind m s l = let e : k + (m - k) ≡ m = omega arith in drop-drop (m - k) k s ∙ ap (λ (t : ℕ). drop t s) e

    go : (rs : List Pair) → Front k (drop k old) (drop k new) rs
        → (let r : Pair = first_run (lesser (length old) (length new)) rs in
        cond (eqb r.size 0) [] (r ∷ stepped n (r.at + r.size) old new))
        ≡ rs
    go [] f = refl
    go (r ∷ rs) f =
        let m : ℕ = r.at + r.size in
        ap (λ (t : Bool). cond t [] (r ∷ stepped n m old new)) (ne_eqb r.size 0 (λ e. omega (arith, e, f.1)))
        ∙ ap (λ (t : List Pair). r ∷ t)
        (next m (omega (arith, f.0, f.1))
        ∙ sym (f.2 ∙ ap₂ (runs m) (behind m old (omega (arith, f.0))) (behind m new (omega (arith, f.0)))))

pub stepped-rest : (turns k : ℕ) (old new : Bytes) → length old ≤ k + turns
    → stepped turns k old new ≡ runs k (drop k old) (drop k new)
stepped-rest zero k old new h = unfold stepped in sym (runs_past k old new (inl (omega arith)))
stepped-rest (suc n) k old new h = turn-rest n k old new (λ m l. stepped-rest n m old new (omega arith))

-- "sorted by offset, one pair for each unbroken run of bytes whose value changed": all of them, in their order
pub stepped-runs : (old new : Bytes) → stepped (length old) 0 old new ≡ runs 0 old new
stepped-runs old new = stepped-rest (length old) 0 old new (omega arith)

-- ---- as far as both have bytes

pub runs-take : (n k : ℕ) (old new : Bytes) → (length old ≤ n) ⊎ (length new ≤ n)
    → runs k (take n old) (take n new) ≡ runs k old new
unfolding runs
runs-take zero k [] new h = refl
runs-take zero k (a ∷ old) [] h = refl
runs-take zero k (a ∷ old) (b ∷ new) (inl h) = absurd (omega arith)
runs-take zero k (a ∷ old) (b ∷ new) (inr h) = absurd (omega arith)
runs-take (suc n) k [] new h = refl
runs-take (suc n) k (a ∷ old) [] h = refl
runs-take (suc n) k (a ∷ old) (b ∷ new) h =
    ap (λ (t : List Pair). cond (eqb a b) t (joined k t)) (runs-take n (suc k) old new (less h))
  where
    less : (suc (length old) ≤ suc n) ⊎ (suc (length new) ≤ suc n) → (length old ≤ n) ⊎ (length new ≤ n)
    less (inl h) = inl (omega arith)
    less (inr h) = inr (omega arith)
