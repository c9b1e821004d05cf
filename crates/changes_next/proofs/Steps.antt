-- What a block that is the same says of what is left, and the next run by what is left.
--     block-passed      equal bytes from i on are passed over at once
--     next_past         from the end on no run is left
--     scan-none, scan-some      what a scan of the whole says: no run is left; the first that is
--     next-taken        the next run of two images that are cut where the shorter ends
-- Assumes nothing.
use mathlib.Core.Path.{◌≡◌, sym, ap, ap₂, ◌∙◌, subst}
use Prim.Native.Nat.{ℕ, zero, suc, ◌+◌, ◌-◌, ◌≤◌}
use native.Mathlib.Omega.{arith}
use mathlib.Core.Bool.{Bool, true, cond}
use mathlib.Core.List.{List, [], ◌∷◌}
use mathlib.Core.Logic.{◌⊎◌, inl, inr}
use lib.ListN.{length, take, drop, get_or, length-drop}
use lib.Dec.{leb}
use lib.Seq.{length-take-le, take-nil}
use borrow.Author.Tests.{le-leb, lt-leb}
use Rattle.spec_file.specs.Bytes.{Bytes, part, same}
use Rattle.spec_changes.specs.Changes.{Pair, runs}
use Rattle.law_file.proofs.Tests.{by_le}
use Rattle.law_file.proofs.Bytes.{same_true}
use Rattle.law_file.proofs.Byte.{byte-part}
use Rattle.changes_windows.specs.declared.Windows.{Windows}
use Rattle.changes_windows.specs.Scans.{rest, ToChange, RunTo}
use Rattle.changes_windows.specs.Windows.{before, Sorted}
use Rattle.changes_windows.proofs.Scanning.{rest-to, rest_end}
use Rattle.changes_windows.proofs.Windowed.{before-whole}
use Rattle.spec_next.specs.Next.{lesser, first_run, next_run}
use Rattle.spec_next.proofs.Next.{runs_past, runs-take}

pub block-passed : (old new : Bytes) (i w : ℕ) → length old ≡ length new → i + w ≤ length old
    → same (part old i w) (part new i w) ≡ true → rest old new i ≡ rest old new (i + w)
block-passed old new i w l h e =
    rest-to old new l i (i + w) (omega arith) h
    (λ j a b.
    let k : i + (j - i) ≡ j = omega arith in
    ap (λ (n : ℕ). get_or old n 0) (sym k)
    ∙ sym (byte-part old i w (j - i) (omega arith))
    ∙ ap (λ (t : Bytes). get_or t (j - i) 0) (same_true (part old i w) (part new i w) e)
    ∙ byte-part new i w (j - i) (omega arith)
    ∙ ap (λ (n : ℕ). get_or new n 0) k)

-- ---- the next run

lesser-same : (n : ℕ) → lesser n n ≡ n
unfolding lesser
lesser-same n = ap (λ (t : Bool). cond t n n) (le-leb n n (omega arith))

pub next-none : (from : ℕ) (old new : Bytes) → length old ≡ length new → rest old new from ≡ []
    → next_run from old new ≡ record { at = length new; size = 0 }
unfolding next_run first_run
next-none from old new l e =
    ap (first_run (lesser (length old) (length new))) e
    ∙ ap (λ (n : ℕ). record { at = n; size = 0 })
    (ap (λ (n : ℕ). lesser n (length new)) l ∙ lesser-same (length new))

pub next-some : (from : ℕ) (old new : Bytes) (r : Pair) (rs : List Pair) → rest old new from ≡ r ∷ rs
    → next_run from old new ≡ r
unfolding next_run first_run
next-some from old new r rs e = ap (first_run (lesser (length old) (length new))) e

pub next_past : (from : ℕ) (old new : Bytes) → length old ≡ length new → length new ≤ from
    → next_run from old new ≡ record { at = length new; size = 0 }
next_past from old new l h = next-none from old new l (runs_past from old new (inr h))

-- what a scan of the whole says, from `near` on, up to which all is equal
module _ (old new : Bytes) (l : length old ≡ length new) (w : Windows)
    (k : (w.end1 ≡ length new) × Sorted w (length new))
    (from near at : ℕ) (e : rest old new from ≡ rest old new near)
    (t : ToChange (before w old new) new near at) where
  change : ToChange old new near at
  change = subst (λ (b : Bytes). ToChange b new near at) (before-whole w old new l k) t

  pub scan-none : length new ≤ at → next_run from old new ≡ record { at = length new; size = 0 }
  scan-none h =
      next-none from old new l
      (e ∙ change.same ∙ rest_end old new l at (omega (arith, change.high)))

  pub scan-some : (stop : ℕ) → RunTo (before w old new) new at stop
      → next_run from old new ≡ record { at = at; size = stop - at }
  scan-some stop r =
      let run : RunTo old new at stop =
      subst (λ (b : Bytes). RunTo b new at stop) (before-whole w old new l k) r in
      next-some from old new (record { at = at; size = stop - at }) (rest old new stop) (e ∙ change.same ∙ run.run)

-- ---- cut where the shorter ends

pub lesser-low : (a b : ℕ) → (lesser a b ≤ a) × (lesser a b ≤ b) × ((a ≤ lesser a b) ⊎ (b ≤ lesser a b))
unfolding lesser
lesser-low a b =
    by_le a b
    (λ h. let e : cond (leb a b) a b ≡ a = ap (λ (t : Bool). cond t a b) (le-leb a b h) in
    (omega (arith, e), omega (arith, e), inl (omega (arith, e))))
    (λ h. let e : cond (leb a b) a b ≡ b = ap (λ (t : Bool). cond t a b) (lt-leb a b h) in
    (omega (arith, e), omega (arith, e), inr (omega (arith, e))))

drop-take : (k n : ℕ) (s : Bytes) → drop k (take n s) ≡ take (n - k) (drop k s)
drop-take zero n s = let e : n ≡ n - 0 = omega arith in ap (λ (m : ℕ). take m s) e
drop-take (suc k) zero s = let e : 0 ≡ 0 - suc k = omega arith in ap (λ (m : ℕ). take m (drop (suc k) s)) e
drop-take (suc k) (suc n) [] = sym (take-nil (suc n - suc k))
drop-take (suc k) (suc n) (x ∷ s) =
    let e : n - k ≡ suc n - suc k = omega arith in
    drop-take k n s ∙ ap (λ (m : ℕ). take m (drop k s)) e

pub next-taken : (from n : ℕ) (old new : Bytes) → n ≡ lesser (length old) (length new)
    → next_run from (take n old) (take n new) ≡ next_run from old new
unfolding next_run
next-taken from n old new e =
    let low = lesser-low (length old) (length new) in
    ap₂ first_run
    (ap₂ lesser (length-take-le n old (omega (arith, e, low.0))) (length-take-le n new (omega (arith, e, low.1)))
    ∙ lesser-same n ∙ e)
    (ap₂ (runs from) (drop-take from n old) (drop-take from n new)
    ∙ runs-take (n - from) from (drop from old) (drop from new) (reach low.2))
  where
    reach : (length old ≤ lesser (length old) (length new)) ⊎ (length new ≤ lesser (length old) (length new))
        → (length (drop from old) ≤ n - from) ⊎ (length (drop from new) ≤ n - from)
    reach (inl h) = inl (omega (arith, length-drop from old, e))
    reach (inr h) = inr (omega (arith, length-drop from new, e))
