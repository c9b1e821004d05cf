-- Runs with at most so many equal bytes between them, as one: still stretches outside of which nothing changes.
-- Assumes nothing.
use mathlib.Core.Path.{◌≡◌, sym, ap₂, ◌∙◌, subst}
use Prim.Native.Nat.{ℕ, suc, ◌+◌, ◌-◌, ◌^◌, ◌≤◌, ◌<◌}
use native.Mathlib.Omega.{arith}
use mathlib.Core.Bool.{Bool, true, false, cond, ◌||◌, true≢false}
use mathlib.Core.List.{List, [], ◌∷◌}
use lib.ListN.{length}
use lib.Dec.{leb}
use Rattle.spec_file.specs.Bytes.{Bytes}
use Rattle.spec_changes.specs.Changes.{Pair, runs, covered, Spread}
use Rattle.spec_changes.specs.Journal.{content, Block}
use Rattle.spec_disk.specs.Disk.{Beside, Fits}
use Rattle.law_file.proofs.Tests.{or_no}
use Rattle.spec_changes.proofs.Changes.{inside, inside-yes, covered-cons, near-runs, runs-spread, runs-few}
use Rattle.spec_changes.proofs.Copied.{by-inside}

unfoldable pub merged_into : ℕ → Pair → List Pair → List Pair
merged_into gap r [] = r ∷ []
merged_into gap r (q ∷ rs) =
    cond (leb q.at (r.at + r.size + gap))
    (merged_into gap (record { at = r.at; size = q.at + q.size - r.at }) rs)
    (r ∷ merged_into gap q rs)

unfoldable pub merged : ℕ → List Pair → List Pair
merged gap [] = []
merged gap (r ∷ rs) = merged_into gap r rs

choose : (P : List Pair → Type 0) (b : Bool) (x y : List Pair) → P x → P y → P (cond b x y)
choose P true x y u v = u
choose P false x y u v = v

abbrev joint : Pair → Pair → Pair
joint r q = record { at = r.at; size = q.at + q.size - r.at }

joint-spread : (k top : ℕ) (r q : Pair) (rs : List Pair) → Spread k top (r ∷ q ∷ rs) → Spread k top (joint r q ∷ rs)
joint-spread k top r q rs s =
    let t : Spread (suc (r.at + r.size)) top (q ∷ rs) = s.3 in
    let far : suc (r.at + r.size) ≤ q.at = t.0 in
    let end : r.at + (q.at + q.size - r.at) ≡ q.at + q.size = omega arith in
    (s.0, omega (arith, t.1), omega (arith, t.2), subst (λ (n : ℕ). Spread (suc n) top rs) (sym end) t.3)

into-spread : (gap k top : ℕ) (r : Pair) (rs : List Pair) → Spread k top (r ∷ rs) → Spread k top (merged_into gap r rs)
unfolding merged_into
into-spread gap k top r [] s = s
into-spread gap k top r (q ∷ rs) s =
    choose (Spread k top) (leb q.at (r.at + r.size + gap))
    (merged_into gap (joint r q) rs) (r ∷ merged_into gap q rs)
    (into-spread gap k top (joint r q) rs (joint-spread k top r q rs s))
    (s.0, s.1, s.2, into-spread gap (suc (r.at + r.size)) top q rs s.3)

joint-covers : (k top : ℕ) (r q : Pair) (rs : List Pair) → Spread k top (r ∷ q ∷ rs) → (i : ℕ)
    → covered (joint r q ∷ rs) i ≡ false → covered (r ∷ q ∷ rs) i ≡ false
joint-covers k top r q rs s i g =
    let t : Spread (suc (r.at + r.size)) top (q ∷ rs) = s.3 in
    let far : suc (r.at + r.size) ≤ q.at = t.0 in
    let no' = or_no (inside (joint r q) i) (covered rs i) (sym (covered-cons (joint r q) rs i) ∙ g) in
    covered-cons r (q ∷ rs) i
    ∙ ap₂ ◌||◌
    (by-inside r i
    (λ e l h. absurd (true≢false (sym (inside-yes (joint r q) i l (omega arith)) ∙ no'.0)))
    (λ e side. e))
    (covered-cons q rs i
    ∙ ap₂ ◌||◌
    (by-inside q i
    (λ e l h. absurd (true≢false (sym (inside-yes (joint r q) i (omega arith) (omega arith)) ∙ no'.0)))
    (λ e side. e))
    no'.1)

-- nothing that was covered is left out
into-covers : (gap k top : ℕ) (r : Pair) (rs : List Pair) → Spread k top (r ∷ rs) → (i : ℕ)
    → covered (merged_into gap r rs) i ≡ false → covered (r ∷ rs) i ≡ false
unfolding merged_into
into-covers gap k top r [] s i = λ f. f
into-covers gap k top r (q ∷ rs) s i =
    choose (λ (l : List Pair). covered l i ≡ false → covered (r ∷ q ∷ rs) i ≡ false)
    (leb q.at (r.at + r.size + gap)) (merged_into gap (joint r q) rs) (r ∷ merged_into gap q rs)
    (λ g. joint-covers k top r q rs s i
    (into-covers gap k top (joint r q) rs (joint-spread k top r q rs s) i g))
    (λ g.
    let no' = or_no (inside r i) (covered (merged_into gap q rs) i)
    (sym (covered-cons r (merged_into gap q rs) i) ∙ g) in
    covered-cons r (q ∷ rs) i
    ∙ ap₂ ◌||◌ no'.0 (into-covers gap (suc (r.at + r.size)) top q rs s.3 i no'.1))

into_few : (gap : ℕ) (r : Pair) (rs : List Pair) → length (merged_into gap r rs) ≤ suc (length rs)
unfolding merged_into
into_few gap r [] = omega arith
into_few gap r (q ∷ rs) =
    choose (λ (l : List Pair). length l ≤ suc (suc (length rs))) (leb q.at (r.at + r.size + gap))
    (merged_into gap (joint r q) rs) (r ∷ merged_into gap q rs)
    (omega (arith, into_few gap (joint r q) rs))
    (omega (arith, into_few gap q rs))

-- the layer's update: runs at most gap bytes apart as one
pub merged-fits : (gap p : ℕ) (old new : Bytes) (b : Block) → length old ≡ length new → length new < 256 ^ 4
    → Beside p (length (content (merged gap (runs 0 old new)) new)) b
    → Fits p old (record { spans = merged gap (runs 0 old new); new = new; base = b })
unfolding merged
merged-fits gap p old new b l small room =
    record {
      near =
          record {
            size = l;
            outside = λ i f. (near-runs old new l).outside i (covers (runs 0 old new) (runs-spread old new l) i f);
          };
      spread = spreads (runs 0 old new) (runs-spread old new l);
      small = small;
      few = omega (arith, few (runs 0 old new), runs-few 0 old new);
      room = room;
    }
  where
    covers : (rs : List Pair) → Spread 0 (length new) rs → (i : ℕ) → covered (merged gap rs) i ≡ false
        → covered rs i ≡ false
    covers [] s i f = f
    covers (r ∷ rs) s i f = into-covers gap 0 (length new) r rs s i f

    spreads : (rs : List Pair) → Spread 0 (length new) rs → Spread 0 (length new) (merged gap rs)
    spreads [] s = s
    spreads (r ∷ rs) s = into-spread gap 0 (length new) r rs s

    few : (rs : List Pair) → length (merged gap rs) ≤ length rs
    few [] = omega arith
    few (r ∷ rs) = into_few gap r rs
