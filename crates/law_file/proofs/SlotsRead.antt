-- How many slots a search reads.
--     from-met, from_empty, from_on      one slot read
--     read-met, read-empty, read-exhausted      the distance from home and one more; all of them where none ended it
--     read_all      at most N
--     read-few      at most one more than the taken slots, on any image
-- Assumes nothing.
use mathlib.Core.Path.{◌≡◌, refl, ap, ◌∙◌, subst}
use Prim.Native.Nat.{ℕ, zero, suc, ◌+◌, ◌-◌, ◌≤◌, ◌<◌}
use native.Mathlib.Nat.{zero-add}
use native.Mathlib.Omega.{arith}
use mathlib.Core.Bool.{true, false}
use Rattle.spec_file.specs.Bytes.{Bytes, same}
use Rattle.spec_file.specs.Image.{Layout, slot, vacant, home}
use Rattle.spec_file.specs.Search.{Probe, met, empty, exhausted, next, dist, probe, search, read_from, slots_read}
use Rattle.spec_file.specs.Inspect.{taken, taken_from}
use Rattle.law_file.proofs.Tests.{by_bool, by_le}
use Rattle.law_file.proofs.Cyclic.{dist-up, dist-wrap, dist-lt, dist-self, dist-next, next-lt}
use Rattle.law_file.proofs.Table.{Taken, key_at}
use Rattle.law_file.proofs.Probe.{home-lt, turn-met, turn-empty, turn_on, Passed, search-met, search-empty, search-exhausted, by-search}

-- ---- one slot read

module _ (g : Layout) (img key : Bytes) (left i : ℕ) where
  pub from-met : same (key_at g img i) key ≡ true → read_from g img key (suc left) i ≡ 1
  unfolding read_from
  from-met e = rw (e, read_from)

  pub from_empty : same (key_at g img i) key ≡ false → vacant g (slot g img i) ≡ true
      → read_from g img key (suc left) i ≡ 1
  unfolding read_from
  from_empty e v = rw (e, read_from, v)

  pub from_on : same (key_at g img i) key ≡ false → vacant g (slot g img i) ≡ false
      → read_from g img key (suc left) i ≡ suc (read_from g img key left (next g.N i))
  unfolding read_from
  from_on e v = rw (e, read_from, v)

-- ---- the number, by how the search ended

-- as many as lie between home and the slot where it ended, and that one; all that were left where it ended at none
abbrev Counts : Layout → Bytes → ℕ → Probe → ℕ → Type 0
Counts g key left (met i) n = n ≡ dist g.N (home g key) i + 1
Counts g key left (empty i) n = n ≡ dist g.N (home g key) i + 1
Counts g key left exhausted n = n ≡ left

-- with `left` slots left, at the slot d steps above home, d slots having been read
counts-from : (g : Layout) (img key : Bytes) → home g key < g.N → (left d i : ℕ) → d + left ≡ g.N → i < g.N
    → (0 < left → dist g.N (home g key) i ≡ d)
    → Counts g key (d + left) (probe g img key left i) (d + read_from g img key left i)
counts-from g img key hl zero d i s l e = unfold probe read_from in refl
counts-from g img key hl (suc left) d i s l e =
    let at : dist g.N (home g key) i ≡ d = e (omega arith) in
    by_bool (same (key_at g img i) key)
    (λ y. rw (turn-met g img key left i y, from-met g img key left i y) (omega arith))
    (λ n. by_bool (vacant g (slot g img i))
    (λ v. rw (turn-empty g img key left i n v, from_empty g img key left i n v) (omega arith))
    (λ v.
    let j = next g.N i in
    let ih : Counts g key (suc d + left) (probe g img key left j) (suc d + read_from g img key left j) =
    counts-from g img key hl left (suc d) j (omega arith) (next-lt g.N i l)
    (λ some_left. dist-next g.N (home g key) i hl l (omega arith) ∙ omega arith) in
    let sum : suc d + read_from g img key left j ≡ d + suc (read_from g img key left j) = omega arith in
    let all : suc d + left ≡ d + suc left = omega arith in
    rw (turn_on g img key left i n v, from_on g img key left i n v)
    (subst (λ (m : ℕ). Counts g key m (probe g img key left j) (d + suc (read_from g img key left j))) all
    (subst (Counts g key (suc d + left) (probe g img key left j)) sum ih))))

module _ (g : Layout) (img key : Bytes) (pos : 0 < g.N) where
  counts : Counts g key g.N (search g img key) (slots_read g img key)
  unfolding search slots_read
  counts =
      let hl = home-lt g key pos in
      let c = counts-from g img key hl g.N 0 (home g key) (omega arith) hl (λ z. dist-self g.N (home g key)) in
      let p = probe g img key g.N (home g key) in
      let n = read_from g img key g.N (home g key) in
      subst (Counts g key g.N p) (zero-add n) (subst (λ (m : ℕ). Counts g key m p (0 + n)) (zero-add g.N) c)

  pub read-met : (i : ℕ) → search g img key ≡ met i → slots_read g img key ≡ dist g.N (home g key) i + 1
  read-met i e = subst (λ (p : Probe). Counts g key g.N p (slots_read g img key)) e counts

  pub read-empty : (i : ℕ) → search g img key ≡ empty i → slots_read g img key ≡ dist g.N (home g key) i + 1
  read-empty i e = subst (λ (p : Probe). Counts g key g.N p (slots_read g img key)) e counts

  pub read-exhausted : search g img key ≡ exhausted → slots_read g img key ≡ g.N
  read-exhausted e = subst (λ (p : Probe). Counts g key g.N p (slots_read g img key)) e counts

  pub read_all : slots_read g img key ≤ g.N
  read_all =
      let hl = home-lt g key pos in
      by-search g img key pos
      (λ i e. omega (arith, read-met i e, dist-lt g.N (home g key) i hl (search-met g img key pos i e).0))
      (λ i e. omega (arith, read-empty i e, dist-lt g.N (home g key) i hl (search-empty g img key pos i e).0))
      (λ e. omega (arith, read-exhausted e))

-- ---- the taken slots are as many as were passed

module _ (g : Layout) (img : Bytes) where
  split : (a b i : ℕ) → taken_from g img (a + b) i ≡ taken_from g img a i + taken_from g img b (i + a)
  unfolding taken_from
  split zero b i =
      let z : 0 + b ≡ b = omega arith in
      let s : i ≡ i + 0 = omega arith in
      ap (λ (n : ℕ). taken_from g img n i) z ∙ ap (taken_from g img b) s ∙ omega arith
  split (suc a) b i =
      let n : suc a + b ≡ suc (a + b) = omega arith in
      let s : suc i + a ≡ i + suc a = omega arith in
      ap (λ (m : ℕ). taken_from g img m i) n
      ∙ omega (arith, split a b (suc i), ap (taken_from g img b) s)

  -- a run of taken slots
  full : (m i : ℕ) → ((k : ℕ) → i ≤ k → k < i + m → Taken g img k) → taken_from g img m i ≡ m
  unfolding taken_from taken
  full zero i f = refl
  full (suc m) i f =
      let ih = full m (suc i) (λ k a b. f k (omega arith) (omega arith)) in
      rw (f i (omega arith) (omega arith)) (omega (arith, ih))

  -- the d slots from home on, round the table's end
  round : (h d : ℕ) → h < g.N → d ≤ g.N → ((k : ℕ) → k < g.N → dist g.N h k < d → Taken g img k)
      → d ≤ taken_from g img g.N 0
  round h d hl dl f =
      by_le (h + d) g.N
      (λ le.
      let n : h + (d + (g.N - (h + d))) ≡ g.N = omega arith in
      let z : 0 + h ≡ h = omega arith in
      let run = full d h (λ k a b. f k (omega arith) (omega (arith, dist-up g.N h k a))) in
      omega (
        arith,
        ap (λ (m : ℕ). taken_from g img m 0) n,
        split h (d + (g.N - (h + d))) 0,
        ap (taken_from g img (d + (g.N - (h + d)))) z,
        split d (g.N - (h + d)) h,
        run,
      ))
      (λ gt.
      let e = h + d - g.N in
      let n : e + ((h - e) + (g.N - h)) ≡ g.N = omega arith in
      let z : 0 + e ≡ e = omega arith in
      let y : e + (h - e) ≡ h = omega arith in
      let low = full e 0 (λ k a b. f k (omega arith) (omega (arith, dist-wrap g.N h k (omega arith)))) in
      let high = full (g.N - h) h (λ k a b. f k (omega arith) (omega (arith, dist-up g.N h k a))) in
      omega (
        arith,
        ap (λ (m : ℕ). taken_from g img m 0) n,
        split e ((h - e) + (g.N - h)) 0,
        ap (taken_from g img ((h - e) + (g.N - h))) z,
        split (h - e) (g.N - h) e,
        ap (taken_from g img (g.N - h)) y,
        low,
        high,
      ))

pub read-few : (g : Layout) (img key : Bytes) → 0 < g.N → slots_read g img key ≤ taken_from g img g.N 0 + 1
read-few g img key pos =
    let hl = home-lt g key pos in
    let passed : (d : ℕ) → d ≤ g.N → Passed g img key d → d ≤ taken_from g img g.N 0 =
    λ d l p. round g img (home g key) d hl l (λ k kl kd. (p k kl kd).0) in
    by-search g img key pos
    (λ i e.
    let s = search-met g img key pos i e in
    let lt = dist-lt g.N (home g key) i hl s.0 in
    omega (arith, read-met g img key pos i e, passed (dist g.N (home g key) i) (omega arith) s.2))
    (λ i e.
    let s = search-empty g img key pos i e in
    let lt = dist-lt g.N (home g key) i hl s.0 in
    omega (arith, read-empty g img key pos i e, passed (dist g.N (home g key) i) (omega arith) s.2))
    (λ e.
    let all = full g img g.N 0 (λ k a b. (search-exhausted g img key pos e k (omega arith)).0) in
    omega (arith, read-exhausted g img key pos e, all))
