-- What a search says of any image, and when it meets a key.
--     Passed g img key d      the slots less than d steps above the key's home are taken, by other keys
--     turn-met, turn-empty, turn_on      one slot read: the three cases of `probe`
--     search-met, search-empty, search-exhausted      what is so where a search ended thus
--     search-finds      the taken slots of a findable table are found
--     search-keys, search-frame, entry_of-frame      a search depends on the slots' keys alone
-- Assumes nothing.
use mathlib.Core.Path.{◌≡◌, refl, sym, ap, ◌∙◌, subst}
use Prim.Native.Nat.{ℕ, zero, suc, ◌+◌, ◌<◌}
use native.Mathlib.Nat.{mod-lt}
use native.Mathlib.Omega.{arith}
use mathlib.Core.Bool.{true, false}
use mathlib.Core.Option.{some}
use Rattle.spec_file.specs.Bytes.{Bytes, all_zero, same}
use Rattle.spec_file.specs.Image.{Layout, slot, key_of, vacant, home}
use Rattle.spec_file.specs.Search.{Probe, met, empty, exhausted, next, dist, probe, search}
use Rattle.law_file.proofs.Tests.{by_bool, by_le, by-eq, not-both}
use Rattle.law_file.proofs.Bytes.{same_true, same_false}
use Rattle.law_file.proofs.Cyclic.{next-lt, dist-lt, dist-self, dist_same, dist-next}
use Rattle.law_file.proofs.Table.{Taken, key_at, Findable, slot_met, entry_of}

pub home-lt : (g : Layout) (key : Bytes) → 0 < g.N → home g key < g.N
unfolding home
home-lt g key pos = mod-lt (g.hashed key) pos

-- ---- vacancy and the key

pub vacant-key : (g : Layout) (img key : Bytes) (i : ℕ) → key_at g img i ≡ key → vacant g (slot g img i) ≡ all_zero key
unfolding vacant
vacant-key g img key i e = ap all_zero e

-- ---- one slot read

module _ (g : Layout) (img key : Bytes) (left i : ℕ) where
  pub turn-met : same (key_at g img i) key ≡ true → probe g img key (suc left) i ≡ met i
  unfolding probe
  turn-met e = rw (e, probe)

  pub turn-empty : same (key_at g img i) key ≡ false → vacant g (slot g img i) ≡ true
      → probe g img key (suc left) i ≡ empty i
  unfolding probe
  turn-empty e v = rw (e, probe, v)

  pub turn_on : same (key_at g img i) key ≡ false → vacant g (slot g img i) ≡ false
      → probe g img key (suc left) i ≡ probe g img key left (next g.N i)
  unfolding probe
  turn_on e v = rw (e, probe, v)

-- ---- what a search says

-- the slots less than d steps above the key's home are taken, by other keys
abbrev pub Passed : Layout → Bytes → Bytes → ℕ → Type 0
Passed g img key d =
    (k : ℕ) → k < g.N → dist g.N (home g key) k < d → Taken g img k × (key_at g img k ≡ key → ⊥)

abbrev Says : Layout → Bytes → Bytes → Probe → Type 0
Says g img key (met i) =
    (i < g.N) × (key_at g img i ≡ key) × Passed g img key (dist g.N (home g key) i)
Says g img key (empty i) =
    (i < g.N) × (vacant g (slot g img i) ≡ true)
    × Passed g img key (dist g.N (home g key) i) × (key_at g img i ≡ key → ⊥)
Says g img key exhausted = Passed g img key g.N

-- one slot more is passed
passed-more : (g : Layout) (img key : Bytes) (d i : ℕ) → home g key < g.N → i < g.N
    → dist g.N (home g key) i ≡ d → Taken g img i → (key_at g img i ≡ key → ⊥)
    → Passed g img key d → Passed g img key (suc d)
passed-more g img key d i hl l e t n p k kl kd =
    by-eq (dist g.N (home g key) k) d
    (λ q.
    let here : i ≡ k = dist_same g.N (home g key) i k hl l kl (e ∙ sym q) in
    (subst (λ (x : ℕ). Taken g img x) here t, subst (λ (x : ℕ). key_at g img x ≡ key → ⊥) here n))
    (λ q. p k kl (omega arith))

-- with so many slots left, at the slot d steps above home, the slots before it passed
probe-says : (g : Layout) (img key : Bytes) → home g key < g.N → (left d i : ℕ) → d + left ≡ g.N → i < g.N
    → (0 < left → dist g.N (home g key) i ≡ d) → Passed g img key d
    → Says g img key (probe g img key left i)
probe-says g img key hl zero d i s l e p =
    unfold probe in λ k kl kd. p k kl (omega arith)
probe-says g img key hl (suc left) d i s l e p =
    let at : dist g.N (home g key) i ≡ d = e (omega arith) in
    let so_far : Passed g img key (dist g.N (home g key) i) = λ k kl kd. p k kl (omega arith) in
    let ih : Passed g img key (suc d) → (0 < left → dist g.N (home g key) (next g.N i) ≡ suc d)
    → Says g img key (probe g img key left (next g.N i))
    = λ q f. probe-says g img key hl left (suc d) (next g.N i) (omega arith) (next-lt g.N i l) f q in
    by_bool (same (key_at g img i) key)
    (λ y. rw (turn-met g img key left i y) (l, same_true (key_at g img i) key y, so_far))
    (λ n.
    let other : key_at g img i ≡ key → ⊥ = same_false (key_at g img i) key n in
    by_bool (vacant g (slot g img i))
    (λ v. rw (turn-empty g img key left i n v) (l, v, so_far, other))
    (λ v.
    rw (turn_on g img key left i n v)
    (ih (passed-more g img key d i hl l at v other p)
    (λ some_left. dist-next g.N (home g key) i hl l (omega arith) ∙ omega arith))))

search-says : (g : Layout) (img key : Bytes) → 0 < g.N → Says g img key (search g img key)
unfolding search
search-says g img key pos =
    let hl : home g key < g.N = home-lt g key pos in
    probe-says g img key hl g.N 0 (home g key) (omega arith) hl (λ q. dist-self g.N (home g key))
    (λ k kl kd. absurd (omega arith))

module _ (g : Layout) (img key : Bytes) (pos : 0 < g.N) where
  pub search-met : (i : ℕ) → search g img key ≡ met i
      → (i < g.N) × (key_at g img i ≡ key) × Passed g img key (dist g.N (home g key) i)
  search-met i e = subst (λ (p : Probe). Says g img key p) e (search-says g img key pos)

  pub search-empty : (i : ℕ) → search g img key ≡ empty i
      → (i < g.N) × (vacant g (slot g img i) ≡ true)
      × Passed g img key (dist g.N (home g key) i) × (key_at g img i ≡ key → ⊥)
  search-empty i e = subst (λ (p : Probe). Says g img key p) e (search-says g img key pos)

  pub search-exhausted : search g img key ≡ exhausted
      → (k : ℕ) → k < g.N → Taken g img k × (key_at g img k ≡ key → ⊥)
  search-exhausted e k kl =
      subst (λ (p : Probe). Says g img key p) e (search-says g img key pos) k kl
      (dist-lt g.N (home g key) k (home-lt g key pos) kl)

  -- the three ways in which a search ends
  pub by-search {ℓ} : {A : Type ℓ} → ((i : ℕ) → search g img key ≡ met i → A)
      → ((i : ℕ) → search g img key ≡ empty i → A)
      → (search g img key ≡ exhausted → A) → A
  by-search {A = A} yes' free none' = go (search g img key) refl
    where
      go : (p : Probe) → search g img key ≡ p → A
      go (met i) e = yes' i e
      go (empty i) e = free i e
      go exhausted e = none' e

  -- the slot where a key that is not all zero is met is taken
  pub met-taken : (i : ℕ) → all_zero key ≡ false → search g img key ≡ met i → Taken g img i
  met-taken i z e = vacant-key g img key i (search-met i e).1 ∙ z

  -- ---- present and absent keys

  pub search-finds : (i : ℕ) → Findable g img → i < g.N → Taken g img i → key_at g img i ≡ key
      → search g img key ≡ met i
  search-finds i s l t k =
      by-search
      (λ j e.
      let tj : Taken g img j = vacant-key g img key j (search-met j e).1 ∙ sym (vacant-key g img key i k) ∙ t in
      e ∙ ap met (s.distinct j i (search-met j e).0 l tj t ((search-met j e).1 ∙ sym k)))
      (λ j e. absurd (passed-by j e))
      (λ e. absurd ((search-exhausted e i l).1 k))
    where
      -- no search ends at a vacant slot below it, at it, or above it
      passed-by : (j : ℕ) → search g img key ≡ empty j → ⊥
      passed-by j e =
          let f = search-empty j e in
          let dh : ℕ → ℕ = dist g.N (home g key) in
          by_le (dh j) (dh i)
          (λ le. by-eq (dh j) (dh i)
          (λ q. not-both (vacant g (slot g img j)) f.1
          (ap (λ (x : ℕ). vacant g (slot g img x))
          (dist_same g.N (home g key) j i (home-lt g key pos) f.0 l q) ∙ t))
          (λ q. not-both (vacant g (slot g img j)) f.1
          (s.paths i j l f.0 t
          (subst (λ (b : Bytes). dist g.N (home g b) j < dist g.N (home g b) i) (sym k) (omega arith)))))
          (λ lt. (f.2 i l lt).1 k)

-- ---- a search depends on the slots' keys alone

probe-keys : (g : Layout) (img img' key : Bytes) (left i : ℕ) → i < g.N
    → ((k : ℕ) → k < g.N → key_at g img' k ≡ key_at g img k)
    → probe g img' key left i ≡ probe g img key left i
unfolding vacant
probe-keys g img img' key zero i l f = unfold probe in refl
probe-keys g img img' key (suc left) i l f =
    let sk : same (key_at g img' i) key ≡ same (key_at g img i) key = ap (λ (b : Bytes). same b key) (f i l) in
    let vk : vacant g (slot g img' i) ≡ vacant g (slot g img i) = ap all_zero (f i l) in
    let ih : probe g img' key left (next g.N i) ≡ probe g img key left (next g.N i)
    = probe-keys g img img' key left (next g.N i) (next-lt g.N i l) f in
    by_bool (same (key_at g img i) key)
    (λ y. turn-met g img' key left i (sk ∙ y) ∙ sym (turn-met g img key left i y))
    (λ n. by_bool (vacant g (slot g img i))
    (λ v. turn-empty g img' key left i (sk ∙ n) (vk ∙ v) ∙ sym (turn-empty g img key left i n v))
    (λ v. turn_on g img' key left i (sk ∙ n) (vk ∙ v) ∙ ih ∙ sym (turn_on g img key left i n v)))

module _ (g : Layout) (img img' key : Bytes) (pos : 0 < g.N) where
  pub search-keys : ((k : ℕ) → k < g.N → key_at g img' k ≡ key_at g img k) → search g img' key ≡ search g img key
  unfolding search
  search-keys f = probe-keys g img img' key g.N (home g key) (home-lt g key pos) f

  pub search-frame : ((k : ℕ) → k < g.N → slot g img' k ≡ slot g img k) → search g img' key ≡ search g img key
  search-frame f = search-keys (λ k l. ap (key_of g) (f k l))

  pub entry_of-frame : ((k : ℕ) → k < g.N → slot g img' k ≡ slot g img k) → entry_of g img' key ≡ entry_of g img key
  unfolding entry_of slot_met
  entry_of-frame f =
      by-search g img key pos
      (λ i e.
      ap (slot_met g img') (search-frame f ∙ e)
      ∙ ap some (f i (search-met g img key pos i e).0)
      ∙ sym (ap (slot_met g img) e))
      (λ i e. ap (slot_met g img') (search-frame f ∙ e) ∙ sym (ap (slot_met g img) e))
      (λ e. ap (slot_met g img') (search-frame f ∙ e) ∙ sym (ap (slot_met g img) e))
