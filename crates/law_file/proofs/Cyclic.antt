-- The cyclic order of slots: `next` and `dist` by comparisons, with no remainder. No later proof unfolds them.
--     round3           of three slots: dist a b + dist b c is dist a c, or that and N
--     ahead N a d      the slot d steps above a
--     among-dist       "among the slots from the one after the hole up to its own", as one comparison of distances
-- Assumes nothing.
use mathlib.Core.Path.{◌≡◌, sym, ap, ◌∙◌, subst}
use Prim.Native.Nat.{ℕ, zero, suc, ◌+◌, ◌-◌, ◌≤◌, ◌<◌}
use native.Mathlib.Omega.{arith}
use lib.Dec.{ltb}
use borrow.Author.Tests.{lt-ltb, le-ltb, le-leb, lt-leb}
use Rattle.spec_file.specs.Search.{next, dist}
use Rattle.spec_file.specs.Delete.{among}
use Rattle.law_file.proofs.Tests.{by_le, by-eq}

-- ---- the two definitions, by cases
pub next_up : (N i : ℕ) → i + 1 < N → next N i ≡ i + 1
unfolding next
next_up N i h = rw (lt-ltb (i + 1) N h)

pub next-wrap : (N i : ℕ) → N ≤ i + 1 → next N i ≡ 0
unfolding next
next-wrap N i h = rw (le-ltb (i + 1) N h)

pub dist-up : (N a b : ℕ) → a ≤ b → dist N a b ≡ b - a
unfolding dist
dist-up N a b h = rw (le-leb a b h)

pub dist-wrap : (N a b : ℕ) → b < a → dist N a b ≡ b + N - a
unfolding dist
dist-wrap N a b h = rw (lt-leb a b h)

pub by_next {ℓ} : {A : Type ℓ} (N i : ℕ) → (i + 1 < N → next N i ≡ i + 1 → A) → (N ≤ i + 1 → next N i ≡ 0 → A) → A
by_next N i up wrap = by_le N (i + 1) (λ h. wrap h (next-wrap N i h)) (λ h. up h (next_up N i h))

pub by-dist {ℓ} : {A : Type ℓ} (N a b : ℕ) → (a ≤ b → dist N a b ≡ b - a → A) → (b < a → dist N a b ≡ b + N - a → A) → A
by-dist N a b up wrap = by_le a b (λ h. up h (dist-up N a b h)) (λ h. wrap h (dist-wrap N a b h))

-- ---- laws
pub next-lt : (N i : ℕ) → i < N → next N i < N
next-lt N i h = by_next N i (λ u e. omega arith) (λ u e. omega arith)

pub dist-lt : (N a b : ℕ) → a < N → b < N → dist N a b < N
dist-lt N a b ha hb = by-dist N a b (λ u e. omega arith) (λ u e. omega arith)

pub dist-self : (N a : ℕ) → dist N a a ≡ 0
dist-self N a = by-dist N a a (λ u e. omega arith) (λ u e. omega arith)

pub dist-zero : (N a b : ℕ) → a < N → b < N → dist N a b ≡ 0 → a ≡ b
dist-zero N a b ha hb z = by-dist N a b (λ u e. omega arith) (λ u e. omega arith)

-- two slots at one distance are one slot
pub dist_same : (N a b c : ℕ) → a < N → b < N → c < N → dist N a b ≡ dist N a c → b ≡ c
dist_same N a b c ha hb hc z =
    by-dist N a b
    (λ u e. by-dist N a c (λ v f. omega arith) (λ v f. omega arith))
    (λ u e. by-dist N a c (λ v f. omega arith) (λ v f. omega arith))

-- there and back is one round
pub dist-back : (N a b : ℕ) → a < N → b < N → (a ≡ b → ⊥) → dist N a b + dist N b a ≡ N
dist-back N a b ha hb n =
    by-dist N a b
    (λ u e. by-dist N b a (λ v f. absurd (n (omega arith))) (λ v f. omega arith))
    (λ u e. by-dist N b a (λ v f. omega arith) (λ v f. omega arith))

pub round3 {ℓ} : {A : Type ℓ} (N a b c : ℕ) → a < N → b < N → c < N
    → (dist N a b + dist N b c ≡ dist N a c → A) → (dist N a b + dist N b c ≡ dist N a c + N → A) → A
round3 N a b c ha hb hc one two =
    by-dist N a b
    (λ u e. by-dist N b c
    (λ v f. by-dist N a c (λ w g. one (omega arith)) (λ w g. absurd (omega arith)))
    (λ v f. by-dist N a c (λ w g. two (omega arith)) (λ w g. one (omega arith))))
    (λ u e. by-dist N b c
    (λ v f. by-dist N a c (λ w g. two (omega arith)) (λ w g. one (omega arith)))
    (λ v f. by-dist N a c (λ w g. absurd (omega arith)) (λ w g. two (omega arith))))

-- one step further from a, unless it comes round to a
pub dist-next : (N a b : ℕ) → a < N → b < N → dist N a b + 1 < N → dist N a (next N b) ≡ dist N a b + 1
dist-next N a b ha hb h =
    by_next N b
    (λ u e. rw e (by-dist N a b
    (λ v f. by-dist N a (b + 1) (λ w g. omega arith) (λ w g. omega arith))
    (λ v f. by-dist N a (b + 1) (λ w g. omega arith) (λ w g. omega arith))))
    (λ u e. rw e (by-dist N a b
    (λ v f. by-dist N a 0 (λ w g. omega arith) (λ w g. omega arith))
    (λ v f. by-dist N a 0 (λ w g. omega arith) (λ w g. omega arith))))

-- one step nearer
pub dist-from-next : (N a b : ℕ) → a < N → b < N → (a ≡ b → ⊥) → dist N a b ≡ dist N (next N a) b + 1
dist-from-next N a b ha hb n =
    by_next N a
    (λ u e. rw e (by-dist N a b
    (λ v f. by-dist N (a + 1) b (λ w g. omega arith) (λ w g. absurd (n (omega arith))))
    (λ v f. by-dist N (a + 1) b (λ w g. omega arith) (λ w g. omega arith))))
    (λ u e. rw e (by-dist N a b
    (λ v f. absurd (n (omega arith)))
    (λ v f. by-dist N 0 b (λ w g. omega arith) (λ w g. omega arith))))

-- from the slot after a to a is all but one
pub dist-next-self : (N a : ℕ) → a < N → dist N (next N a) a + 1 ≡ N
dist-next-self N a ha =
    by_next N a
    (λ u e. rw e (by-dist N (a + 1) a (λ v f. omega arith) (λ v f. omega arith)))
    (λ u e. rw e (by-dist N 0 a (λ v f. omega arith) (λ v f. omega arith)))

-- ---- the slot d steps above a
unfoldable pub ahead : ℕ → ℕ → ℕ → ℕ
ahead N a zero = a
ahead N a (suc d) = ahead N (next N a) d

pub ahead-lt : (N a d : ℕ) → a < N → ahead N a d < N
unfolding ahead
ahead-lt N a zero h = h
ahead-lt N a (suc d) h = ahead-lt N (next N a) d (next-lt N a h)

pub dist-ahead : (N a d : ℕ) → a < N → d < N → dist N a (ahead N a d) ≡ d
unfolding ahead
dist-ahead N a zero h k = dist-self N a
dist-ahead N a (suc d) h k =
    let ih : dist N (next N a) (ahead N (next N a) d) ≡ d = dist-ahead N (next N a) d (next-lt N a h) (omega arith) in
    dist-from-next N a (ahead N (next N a) d) h (ahead-lt N (next N a) d (next-lt N a h))
    (λ e. absurd (omega (arith, dist-next-self N a h, ap (dist N (next N a)) e)))
    ∙ omega arith

-- ---- among: the slots from the one after the hole up to j
pub among-dist : (N hole j k : ℕ) → hole < N → j < N → k < N → (hole ≡ j → ⊥)
    → among N (next N hole) j k ≡ ltb (dist N k j) (dist N hole j)
unfolding among
among-dist N hole j k hh hj hk n =
    let dj : dist N hole j ≡ dist N (next N hole) j + 1 = dist-from-next N hole j hh hj n in
    let lj : dist N hole j < N = dist-lt N hole j hh hj in
    let lk : dist N k j < N = dist-lt N k j hk hj in
    by-eq hole k
    (λ e.
    let far : dist N (next N hole) k + 1 ≡ N =
    subst (λ (x : ℕ). dist N (next N hole) x + 1 ≡ N) e (dist-next-self N hole hh) in
    lt-leb (dist N (next N hole) k) (dist N (next N hole) j) (omega arith)
    ∙ sym (le-ltb (dist N k j) (dist N hole j) (omega (arith, ap (λ (x : ℕ). dist N x j) e))))
    (λ e.
    let dk : dist N hole k ≡ dist N (next N hole) k + 1 = dist-from-next N hole k hh hk e in
    let lh : dist N hole k < N = dist-lt N hole k hh hk in
    round3 N hole k j hh hk hj
    (λ one.
    le-leb (dist N (next N hole) k) (dist N (next N hole) j) (omega arith)
    ∙ sym (lt-ltb (dist N k j) (dist N hole j) (omega arith)))
    (λ two.
    lt-leb (dist N (next N hole) k) (dist N (next N hole) j) (omega arith)
    ∙ sym (le-ltb (dist N k j) (dist N hole j) (omega arith))))
