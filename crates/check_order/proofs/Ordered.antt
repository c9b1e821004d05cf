-- Stretches in order, from window to window, and what that says in the end.
--     before-first, before_on      the end before a key, key by key
--     ordered-start      none starts below the data area
--     ordered-on         one window more, whose starts are all listed, each behind the end of the one before it
--     ordered-first      behind the data area: no two stretches meet
-- Assumes nothing.
use mathlib.Core.Path.{◌≡◌, refl, sym, ap, ◌∙◌, subst}
use mathlib.Core.Logic.{◌⊎◌, inl, inr}
use Prim.Native.Nat.{ℕ, zero, suc, ◌+◌, ◌≤◌, ◌<◌}
use native.Mathlib.Numerals.{add-one}
use native.Mathlib.Omega.{arith}
use mathlib.Core.Bool.{◌&&◌}
use mathlib.Core.List.{List}
use lib.ListN.{length}
use lib.Dec.{ltb}
use borrow.Author.Tests.{ltb-true}
use Rattle.spec_file.specs.Bytes.{Bytes}
use Rattle.spec_file.specs.Image.{field, layout_of}
use Rattle.spec_file.specs.Limits.{free_field}
use Rattle.spec_file.specs.Inspect.{meets, meets_lower}
use Rattle.law_file.proofs.Tests.{by_bool, by_le, and_left, and_right}
use Rattle.law_file.proofs.Meeting.{some-all}
use Rattle.header_layout.specs.declared.shape.Shape.{Shape}
use Rattle.message_stretch.specs.Checked.{start_in, end_in, Checked}
use Rattle.message_stretch.specs.Stretches.{first_meeting}
use Rattle.message_stretch.proofs.First.{first-is}
use Rattle.message_stretch.proofs.Reading.{stretched, checked-slot}
use Rattle.message_stretch.proofs.Sweeps.{Lying, lying}
use Rattle.starts_list.specs.Starts.{starts_in, listed_at, place_at, Rising, Listed}
use Rattle.starts_list.proofs.Counting.{place-first, place-on, listed-first, listed-alone, listed-end}
use Rattle.check_order.specs.Order.{end_before, Behind, InOrder}

module _ (stop : ℕ → ℕ) (next : ℕ) (keys : List ℕ) where
  pub before-first : end_before stop next keys 0 ≡ next
  unfolding end_before
  before-first = refl

  pub before_on : (k : ℕ) → end_before stop next keys (k + 1) ≡ stop (listed_at keys k)
  unfolding end_before
  before_on k = ap (end_before stop next keys) (add-one k)

-- below the lowest place at which one starts
pub ordered-start : (start stop : ℕ → ℕ) (n low high : ℕ) → Lying start stop n low high → InOrder start stop n low low
ordered-start start stop n low high lie =
    record {
      apart = λ i j li lj e a b c d. absurd (omega (arith, lie i li (omega arith), a));
      ends = λ i li a.
          by_le (stop i) low (λ h. h) (λ h. absurd (omega (arith, lie i li (omega arith), a)));
    }

-- ---- a window

module _ (start stop : ℕ → ℕ) (n lo hi next : ℕ) (full : (i : ℕ) → i < n → 0 < start i → start i < stop i)
    (above : 0 < lo) (order : lo ≤ hi) (keys : List ℕ)
    (behind : Behind start stop n lo hi next keys (length keys)) (all : starts_in start lo hi n ≡ length keys) where
  abbrev place : ℕ → ℕ
  place = place_at start lo keys

  abbrev before : ℕ → ℕ
  before = end_before stop next keys

  -- each listed stretch is not empty
  listed-full : (k : ℕ) → k < length keys → start (listed_at keys k) < stop (listed_at keys k)
  listed-full k l =
      let b = behind k l in
      full (listed_at keys k) b.0 (omega (arith, above, b.1))

  rising : Rising start n lo hi keys (length keys)
  rising zero l =
      let b = behind 0 l in
      (b.0, omega (arith, place-first start lo keys, b.1), b.2)
  rising (suc k) l =
      let b = behind (suc k) l in (
        b.0,
        omega (
          arith,
          ap place (add-one k),
          place-on start lo k keys,
          listed-full k (omega (arith, l)),
          ap before (add-one k),
          before_on stop next keys k,
          b.3,
        ),
        b.2,
      )

  listed : Listed start n lo hi keys
  listed = record { order = order; rising = rising; all = all }

  module _ (k : ℕ) (l : k < length keys) (o : InOrder start stop n (place k) (before k)) where
    abbrev i : ℕ
    i = listed_at keys k

    -- what starts below the next place started below this one, and ends where the listed slot starts; or is that slot
    abbrev Older : ℕ → Type 0
    Older j = ((stop j ≤ start i) × (start j < place k)) ⊎ (j ≡ i)

    older : (j : ℕ) → j < n → start j < place (k + 1) → Older j
    older j lj a =
        by_le (place k) (start j)
        (λ h.
        by_le (start i) (start j)
        (λ m. inr (listed-alone start n lo hi keys listed k j l lj (omega (arith, m, a, place-on start lo k keys))))
        (λ m. absurd (listed-first start n lo hi keys listed k j l lj h m)))
        (λ h. inl (omega (arith, o.ends j lj h, (behind k l).3), h))

    on-apart : (p q : ℕ) → (p ≡ q → ⊥) → p < n → q < n → start p < stop q → start q < stop p
        → Older p → Older q → ⊥
    on-apart p q e lp lq a b (inl u) (inl v) = o.apart p q lp lq e u.1 v.1 a b
    on-apart p q e lp lq a b (inl u) (inr v) = omega (arith, u.0, ap start v, b)
    on-apart p q e lp lq a b (inr u) (inl v) = omega (arith, v.0, ap start u, a)
    on-apart p q e lp lq a b (inr u) (inr v) = e (u ∙ sym v)

    on-ends : (p : ℕ) → Older p → stop p ≤ before (k + 1)
    on-ends p (inl u) = omega (arith, u.0, listed-full k l, before_on stop next keys k)
    on-ends p (inr u) = omega (arith, ap stop u, before_on stop next keys k)

    listed-on : InOrder start stop n (place (k + 1)) (before (k + 1))
    listed-on =
        record {
          apart = λ p q lp lq e a b c d. on-apart p q e lp lq c d (older p lp a) (older q lq b);
          ends = λ p lp a. on-ends p (older p lp a);
        }

  listed-all : InOrder start stop n lo next → (k : ℕ) → k ≤ length keys → InOrder start stop n (place k) (before k)
  listed-all o zero h =
      subst (λ (at : ℕ). InOrder start stop n at (before 0)) (sym (place-first start lo keys))
      (subst (InOrder start stop n lo) (sym (before-first stop next keys)) o)
  listed-all o (suc k) h =
      subst (λ (m : ℕ). InOrder start stop n (place m) (before m)) (add-one k)
      (listed-on k (omega (arith, h)) (listed-all o k (omega (arith, h))))

  pub ordered-on : (end : ℕ) → end ≡ end_before stop next keys (length keys) → InOrder start stop n lo next
      → InOrder start stop n hi end
  ordered-on end e o =
      let w = listed-all o (length keys) (omega arith) in
      let low : (j : ℕ) → j < n → start j < hi → start j < place (length keys) =
      λ j lj a.
      by_le (place (length keys)) (start j) (λ h. absurd (listed-end start n lo hi keys listed j lj h a)) (λ h. h) in
      record {
        apart = λ p q lp lq f a b c d. w.apart p q lp lq f (low p lp a) (low q lq b) c d;
        ends = λ p lp a. omega (arith, e, w.ends p lp (low p lp a));
      }

-- ---- an image whose taken slots were all checked

module _ (img : Bytes) (s : Shape) (C : Checked img s s.slots) where
  pub stretch-full : (i : ℕ) → i < s.slots → 0 < start_in img i → start_in img i < end_in img i
  stretch-full i l z =
      let w = stretched img s i (checked-slot img s s.slots C i l) z in
      omega (arith, w.order, w.some)

  pub ordered-first : (at next : ℕ) → InOrder (start_in img) (end_in img) s.slots at next → field img free_field ≤ at
      → first_meeting (layout_of img) img s.slots ≡ s.slots
  unfolding first_meeting meets_lower meets
  ordered-first at next o h =
      let g = layout_of img in
      let n = s.slots in
      let lie = lying img s n C in
      sym (first-is (meets_lower g img) n n (omega arith) (λ l. absurd (omega (arith, l)))
      (λ i l.
      some-all (meets g img i) i
      (λ j k.
      let a = ltb (start_in img i) (end_in img j) in
      let b = ltb (start_in img j) (end_in img i) in
      by_bool (a && b)
      (λ e.
      let c = ltb-true (start_in img i) (end_in img j) (and_left a b e) in
      let d = ltb-true (start_in img j) (end_in img i) (and_right a b e) in
      let li = lie i l (omega (arith, d)) in
      let lj = lie j (omega (arith, k, l)) (omega (arith, c)) in
      absurd (o.apart i j l (omega (arith, k, l)) (λ f. omega (arith, f, k)) (omega (arith, li, h))
      (omega (arith, lj, h)) c d))
      (λ e. e))))
