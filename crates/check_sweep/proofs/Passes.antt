-- A pass through the window lo .. hi: the slots in rising order, each marking the places of its stretch.
--     Passing start stop lo hi best m i next      the slots below i were passed: m marks their places, no two share one
--     passing-start, passing-over, passing-on, passing-met, passing-end      its turns
-- Assumes nothing.
use Rattle.std.proofs.Common.{◌≡◌, ℕ, ◌+◌, ◌-◌, ◌<◌, ◌≤◌, min, Bool, true, false, cond, ltb, ◌⊎◌, sym, refl, ap, ◌∙◌, subst, inl, inr, arith, le-ltb, lt-ltb}
use Rattle.law_file.proofs.Tests.{by_le, by-eq, by-either}
use Rattle.check_marks.specs.Marks.{Map, marked, Claimed}
use Rattle.message_stretch.specs.Windows.{Piece, Unseen, Carried, Clear, Swept}

pub record Passing (start stop : ℕ → ℕ) (lo hi best : ℕ) (m : Map) (i next : ℕ) : Type 0 where
  pub low : i ≤ best
  pub covered : (j q : ℕ) → j < i → lo ≤ q → q < hi → start j ≤ q → q < stop j → marked m (q - lo) ≡ 1
  pub origin : (q : ℕ) → lo ≤ q → q < hi → marked m (q - lo) ≡ 1 → (j : ℕ) × (j < i) × (start j ≤ q) × (q < stop j)
  pub apart : (j k q : ℕ) → j < k → k < i → lo ≤ q → q < hi → start j ≤ q → q < stop j → start k ≤ q → q < stop k → ⊥
  pub carries : (j : ℕ) → j < i → start j < hi → hi < stop j → j ≡ next
  pub crosses : next < i → (start next < hi) × (hi < stop next)
  pub none : i ≤ next → next ≡ best

-- of the slots below `best`, the carried one is known
pub clear-carried : (start stop : ℕ → ℕ) (lo best carried : ℕ) → Clear start stop lo best carried → (i : ℕ) → i < best
    → Carried (start i) (stop i) lo i carried
clear-carried start stop lo best carried c i l =
    record {
      is = c.carries i l;
      crosses = λ e. subst (λ (n : ℕ). (start n < lo) × (lo < stop n)) (sym e) (c.crosses (omega arith));
    }

module _ (start stop : ℕ → ℕ) (lo hi best : ℕ) where
  pub passing-start : (m : Map) → ((q : ℕ) → marked m q ≡ 0) → Passing start stop lo hi best m 0 best
  passing-start m z =
      record {
        low = omega arith;
        covered = λ j q a. absurd (omega arith);
        origin = λ q a b e. absurd (omega (arith, z (q - lo)));
        apart = λ j k q a b. absurd (omega arith);
        carries = λ j a. absurd (omega arith);
        crosses = λ a. absurd (omega arith);
        none = λ a. refl;
      }

  -- slots of which the window shows nothing
  pub passing-over : (m : Map) (i next i' : ℕ) → Passing start stop lo hi best m i next → i ≤ i' → i' ≤ best
      → Unseen start stop lo hi i i' → Passing start stop lo hi best m i' next
  passing-over m i next i' w a b unseen =
      record {
        low = b;
        covered = λ j q c d e f g.
            by_le i j
            (λ h. absurd (omega (arith, (unseen j h c).inside q d e f g)))
            (λ h. w.covered j q h d e f g);
        origin = λ q c d e.
            let o = w.origin q c d e in
            (o.0, omega (arith, o.1), o.2, o.3);
        apart = λ j k q c d e f g h s t.
            by_le i k
            (λ l. omega (arith, (unseen k l d).inside q e f s t))
            (λ l. w.apart j k q c l e f g h s t);
        carries = λ j c d e.
            by_le i j
            (λ h. absurd (omega (arith, (unseen j h c).past d e)))
            (λ h. w.carries j h d e);
        crosses = λ c. by_le i next (λ h. absurd (omega (arith, w.none h))) (λ h. w.crosses h);
        none = λ c. w.none (omega arith);
      }

  -- the slots below i are clear up to hi, if those below `best` were up to lo
  pub passing-clear : (carried : ℕ) (m : Map) (i next : ℕ) → Clear start stop lo best carried
      → Passing start stop lo hi best m i next → Clear start stop hi i next
  passing-clear carried m i next c w =
      record {
        apart = λ j k q a b h e f g k'.
            by_le lo q
            (λ l. w.apart j k q a b l h e f g k')
            (λ l. c.apart j k q a (omega (arith, w.low)) l e f g k');
        carries = w.carries;
        crosses = w.crosses;
      }

  pub passing-end : (carried : ℕ) (m : Map) (i next : ℕ) → Clear start stop lo best carried
      → Passing start stop lo hi best m i next → best ≤ i → Swept start stop best hi best next
  passing-end carried m i next c w l =
      let e : i ≡ best = omega (arith, w.low) in
      record {
        low = omega arith;
        found = λ a. absurd (omega arith);
        clear = subst (λ (n : ℕ). Clear start stop hi n next) e (passing-clear carried m i next c w);
      }

  -- a turn: what the window shows of slot i, and how its places were claimed
  module _ (carried : ℕ) (m : Map) (i next : ℕ) (w : Passing start stop lo hi best m i next) (l : i < best)
      (from end : ℕ) (p : Piece (start i) (stop i) lo hi from end) (m' : Map) (to : ℕ) (is : to ≡ min end hi) where
    pub passing-met : Clear start stop lo best carried → Claimed m m' (from - lo) (to - lo) true
        → Swept start stop best hi i next
    passing-met c claimed =
        let h = claimed.hit refl in
        let q : ℕ = h.0 + lo in
        let e : h.0 ≡ q - lo = omega arith in
        let below : q < hi = omega (arith, h.2, p.low, p.high) in
        let end-above : q < end = omega (arith, h.2, p.low) in
        let o = w.origin q (omega arith) below (ap (marked m) (sym e) ∙ h.3) in
        let s = p.only q (omega (arith, h.1)) end-above below in
        record {
          low = omega arith;
          found = λ a. (o.0, o.1, omega (arith, o.2, s.1), omega (arith, o.3, s.0));
          clear = passing-clear carried m i next c w;
        }

    module _ (order : lo < hi) (claimed : Claimed m m' (from - lo) (to - lo) false) where
      -- a place of the window is slot i's, or is marked as before
      abbrev Here : ℕ → Type 0
      Here q = (from ≤ q) × (q < to)

      by-here : {A : Type 0} (q : ℕ) → (from ≤ q → q < to → A) → ((q < from) ⊎ (to ≤ q) → A) → A
      by-here q yes' no' =
          by_le from q (λ a. by_le to q (λ b. no' (inr b)) (λ b. yes' a b)) (λ a. no' (inl a))

      marked-here : (q : ℕ) → from ≤ q → q < to → marked m' (q - lo) ≡ 1
      marked-here q a b = claimed.inside refl (q - lo) (omega arith) (omega (arith, p.low))

      free-here : (q : ℕ) → from ≤ q → q < to → marked m (q - lo) ≡ 0
      free-here q a b = claimed.free refl (q - lo) (omega arith) (omega (arith, p.low))

      marked-else : (q : ℕ) → lo ≤ q → (q < from) ⊎ (to ≤ q) → marked m' (q - lo) ≡ marked m (q - lo)
      marked-else q a s =
          claimed.outside refl (q - lo)
          (by-either s (λ h. inl (omega (arith, p.low))) (λ h. inr (omega arith)))

      own : (q : ℕ) → lo ≤ q → q < hi → start i ≤ q → q < stop i → (from ≤ q) × (q < to)
      own q a b c d =
          let k = p.inside q a b c d in
          (k.0, omega (arith, k.1))

      -- no lower slot shares a place with slot i
      alone : (j q : ℕ) → j < i → lo ≤ q → q < hi → start j ≤ q → q < stop j → start i ≤ q → q < stop i → ⊥
      alone j q a b c d e f g =
          let k = own q b c f g in
          omega (arith, w.covered j q a b c d e, free-here q k.0 k.1)

      covered-on : (j q : ℕ) → j < i + 1 → lo ≤ q → q < hi → start j ≤ q → q < stop j → marked m' (q - lo) ≡ 1
      covered-on j q a b c d e =
          by-here q
          (λ h k. marked-here q h k)
          (λ s. by-eq j i
          (λ z.
          let k = own q b c (subst (λ (n : ℕ). start n ≤ q) z d) (subst (λ (n : ℕ). q < stop n) z e) in
          marked-here q k.0 k.1)
          (λ z. marked-else q b s ∙ w.covered j q (omega arith) b c d e))

      origin_on : (q : ℕ) → lo ≤ q → q < hi → marked m' (q - lo) ≡ 1
          → (j : ℕ) × (j < i + 1) × (start j ≤ q) × (q < stop j)
      origin_on q a b e =
          by-here q
          (λ h k.
          let s = p.only q h (omega arith) b in
          (i, omega arith, s.0, s.1))
          (λ s.
          let o = w.origin q a b (sym (marked-else q a s) ∙ e) in
          (o.0, omega (arith, o.1), o.2, o.3))

      apart-on : (j k q : ℕ) → j < k → k < i + 1 → lo ≤ q → q < hi → start j ≤ q → q < stop j → start k ≤ q → q < stop k
          → ⊥
      apart-on j k q a b c d e f g h =
          by-eq k i
          (λ z.
          alone j q (omega arith) c d e f (subst (λ (n : ℕ). start n ≤ q) z g) (subst (λ (n : ℕ). q < stop n) z h))
          (λ z. w.apart j k q a (omega arith) c d e f g h)

      passing-past : hi < end → Passing start stop lo hi best m' (i + 1) i
      passing-past h =
          let s = p.crosses h in
          record {
            low = omega arith;
            covered = covered-on;
            origin = origin_on;
            apart = apart-on;
            carries = λ j a b c.
                by-eq j i (λ z. z)
                (λ z. absurd (alone j (hi - 1) (omega arith) (omega arith) (omega arith) (omega arith) (omega arith)
                (omega (arith, s.0)) (omega (arith, s.1))));
            crosses = λ a. s;
            none = λ a. absurd (omega arith);
          }

      passing-short : end ≤ hi → Passing start stop lo hi best m' (i + 1) next
      passing-short h =
          record {
            low = omega arith;
            covered = covered-on;
            origin = origin_on;
            apart = apart-on;
            carries = λ j a b c.
                by-eq j i
                (λ z.
                let b' : start i < hi = subst (λ (n : ℕ). start n < hi) z b in
                let c' : hi < stop i = subst (λ (n : ℕ). hi < stop n) z c in
                absurd (omega (arith, p.past b' c')))
                (λ z. w.carries j (omega arith) b c);
            crosses = λ a. by_le i next (λ k. absurd (omega (arith, w.none k))) (λ k. w.crosses k);
            none = λ a. w.none (omega arith);
          }

      pub passing-on : (next' : ℕ) → next' ≡ cond (ltb hi end) i next → Passing start stop lo hi best m' (i + 1) next'
      passing-on next' e =
          by_le end hi
          (λ h. subst (λ (n : ℕ). Passing start stop lo hi best m' (i + 1) n)
          (sym (e ∙ ap (λ (b : Bool). cond b i next) (le-ltb hi end h))) (passing-short h))
          (λ h. subst (λ (n : ℕ). Passing start stop lo hi best m' (i + 1) n)
          (sym (e ∙ ap (λ (b : Bool). cond b i next) (lt-ltb hi end h))) (passing-past h))
