-- Delete's walk keeps the invariant of reached tables, and takes one key out.
--     Mending g img h j      the invariant during the walk: paths may be broken at the hole alone, and every slot
--                            passed has its home after the hole; what is passed is told by what is left,
--                            dist j h < dist s h
--     mending-begins, -skip, -move, -stop     its beginning, its two turns and its end
--     findable-closed           the invariant afterwards
--     gone-closed            the key stands nowhere afterwards
-- Assumes nothing.
use mathlib.Core.Path.{◌≡◌, refl, sym, ap, ◌∙◌, subst}
use Prim.Native.Nat.{ℕ, ◌+◌, ◌≤◌, ◌<◌}
use native.Mathlib.Omega.{arith}
use mathlib.Core.Bool.{true, false}
use lib.ListN.{length}
use Rattle.spec_file.specs.Bytes.{Bytes}
use Rattle.spec_file.specs.Image.{Layout, slot, put_slot, key_of, blank, vacant, home}
use Rattle.spec_file.specs.Search.{next, dist}
use Rattle.spec_file.specs.Delete.{stays, moved, closed}
use Rattle.law_file.proofs.Tests.{by_le, by-eq, not-both}
use Rattle.law_file.proofs.Slots.{Room}
use Rattle.law_file.proofs.Cyclic.{dist-lt, dist-self, dist-zero, dist_same, dist-back, dist-from-next, dist-next-self, round3}
use Rattle.law_file.proofs.Table.{Taken, key_at, home_at, Findable}
use Rattle.law_file.proofs.Spread.{slot-moved-hole, slot-moved-other}
use Rattle.law_file.proofs.Probe.{home-lt}
use Rattle.law_file.proofs.Closing.{Going, hole-other, stays-near, goes-far, closed-induct}
use Rattle.law_file.proofs.Frames.{taken-same, by-moved, stands-walked, zeroed-other, zeroed-same, zeroed-taken}
use Rattle.law_file.proofs.Insert.{Stands}

pub record Mending (g : Layout) (img : Bytes) (h j : ℕ) : Type 0 where
  pub paths : (s k : ℕ) → s < g.N → k < g.N → Taken g img s
      → dist g.N (home_at g img s) k < dist g.N (home_at g img s) s → (k ≡ h → ⊥) → Taken g img k
  pub passed : (s : ℕ) → s < g.N → Taken g img s → dist g.N j h < dist g.N s h
      → dist g.N (home_at g img s) s < dist g.N h s
  pub distinct : (a b : ℕ) → a < g.N → b < g.N → Taken g img a → Taken g img b → key_at g img a ≡ key_at g img b → a ≡ b

-- ---- distances

-- two slots from which h is as far are one slot
same-to : (N a b h : ℕ) → a < N → b < N → h < N → (a ≡ h → ⊥) → (b ≡ h → ⊥) → dist N a h ≡ dist N b h → a ≡ b
same-to N a b h la lb lh na nb e =
    dist_same N h a b lh la lb (omega (arith, dist-back N a h la lh na, dist-back N b h lb lh nb))

-- from the slot after h no slot is passed yet
fresh : (N h s : ℕ) → h < N → s < N → dist N (next N h) h < dist N s h → ⊥
fresh N h s lh ls f = absurd (omega (arith, dist-next-self N h lh, dist-lt N s h ls lh))

-- a slot h on the way from t to s cuts the way in two
cut : (N t h s : ℕ) → t < N → h < N → s < N → dist N t h < dist N t s → dist N t h + dist N h s ≡ dist N t s
cut N t h s lt lh ls f = round3 N t h s lt lh ls (λ one. one) (λ two. absurd (omega (arith, dist-lt N h s lh ls)))

-- a slot j on the way from h to s is on the way from t to s, if h is
further : (N t h j s : ℕ) → t < N → h < N → j < N → s < N → dist N t h < dist N t s → dist N h j < dist N h s
    → dist N t j < dist N t s
further N t h j s lt lh lj ls f k =
    let whole : dist N t h + dist N h s ≡ dist N t s = cut N t h s lt lh ls f in
    round3 N t h j lt lh lj (λ one. omega arith) (λ two. absurd (omega (arith, dist-lt N t s lt ls)))

-- a slot s that is not passed lies behind slot j
ahead_of : (N h j s : ℕ) → h < N → j < N → s < N → (h ≡ j → ⊥) → (h ≡ s → ⊥) → (j ≡ s → ⊥) → dist N s h ≤ dist N j h
    → dist N h j < dist N h s
ahead_of N h j s lh lj ls nj ns n f =
    let bj : dist N h j + dist N j h ≡ N = dist-back N h j lh lj nj in
    let bs : dist N h s + dist N s h ≡ N = dist-back N h s lh ls ns in
    by_le (dist N h s) (dist N h j)
    (λ le. absurd (n (dist_same N h j s lh lj ls (omega arith))))
    (λ lt. lt)

-- ---- the beginning
module _ (g : Layout) (img : Bytes) (r : Room g (length img)) (i : ℕ) (l : i < g.N) (ok : Findable g img) where
  pub mending-begins : Mending g (put_slot g img i (blank g)) i (next g.N i)
  mending-begins =
      record {
        paths = λ s k ls lk t f n. zeroed-taken g img r i l k
            (ok.paths s k ls lk (was s t)
            (subst (λ (b : Bytes). dist g.N (home g (key_of g b)) k < dist g.N (home g (key_of g b)) s)
            (zeroed-same g img r i l s t) f)) n;
        passed = λ s ls t f. absurd (fresh g.N i s l ls f);
        distinct = λ a b la lb ta tb e. ok.distinct a b la lb (was a ta) (was b tb)
            (ap (key_of g) (sym (zeroed-same g img r i l a ta)) ∙ e ∙ ap (key_of g) (zeroed-same g img r i l b tb));
      }
    where
      was : (k : ℕ) → Taken g (put_slot g img i (blank g)) k → Taken g img k
      was k t = taken-same g img (put_slot g img i (blank g)) k k (sym (zeroed-same g img r i l k t)) t

-- ---- the turns
module _ (g : Layout) (img : Bytes) (h j : ℕ) (s : Going g img h j) (t : Taken g img j) where
  -- slot j is passed now
  pub mending-skip : stays g img h j ≡ true → Mending g img h j → Mending g img h (next g.N j)
  mending-skip a m =
      record {
        paths = m.paths;
        passed = λ k lk tk f.
            by_le (dist g.N k h) (dist g.N j h)
            (λ le.
            let here : k ≡ j = same-to g.N k j h lk s.slot_lt s.hole-lt
            (λ e. hole-other g img h k
            (record { room = s.room; hole-lt = s.hole-lt; slot_lt = lk; hole = s.hole }) tk (sym e))
            (λ e. hole-other g img h j s t (sym e))
            (omega (
              arith,
              dist-from-next g.N j h s.slot_lt s.hole-lt (λ e. hole-other g img h j s t (sym e)),
            )) in
            subst (λ (x : ℕ). dist g.N (home_at g img x) x < dist g.N h x) (sym here) (stays-near g img h j s t a))
            (λ lt. m.passed k lk tk lt);
        distinct = m.distinct;
      }

  -- the entry of slot j stands in the hole, and slot j is the hole
  pub mending-move : stays g img h j ≡ false → Mending g img h j → Mending g (moved g img h j) j (next g.N j)
  mending-move a m =
      record { paths = paths'; passed = λ k lk tk f. absurd (fresh g.N j k s.slot_lt lk f); distinct = distinct' }
    where
      -- a slot on the way from the moved entry's home to the hole was on the way to its old slot
      old-way : (k : ℕ) → k < g.N → dist g.N (home_at g img j) k < dist g.N (home_at g img j) h
          → dist g.N (home_at g img j) k < dist g.N (home_at g img j) j
      old-way k lk f =
          let lt : home_at g img j < g.N = home-lt g (key_at g img j) (omega (arith, s.slot_lt)) in
          round3 g.N (home_at g img j) h j lt s.hole-lt s.slot_lt
          (λ one. omega arith)
          (λ two. absurd (omega (arith, goes-far g img h j s t a, dist-lt g.N (home_at g img j) h lt s.hole-lt)))

      -- a slot other than the old and the new hole, on the way of an entry after the move, was taken
      before : (x k : ℕ) → x < g.N → k < g.N → Taken g (moved g img h j) x
          → dist g.N (home_at g (moved g img h j) x) k < dist g.N (home_at g (moved g img h j) x) x → (k ≡ h → ⊥)
          → Taken g img k
      before x k lx lk tx f nk =
          by-moved g img h j s t x tx
          (λ e there. m.paths j k s.slot_lt lk t
          (old-way k lk
          (subst (λ (y : ℕ). dist g.N (home_at g img j) k < dist g.N (home_at g img j) y) e
          (subst (λ (b : Bytes). dist g.N (home g (key_of g b)) k < dist g.N (home g (key_of g b)) x) there f)))
          nk)
          (λ nh nj there. m.paths x k lx lk (taken-same g img (moved g img h j) x x (sym there) tx)
          (subst (λ (b : Bytes). dist g.N (home g (key_of g b)) k < dist g.N (home g (key_of g b)) x) there f)
          nk)

      paths' : (x k : ℕ) → x < g.N → k < g.N → Taken g (moved g img h j) x
          → dist g.N (home_at g (moved g img h j) x) k < dist g.N (home_at g (moved g img h j) x) x → (k ≡ j → ⊥)
          → Taken g (moved g img h j) k
      paths' x k lx lk tx f nj =
          by-eq k h
          (λ e. taken-same g (moved g img h j) img k j
          (ap (slot g (moved g img h j)) e
          ∙ slot-moved-hole g img s.room h j s.hole-lt s.slot_lt (hole-other g img h j s t)) t)
          (λ nh. taken-same g (moved g img h j) img k k
          (slot-moved-other g img s.room h j s.hole-lt s.slot_lt k nh nj)
          (before x k lx lk tx f nh))

      distinct' : (a b : ℕ) → a < g.N → b < g.N → Taken g (moved g img h j) a → Taken g (moved g img h j) b
          → key_at g (moved g img h j) a ≡ key_at g (moved g img h j) b → a ≡ b
      distinct' a b la lb ta tb e =
          by-moved g img h j s t a ta
          (λ ea sa. by-moved g img h j s t b tb
          (λ eb sb. ea ∙ sym eb)
          (λ nh nj sb. absurd (nj (sym (m.distinct j b s.slot_lt lb t (was b tb sb) (keys sa sb))))))
          (λ nh nj sa. by-moved g img h j s t b tb
          (λ eb sb. absurd (nj (m.distinct a j la s.slot_lt (was a ta sa) t (keys sa sb))))
          (λ nh' nj' sb. m.distinct a b la lb (was a ta sa) (was b tb sb) (keys sa sb)))
        where
          was : (k : ℕ) → Taken g (moved g img h j) k → slot g (moved g img h j) k ≡ slot g img k → Taken g img k
          was k tk there = taken-same g img (moved g img h j) k k (sym there) tk

          keys : {x y : Bytes} → slot g (moved g img h j) a ≡ x → slot g (moved g img h j) b ≡ y → key_of g x ≡ key_of g y
          keys p q = ap (key_of g) (sym p) ∙ e ∙ ap (key_of g) q

-- ---- the end: slot j is vacant
module _ (g : Layout) (img : Bytes) (h j : ℕ) (s : Going g img h j) (v : vacant g (slot g img j) ≡ true)
    (m : Mending g img h j) where
  -- a vacant slot and a taken one
  apart : (i k : ℕ) → vacant g (slot g img i) ≡ true → Taken g img k → i ≡ k → ⊥
  apart i k vi tk e = not-both (vacant g (slot g img k)) (subst (λ (x : ℕ). vacant g (slot g img x) ≡ true) e vi) tk

  -- no entry's path goes over the hole
  whole : (x : ℕ) → x < g.N → Taken g img x → dist g.N (home_at g img x) h < dist g.N (home_at g img x) x → ⊥
  whole x lx tx f =
      by_le (dist g.N x h) (dist g.N j h)
      (λ le. by-eq h j
      (λ e. apart h x s.hole tx (sym (dist-zero g.N x h lx s.hole-lt (nothing e le))))
      (λ n. not-both (vacant g (slot g img j)) v
      (m.paths x j lx s.slot_lt tx
      (further g.N (home_at g img x) h j x lt s.hole-lt s.slot_lt lx f
      (ahead_of g.N h j x s.hole-lt s.slot_lt lx n (apart h x s.hole tx) (apart j x v tx) le))
      (λ e. n (sym e)))))
      (λ near. absurd (omega (
        arith,
        m.passed x lx tx near,
        cut g.N (home_at g img x) h x lt s.hole-lt lx f,
      )))
    where
      lt : home_at g img x < g.N
      lt = home-lt g (key_at g img x) (omega (arith, s.slot_lt))

      nothing : h ≡ j → dist g.N x h ≤ dist g.N j h → dist g.N x h ≡ 0
      nothing e le = omega (arith, ap (λ (y : ℕ). dist g.N y h) (sym e) ∙ dist-self g.N h)

  pub mending-stop : Findable g img
  mending-stop =
      record {
        paths = λ x k lx lk tx f. by-eq k h
            (λ e. absurd (whole x lx tx
            (subst (λ (y : ℕ). dist g.N (home_at g img x) y < dist g.N (home_at g img x) x) e f)))
            (λ n. m.paths x k lx lk tx f n);
        distinct = m.distinct;
      }

-- ---- closed
module _ (g : Layout) (img : Bytes) (r : Room g (length img)) (i : ℕ) (l : i < g.N) (ok : Findable g img) where
  pub findable-closed : Findable g (closed g img i)
  unfolding closed
  findable-closed =
      closed-induct g img r i l (λ img' h j w. Mending g img' h j → Findable g w.image)
      (record {
        stop = λ img' h j s v m. mending-stop g img' h j s v m;
        skip = λ img' h j w s t a p m. p (mending-skip g img' h j s t a m);
        move = λ img' h j w s t a p m. p (mending-move g img' h j s t a m);
      })
      (mending-begins g img r i l ok)

  -- the key stands nowhere afterwards
  pub gone-closed : Taken g img i → (k : ℕ) → k < g.N → Taken g (closed g img i) k
      → key_at g (closed g img i) k ≡ key_at g img i → ⊥
  gone-closed ti k lk t e = was ((stands-walked g img r i l (slot g (closed g img i) k)).1 (k, lk, t, refl))
    where
      was : Stands g (put_slot g img i (blank g)) (slot g (closed g img i) k) → ⊥
      was (x, lx, tx, q) =
          let same' : slot g (put_slot g img i (blank g)) x ≡ slot g img x = zeroed-same g img r i l x tx in
          zeroed-other g img r i l x tx
          (ok.distinct x i lx l (taken-same g img (put_slot g img i (blank g)) x x (sym same') tx) ti
          (ap (key_of g) (sym same' ∙ q) ∙ e))
