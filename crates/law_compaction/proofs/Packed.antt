-- Document 02, Job 2: what stands in the image that a compaction leaves.
--     packed-between        those that begin and end between two places pack into what lies between
--     packed-at             where a message stands among those packed; packed-order: one behind the other
--     packed-weight         how many bytes they have
-- Assumes nothing.
use mathlib.Core.Path.{◌≡◌, refl, sym, ap, ap₂, ◌∙◌, subst}
use Prim.Native.Nat.{ℕ, zero, suc, ◌+◌, ◌-◌, ◌≤◌, ◌<◌}
use native.Mathlib.Nat.{zero-add, add-zero}
use native.Mathlib.Omega.{arith}
use mathlib.Core.Logic.{inl, inr}
use mathlib.Core.Bool.{Bool, true, false, cond, not, ◌&&◌}
use mathlib.Core.List.{[], ◌++◌, append_assoc, append-nil}
use lib.ListN.{length, take, drop, length-append}
use lib.Seq.{take_at, drop_at}
use lib.Dec.{eqb}
use borrow.Author.Tests.{eqb-true, eq-eqb, ne_eqb, not-true}
use Rattle.spec_file.specs.Bytes.{Bytes, part}
use Rattle.spec_file.specs.Limits.{free_field}
use Rattle.spec_file.specs.Image.{field, Layout, slot, offset_of, vacant}
use Rattle.spec_file.specs.Messages.{head_size, is_active}
use Rattle.spec_file.specs.Inspect.{taken, some_below}
use Rattle.spec_compaction.specs.Compact.{begins_at, block_at, packed_from, packed_below, packed, packed_offset, packed_end}
use Rattle.law_file.proofs.Tests.{by_bool, by_le, by-eq, and_left, and_right, and-true, not-both}
use Rattle.law_file.proofs.Bytes.{part_length, part-add, Apart}
use Rattle.law_file.proofs.Total.{total, total-same, total-change, total-const}
use Rattle.law_file.proofs.Table.{weigh, weight}
use Rattle.law_file.proofs.Meeting.{some-which}
use Rattle.law_file.proofs.Stretch.{span}
use Rattle.law_compaction.proofs.Packing.{start_at, Live, Stretches, begins-live}

module _ (g : Layout) (img : Bytes) where
  -- ---- their bytes, where one begins and where none does

  pub begins-active : (p : ℕ) → begins_at g img p ≡ true → is_active img p ≡ true
  unfolding begins_at
  begins-active p h = and_left (is_active img p) _ h

  pub block-yes : (p : ℕ) → begins_at g img p ≡ true → block_at g img p ≡ part img p (span g img p)
  unfolding block_at
  block-yes p h = rw h refl

  pub block_no : (p : ℕ) → begins_at g img p ≡ false → block_at g img p ≡ []
  unfolding block_at
  block_no p h = rw h refl

  -- some places, and those behind them
  pub from-split : (a b p : ℕ) → packed_from g img (a + b) p ≡ packed_from g img a p ++ packed_from g img b (p + a)
  unfolding packed_from
  from-split zero b p = ap₂ (packed_from g img) (zero-add b) (sym (add-zero p))
  from-split (suc a) b p =
      let ih : packed_from g img (a + b) (suc p) ≡ packed_from g img a (suc p) ++ packed_from g img b (suc p + a)
      = from-split a b (suc p) in
      let n : suc a + b ≡ suc (a + b) = omega arith in
      let q : suc p + a ≡ p + suc a = omega arith in
      ap (λ (m : ℕ). packed_from g img m p) n
      ∙ ap (λ (l : Bytes). block_at g img p ++ l)
      (ih ∙ ap (λ (m : ℕ). packed_from g img a (suc p) ++ packed_from g img b m) q)
      ∙ sym (append_assoc (block_at g img p) (packed_from g img a (suc p)) (packed_from g img b (p + suc a)))

  pub below_split : (q r : ℕ) → g.D ≤ q → q ≤ r
      → packed_below g img r ≡ packed_below g img q ++ packed_from g img (r - q) q
  unfolding packed_below
  below_split q r lo hi =
      let n : r - g.D ≡ (q - g.D) + (r - q) = omega arith in
      let m : g.D + (q - g.D) ≡ q = omega arith in
      ap (λ (k : ℕ). packed_from g img k g.D) n
      ∙ from-split (q - g.D) (r - q) g.D
      ∙ ap (λ (k : ℕ). packed_from g img (q - g.D) g.D ++ packed_from g img (r - q) k) m

  -- a message, and those behind it
  pub from-here : (p r : ℕ) → p < r
      → packed_from g img (r - p) p ≡ block_at g img p ++ packed_from g img (r - suc p) (suc p)
  from-here p r l =
      let n : r - p ≡ suc (r - suc p) = omega arith in
      ap (λ (k : ℕ). packed_from g img k p) n ∙ (unfold packed_from in refl)

  pub below-here : (p r : ℕ) → g.D ≤ p → p < r
      → packed_below g img r ≡ packed_below g img p ++ (block_at g img p ++ packed_from g img (r - suc p) (suc p))
  below-here p r lo l =
      below_split p r lo (omega arith) ∙ ap (λ (x : Bytes). packed_below g img p ++ x) (from-here p r l)

-- ---- messages that lie in the data area, each by itself

-- a message has a header
pub span-some : (g : Layout) (img : Bytes) (o : ℕ) → 1 ≤ span g img o
unfolding head_size
span-some g img o = omega arith

module _ (g : Layout) (img : Bytes) (ok : Stretches g img) where
  abbrev Begins : ℕ → Type 0
  Begins p = begins_at g img p ≡ true

  pub begins-low : (p : ℕ) → Begins p → g.D ≤ p
  begins-low p h = let w = begins-live g img p h in omega (arith, ok.low w.0 w.1, w.2)

  pub begins-end : (p : ℕ) → Begins p → p + span g img p ≤ field img free_field
  begins-end p h =
      let w = begins-live g img p h in
      subst (λ (o : ℕ). o + span g img o ≤ field img free_field) w.2 (ok.end w.0 w.1)

  pub begins-apart : (p q : ℕ) → Begins p → Begins q → p < q → p + span g img p ≤ q
  begins-apart p q h k l =
      let v = begins-live g img p h in
      let w = begins-live g img q k in
      let a = ok.apart v.0 w.0 v.1 w.1 (omega (arith, v.2, w.2)) in
      subst (λ (o : ℕ). o + span g img o ≤ q) v.2 (omega (arith, a, w.2))

  -- messages of different slots have no byte in common
  pub live-apart : (i j : ℕ) → Live g img i → Live g img j → (i ≡ j → ⊥)
      → Apart (start_at g img i) (span g img (start_at g img i)) (start_at g img j) (span g img (start_at g img j))
  live-apart i j v w n =
      by_le (suc (start_at g img i)) (start_at g img j)
      (λ l. inl (ok.apart i j v w l))
      (λ l. by-eq (start_at g img i) (start_at g img j)
      (λ e. absurd (n (ok.alone i j v w e)))
      (λ e. inr (ok.apart j i w v (omega arith))))

  pub length-block : (p : ℕ) → Begins p → length (block_at g img p) ≡ span g img p
  length-block p h =
      ap length (block-yes g img p h)
      ∙ part_length img p (span g img p) (omega (arith, begins-end p h, ok.free-high))

  -- the messages that begin at these places lie between r and q
  abbrev Between : ℕ → ℕ → ℕ → ℕ → Type 0
  Between n p r q = (k : ℕ) → p ≤ k → k < p + n → Begins k → (r ≤ k) × (k + span g img k ≤ q)

  -- behind one that begins they lie behind its end
  between-on : (n p r q : ℕ) → Begins p → Between (suc n) p r q → Between n (suc p) (p + span g img p) q
  between-on n p r q h b k lo hi hk = (begins-apart p k h hk (omega arith), (b k (omega arith) (omega arith) hk).1)

  between-skip : (n p r q : ℕ) → Between (suc n) p r q → Between n (suc p) r q
  between-skip n p r q b k lo hi hk = b k (omega arith) (omega arith) hk

  from-yes : (n p : ℕ) → Begins p
      → packed_from g img (suc n) p ≡ part img p (span g img p) ++ packed_from g img n (suc p)
  unfolding packed_from
  from-yes n p h = ap (λ (x : Bytes). x ++ packed_from g img n (suc p)) (block-yes g img p h)

  from-no : (n p : ℕ) → begins_at g img p ≡ false → packed_from g img (suc n) p ≡ packed_from g img n (suc p)
  unfolding packed_from
  from-no n p h = ap (λ (x : Bytes). x ++ packed_from g img n (suc p)) (block_no g img p h)

  length-yes : (n p : ℕ) → Begins p
      → length (packed_from g img (suc n) p) ≡ span g img p + length (packed_from g img n (suc p))
  unfolding packed_from
  length-yes n p h =
      length-append (block_at g img p) (packed_from g img n (suc p))
      ∙ ap (λ (m : ℕ). m + length (packed_from g img n (suc p))) (length-block p h)

  -- they pack into what lies between
  pub packed-between : (n p r q : ℕ) → r ≤ q → Between n p r q → r + length (packed_from g img n p) ≤ q
  packed-between zero p r q l b = unfold packed_from in omega arith
  packed-between (suc n) p r q l b =
      by_bool (begins_at g img p)
      (λ h.
      let here = b p (omega arith) (omega arith) h in
      let ih = packed-between n (suc p) (p + span g img p) q here.1 (between-on n p r q h b) in
      omega (arith, length-yes n p h, ih, here.0))
      (λ h.
      let ih = packed-between n (suc p) r q l (between-skip n p r q b) in
      omega (arith, ap length (from-no n p h), ih))

  -- what is packed below a message ends at most where it begins
  pub below-fits : (q : ℕ) → Begins q → g.D + length (packed_below g img q) ≤ q
  unfolding packed_below
  below-fits q h =
      packed-between (q - g.D) g.D g.D q (begins-low q h)
      (λ k lo hi hk. (lo, begins-apart k q hk h (omega (arith, begins-low q h))))

  -- X does not grow
  pub end_fits : packed_end g img ≤ field img free_field
  unfolding packed_end packed packed_below
  end_fits =
      packed-between (field img free_field - g.D) g.D g.D (field img free_field) ok.free-low
      (λ k lo hi hk. (lo, begins-end k hk))

  -- ---- where a message stands among those packed

  module _ (o : ℕ) (h : Begins o) (r : ℕ) (l : o < r) where
    abbrev rest : Bytes
    rest = packed_from g img (r - suc o) (suc o)

    parted : packed_below g img r ≡ packed_below g img o ++ (part img o (span g img o) ++ rest)
    parted =
        below-here g img o r (begins-low o h) l
        ∙ ap (λ (x : Bytes). packed_below g img o ++ (x ++ rest)) (block-yes g img o h)

    size : length (part img o (span g img o)) ≡ span g img o
    size = part_length img o (span g img o) (omega (arith, begins-end o h, ok.free-high))

    pub length-parted : length (packed_below g img r) ≡ length (packed_below g img o) + (span g img o + length rest)
    length-parted =
        ap length parted
        ∙ length-append (packed_below g img o) (part img o (span g img o) ++ rest)
        ∙ ap (λ (n : ℕ). length (packed_below g img o) + n)
        (length-append (part img o (span g img o)) rest ∙ ap (λ (n : ℕ). n + length rest) size)

    pub packed-at : part (packed_below g img r) (length (packed_below g img o)) (span g img o) ≡ part img o (span g img o)
    packed-at =
        unfold part in
        (ap (λ (x : Bytes). take (span g img o) (drop (length (packed_below g img o)) x)) (unfold part in parted)
        ∙ ap (take (span g img o)) (drop_at (packed_below g img o) _ (length (packed_below g img o)) refl)
        ∙ take_at _ rest (span g img o) (unfold part in size))

  -- the order of their offsets is kept, and they have no byte in common
  pub packed-order : (o o' : ℕ) → Begins o → Begins o' → o < o'
      → packed_offset g img o + span g img o ≤ packed_offset g img o'
  unfolding packed_offset
  packed-order o o' h h' l =
      rw (begins-active g img o h, begins-active g img o' h') (omega (arith, length-parted o h o' l))

  -- a message ends at or below the new X
  pub packed-end : (o : ℕ) → Begins o → packed_offset g img o + span g img o ≤ packed_end g img
  unfolding packed_offset packed_end packed
  packed-end o h =
      rw (begins-active g img o h)
      (omega (
        arith,
        length-parted o h (field img free_field) (omega (arith, begins-end o h, span-some g img o)),
      ))

  -- ---- where there is no gap, what is packed stands there already

  packed-tight : (n p r q : ℕ) → r ≤ q → Between n p r q → r + length (packed_from g img n p) ≡ q
      → packed_from g img n p ≡ part img r (q - r)
  packed-tight zero p r q l b e =
      unfold packed_from part in
      (let z : 0 ≡ q - r = omega arith in ap (λ (m : ℕ). take m (drop r img)) z)
  packed-tight (suc n) p r q l b e =
      let ih : (h : Begins p) → p + span g img p + length (packed_from g img n (suc p)) ≡ q
      → packed_from g img n (suc p) ≡ part img (p + span g img p) (q - (p + span g img p))
      = λ h e'.
      packed-tight n (suc p) (p + span g img p) q (b p (omega arith) (omega arith) h).1 (between-on n p r q h b) e' in
      let ih' : length (packed_from g img n (suc p)) ≡ length (packed_from g img (suc n) p)
      → packed_from g img n (suc p) ≡ part img r (q - r)
      = λ e'. packed-tight n (suc p) r q l (between-skip n p r q b) (omega arith) in
      by_bool (begins_at g img p)
      (λ h.
      let here = b p (omega arith) (omega arith) h in
      let fits = packed-between n (suc p) (p + span g img p) q here.1 (between-on n p r q h b) in
      let at : p ≡ r = omega (arith, length-yes n p h, fits, here.0) in
      let two : q - r ≡ span g img p + (q - (p + span g img p)) = omega (arith, here.1) in
      from-yes n p h
      ∙ ap (λ (x : Bytes). part img p (span g img p) ++ x) (ih h (omega (arith, length-yes n p h)))
      ∙ sym (part-add img p (span g img p) (q - (p + span g img p)))
      ∙ ap₂ (part img) at (sym two))
      (λ h. from-no n p h ∙ ih' (sym (ap length (from-no n p h))))

  -- all of them, where X is the new X
  module _ (tight : packed_end g img ≡ field img free_field) where
    pub tight-bytes : packed g img ≡ part img g.D (field img free_field - g.D)
    unfolding packed_end packed packed_below
    tight-bytes =
        packed-tight (field img free_field - g.D) g.D g.D (field img free_field) ok.free-low
        (λ k lo hi hk. (lo, begins-end k hk)) tight

    pub tight-at : (o : ℕ) → Begins o → packed_offset g img o ≡ o
    unfolding packed_offset packed_end packed
    tight-at o h =
        let X = field img free_field in
        let l : o < X = omega (arith, begins-end o h, span-some g img o) in
        let behind =
        packed-between (X - suc o) (suc o) (o + span g img o) X (begins-end o h)
        (λ k lo hi hk. (begins-apart o k h hk (omega arith), begins-end k hk)) in
        rw (begins-active g img o h) (omega (arith, length-parted o h X l, behind, below-fits o h, tight))

-- ---- how many bytes they have

-- the bytes of a slot's active message
unfoldable pub active_span : Layout → Bytes → Bytes → ℕ
active_span g img s = cond (is_active img (offset_of g s)) (span g img (offset_of g s)) 0

length_from : (g : Layout) (img : Bytes) (n p : ℕ)
    → length (packed_from g img n p) ≡ total (λ k. length (block_at g img (p + k))) n
unfolding packed_from total
length_from g img zero p = refl
length_from g img (suc n) p =
    let ih : length (packed_from g img n p) ≡ total (λ k. length (block_at g img (p + k))) n = length_from g img n p in
    let one : suc n ≡ n + 1 = omega arith in
    let last : packed_from g img (suc n) p ≡ packed_from g img n p ++ (block_at g img (p + n) ++ [])
    = ap (λ (m : ℕ). packed_from g img m p) one ∙ from-split g img n 1 p in
    ap length last
    ∙ length-append (packed_from g img n p) (block_at g img (p + n) ++ [])
    ∙ ap₂ ◌+◌ ih (ap length (append-nil (block_at g img (p + n))))

module _ (g : Layout) (img : Bytes) (ok : Stretches g img) where
  abbrev here? : ℕ → ℕ → Bool
  here? p i = taken g img i && eqb (start_at g img i) p

  -- the bytes of the message at p, if it is one of the first n slots'
  abbrev sized : ℕ → ℕ → ℕ
  sized n p = cond (is_active img p && some_below (here? p) n) (span g img p) 0

  sized-all : (p : ℕ) → length (block_at g img p) ≡ sized g.N p
  unfolding begins_at
  sized-all p =
      by_bool (is_active img p && some_below (here? p) g.N)
      (λ h. length-block g img ok p h ∙ sym (rw h refl))
      (λ h. ap length (block_no g img p h) ∙ sym (rw h refl))

  -- one slot more changes nothing, but at its own message
  sized-other : (n p : ℕ) → here? p n ≡ false → sized (suc n) p ≡ sized n p
  unfolding some_below
  sized-other n p e = rw e refl

  sized-inactive : (n p : ℕ) → is_active img p ≡ false → sized n p ≡ 0
  sized-inactive n p e = rw e refl

  sized-here : (n : ℕ) → Live g img n → sized (suc n) (start_at g img n) ≡ span g img (start_at g img n)
  unfolding some_below
  sized-here n v = rw (v.active, v.is, eq-eqb (start_at g img n) (start_at g img n) refl) refl

  -- no lower slot has the same message
  sized_new : (n : ℕ) → Live g img n → sized n (start_at g img n) ≡ 0
  sized_new n v =
      let o = start_at g img n in
      by_bool (some_below (here? o) n)
      (λ y.
      let w = some-which (here? o) n y in
      let j = w.0 in
      let lj : j < n = w.1 in
      let e : start_at g img j ≡ o =
      eqb-true (start_at g img j) o (and_right (taken g img j) (eqb (start_at g img j) o) w.2) in
      let u : Live g img j =
      record {
        low = omega (arith, v.low);
        is = and_left (taken g img j) (eqb (start_at g img j) o) w.2;
        active = ap (is_active img) e ∙ v.active;
      } in
      absurd (omega (arith, ok.alone j n u v e)))
      (λ h. rw (v.active, h) refl)

  weigh-live : (i : ℕ) → Live g img i → weigh g (active_span g img) (slot g img i) ≡ span g img (start_at g img i)
  unfolding weigh active_span taken
  weigh-live i v = rw (not-true (vacant g (slot g img i)) v.is, v.active) refl

  weigh-not : (i : ℕ) → (taken g img i && is_active img (start_at g img i)) ≡ false
      → weigh g (active_span g img) (slot g img i) ≡ 0
  unfolding weigh active_span taken
  weigh-not i h =
      by_bool (vacant g (slot g img i))
      (λ v. rw v refl)
      (λ v. by_bool (is_active img (start_at g img i))
      (λ a. absurd (not-both (not (vacant g (slot g img i)) && is_active img (start_at g img i)) (rw (v, a) refl) h))
      (λ a. rw (v, a) refl))

  abbrev places : ℕ
  places = field img free_field - g.D

  abbrev summed : ℕ → ℕ
  summed n = total (λ k. sized n (g.D + k)) places

  sum-live : (n : ℕ) → Live g img n → summed (suc n) ≡ summed n + span g img (start_at g img n)
  sum-live n s =
      let o = start_at g img n in
      let at : g.D + (o - g.D) ≡ o = omega (arith, ok.low n s) in
      let change =
      total-change (λ k. sized (suc n) (g.D + k)) (λ k. sized n (g.D + k)) places (o - g.D)
      (omega (arith, ok.low n s, ok.end n s, span-some g img o))
      (λ j lj nj. sized-other n (g.D + j)
      (ap (λ (b : Bool). taken g img n && b) (ne_eqb o (g.D + j) (λ q. nj (omega arith)))
      ∙ and-false (taken g img n))) in
      omega (
        arith,
        change,
        ap (sized (suc n)) at,
        ap (sized n) at,
        sized-here n s,
        sized_new n s,
      )
    where
      and-false : (b : Bool) → (b && false) ≡ false
      and-false true = refl
      and-false false = refl

  sum-not : (n : ℕ) → (taken g img n && is_active img (start_at g img n)) ≡ false → summed (suc n) ≡ summed n
  sum-not n h =
      total-same (λ k. sized (suc n) (g.D + k)) (λ k. sized n (g.D + k)) places
      (λ k l. by_bool (here? (g.D + k) n)
      (λ y.
      let t = and_left (taken g img n) (eqb (start_at g img n) (g.D + k)) y in
      let e = eqb-true (start_at g img n) (g.D + k) (and_right (taken g img n) (eqb (start_at g img n) (g.D + k)) y) in
      by_bool (is_active img (start_at g img n))
      (λ a. absurd (not-both (taken g img n && is_active img (start_at g img n)) (and-true _ _ t a) h))
      (λ a.
      let q : is_active img (g.D + k) ≡ false = ap (is_active img) (sym e) ∙ a in
      sized-inactive (suc n) (g.D + k) q ∙ sym (sized-inactive n (g.D + k) q)))
      (λ m. sized-other n (g.D + k) m))

  sum-slots : (n : ℕ) → n ≤ g.N → summed n ≡ total (λ i. weigh g (active_span g img) (slot g img i)) n
  unfolding total some_below
  sum-slots zero l =
      total-same (λ k. sized 0 (g.D + k)) (λ k. 0) places (λ k m. none' (is_active img (g.D + k)) _)
      ∙ omega (arith, total-const 0 places)
    where
      none' : (b : Bool) (m : ℕ) → cond (b && false) m 0 ≡ 0
      none' true m = refl
      none' false m = refl
  sum-slots (suc n) l =
      let ih : summed n ≡ total (λ i. weigh g (active_span g img) (slot g img i)) n = sum-slots n (omega arith) in
      by_bool (taken g img n && is_active img (start_at g img n))
      (λ y.
      let s : Live g img n =
      record {
        low = omega arith;
        is = and_left (taken g img n) (is_active img (start_at g img n)) y;
        active = and_right (taken g img n) (is_active img (start_at g img n)) y;
      } in
      omega (arith, ih, sum-live n s, weigh-live n s))
      (λ m. omega (arith, ih, sum-not n m, weigh-not n m))

  pub packed-weight : length (packed g img) ≡ weight g img (active_span g img)
  unfolding packed packed_below weight
  packed-weight =
      length_from g img places g.D
      ∙ total-same (λ k. length (block_at g img (g.D + k))) (λ k. sized g.N (g.D + k)) places
      (λ k l. sized-all (g.D + k))
      ∙ sum-slots g.N (omega arith)
