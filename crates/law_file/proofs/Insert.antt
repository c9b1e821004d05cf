-- Edits by key: what a slot put where a search ended does to the table.
--     Stands g img s      some taken slot holds the bytes s
--     entry-taken, entry-stands, entry_absent      what a key's slot holds, and what stands in the table
--     same_entries      two tables in which the same stands answer a key alike
--     insert-..      a slot put where the search met a vacant slot
--     replace-..     a slot put where the search met the key
--     count-taken    the number of taken slots, as a weight
-- Assumes nothing.
use mathlib.Core.Path.{◌≡◌, refl, sym, ap, ◌∙◌, subst}
use Prim.Native.Nat.{ℕ, zero, suc, ◌+◌, ◌<◌}
use native.Mathlib.Nat.{add-zero, zero-add}
use native.Mathlib.Omega.{arith}
use mathlib.Core.Bool.{Bool, true, false, cond, not}
use mathlib.Core.Option.{none, some}
use mathlib.Core.Logic.{◌↔◌}
use lib.ListN.{length}
use Rattle.spec_file.specs.Bytes.{Bytes, all_zero}
use Rattle.spec_file.specs.Image.{Layout, slot, put_slot, slot_size, key_of, vacant, home}
use Rattle.spec_file.specs.Search.{met, empty, exhausted, dist, search}
use Rattle.spec_file.specs.Inspect.{taken, taken_from}
use Rattle.law_file.proofs.Tests.{by-eq, not-both}
use Rattle.law_file.proofs.Slots.{Room, slot-put_slot-same, slot-put_slot-other}
use Rattle.law_file.proofs.Total.{total, total-same}
use Rattle.law_file.proofs.Spread.{over, over-put_slot}
use Rattle.law_file.proofs.Table.{Taken, key_at, Findable, slot_met, entry_of, weigh, weight}
use Rattle.law_file.proofs.Probe.{vacant-key, search-met, search-empty, by-search, met-taken, search-finds, search-keys}

-- some taken slot holds the bytes s
abbrev pub Stands : Layout → Bytes → Bytes → Type 0
Stands g img s = (k : ℕ) × (k < g.N) × Taken g img k × (slot g img k ≡ s)

-- ---- entries

module _ (g : Layout) (img key : Bytes) where
  pub entry-met : (i : ℕ) → search g img key ≡ met i → entry_of g img key ≡ some (slot g img i)
  unfolding entry_of slot_met
  entry-met i e = ap (slot_met g img) e

  pub entry-empty : (i : ℕ) → search g img key ≡ empty i → entry_of g img key ≡ none
  unfolding entry_of slot_met
  entry-empty i e = ap (slot_met g img) e

  pub entry-exhausted : search g img key ≡ exhausted → entry_of g img key ≡ none
  unfolding entry_of slot_met
  entry-exhausted e = ap (slot_met g img) e

module _ (g : Layout) (img key : Bytes) (pos : 0 < g.N) where
  -- the search meets the key, or the key has no entry
  by-entry {ℓ} : {A : Type ℓ} → ((i : ℕ) → search g img key ≡ met i → A) → (entry_of g img key ≡ none → A) → A
  by-entry yes' no' =
      by-search g img key pos yes' (λ i e. no' (entry-empty g img key i e)) (λ e. no' (entry-exhausted g img key e))

  -- where a key that is not all zero is met, its slot stands in the table
  pub met-stands : (i : ℕ) → all_zero key ≡ false → search g img key ≡ met i → Stands g img (slot g img i)
  met-stands i z e = (i, (search-met g img key pos i e).0, met-taken g img key pos i z e, refl)

  pub entry-stands : (s : Bytes) → Findable g img → key_of g s ≡ key → Stands g img s → entry_of g img key ≡ some s
  entry-stands s ok k t =
      entry-met g img key t.0
      (search-finds g img key pos t.0 ok t.1 t.2 (ap (key_of g) t.3 ∙ k))
      ∙ ap some t.3

  pub entry_absent : ((k : ℕ) → k < g.N → Taken g img k → key_at g img k ≡ key → ⊥) → all_zero key ≡ false
      → entry_of g img key ≡ none
  entry_absent n z =
      by-entry
      (λ i e. absurd (n i (search-met g img key pos i e).0 (met-taken g img key pos i z e)
      (search-met g img key pos i e).1))
      (λ none'. none')

-- a taken slot of a table in which all are found is what its key's search meets
pub entry-taken : (g : Layout) (img : Bytes) (i : ℕ) → 0 < g.N → Findable g img → i < g.N → Taken g img i
    → entry_of g img (key_at g img i) ≡ some (slot g img i)
entry-taken g img i pos ok l t =
    entry-stands g img (key_at g img i) pos (slot g img i) ok refl (i, l, t, refl)

-- two such tables in which the same slots of a key stand answer the key alike
pub same_entries : (g : Layout) (img img' key : Bytes) → 0 < g.N → Findable g img → Findable g img'
    → all_zero key ≡ false
    → ((s : Bytes) → key_of g s ≡ key → Stands g img s ↔ Stands g img' s)
    → entry_of g img' key ≡ entry_of g img key
same_entries g img img' key pos ok ok' z both =
    by-entry g img key pos
    (λ i e.
    let k : key_at g img i ≡ key = (search-met g img key pos i e).1 in
    entry-stands g img' key pos (slot g img i) ok' k ((both (slot g img i) k).0 (met-stands g img key pos i z e))
    ∙ sym (entry-met g img key i e))
    (λ n.
    by-entry g img' key pos
    (λ j f.
    let k : key_at g img' j ≡ key = (search-met g img' key pos j f).1 in
    entry-met g img' key j f
    ∙ sym (entry-stands g img key pos (slot g img' j) ok k
    ((both (slot g img' j) k).1 (met-stands g img' key pos j z f))))
    (λ n'. n' ∙ sym n))

-- ---- weights

module _ (g : Layout) (w : Bytes → ℕ) (s : Bytes) where
  pub weigh-taken : vacant g s ≡ false → weigh g w s ≡ w s
  unfolding weigh
  weigh-taken v = rw v

  pub weigh-vacant : vacant g s ≡ true → weigh g w s ≡ 0
  unfolding weigh
  weigh-vacant v = rw v

pub weight-frame : (g : Layout) (img img' : Bytes) (w : Bytes → ℕ)
    → ((k : ℕ) → k < g.N → slot g img' k ≡ slot g img k) → weight g img' w ≡ weight g img w
unfolding weight
weight-frame g img img' w f =
    total-same (λ i. weigh g w (slot g img' i)) (λ i. weigh g w (slot g img i)) g.N
    (λ i l. ap (weigh g w) (f i l))

-- one slot put: the weight changes by what that slot weighs
pub weight-put_slot : (g : Layout) (img : Bytes) (i : ℕ) (s : Bytes) (w : Bytes → ℕ) → Room g (length img) → i < g.N
    → length s ≡ slot_size g → weight g (put_slot g img i s) w + weigh g w (slot g img i) ≡ weight g img w + weigh g w s
unfolding weight over
weight-put_slot g img i s w room l fits = over-put_slot g img room (λ j b. weigh g w b) i s l fits

-- ---- a table whose slots' keys are those of one in which all are found is such a one

pub findable-keys : (g : Layout) (img img' : Bytes) → ((k : ℕ) → k < g.N → key_at g img' k ≡ key_at g img k)
    → Findable g img → Findable g img'
findable-keys g img img' f ok =
    record {
      paths = λ i k il kl t d.
          vac k kl
          ∙ ok.paths i k il kl (sym (vac i il) ∙ t)
          (subst (λ (b : Bytes). dist g.N (home g b) k < dist g.N (home g b) i) (f i il) d);
      distinct = λ i j il jl ti tj e.
          ok.distinct i j il jl (sym (vac i il) ∙ ti) (sym (vac j jl) ∙ tj) (sym (f i il) ∙ e ∙ f j jl);
    }
  where
    vac : (k : ℕ) → k < g.N → vacant g (slot g img' k) ≡ vacant g (slot g img k)
    vac k l = unfold vacant in ap all_zero (f k l)

-- ---- a slot put where the search met a vacant slot

module _ (g : Layout) (img key : Bytes) (i : ℕ) (s : Bytes) (room : Room g (length img)) (pos : 0 < g.N)
    (ok : Findable g img) (fits : length s ≡ slot_size g) (k : key_of g s ≡ key) (z : all_zero key ≡ false)
    (e : search g img key ≡ empty i) where
  il : i < g.N
  il = (search-empty g img key pos i e).0

  here : slot g (put_slot g img i s) i ≡ s
  here = slot-put_slot-same g img room i s il fits

  there : (j : ℕ) → (j ≡ i → ⊥) → slot g (put_slot g img i s) j ≡ slot g img j
  there j n = slot-put_slot-other g img room i s j il fits n

  key_here : (j : ℕ) → j ≡ i → key_at g (put_slot g img i s) j ≡ key
  key_here j q = ap (key_at g (put_slot g img i s)) q ∙ ap (key_of g) here ∙ k

  key-there : (j : ℕ) → (j ≡ i → ⊥) → key_at g (put_slot g img i s) j ≡ key_at g img j
  key-there j n = ap (key_of g) (there j n)

  -- the new slot is taken; elsewhere the taken slots are the same
  new-taken : (j : ℕ) → j ≡ i → Taken g (put_slot g img i s) j
  new-taken j q = vacant-key g (put_slot g img i s) key j (key_here j q) ∙ z

  old-taken : (j : ℕ) → (j ≡ i → ⊥) → Taken g (put_slot g img i s) j → Taken g img j
  old-taken j n t = ap (vacant g) (sym (there j n)) ∙ t

  still-taken : (j : ℕ) → (j ≡ i → ⊥) → Taken g img j → Taken g (put_slot g img i s) j
  still-taken j n t = ap (vacant g) (there j n) ∙ t

  -- no taken slot had the key
  no_other : (j : ℕ) → j < g.N → Taken g img j → key_at g img j ≡ key → ⊥
  no_other j l t q =
      let f : search g img key ≡ met j = search-finds g img key pos j ok l t q in
      let y : ◌≡◌ {A = ℕ} 0 1 = cc in
      omega arith

  pub insert-findable : Findable g (put_slot g img i s)
  insert-findable =
      record {
        paths = λ a b al bl ta d.
            by-eq b i (λ q. new-taken b q)
            (λ n. still-taken b n (by-eq a i
            (λ q. ((search-empty g img key pos i e).2 b bl
            (subst (λ (x : ℕ). dist g.N (home g key) b < dist g.N (home g key) x) q
            (subst (λ (x : Bytes). dist g.N (home g x) b < dist g.N (home g x) a) (key_here a q) d))).0)
            (λ q. ok.paths a b al bl (old-taken a q ta)
            (subst (λ (x : Bytes). dist g.N (home g x) b < dist g.N (home g x) a) (key-there a q) d))));
        distinct = λ a b al bl ta tb f.
            by-eq a i
            (λ q. by-eq b i (λ r. q ∙ sym r)
            (λ r. absurd (no_other b bl (old-taken b r tb) (sym (key-there b r) ∙ sym f ∙ key_here a q))))
            (λ q. by-eq b i
            (λ r. absurd (no_other a al (old-taken a q ta) (sym (key-there a q) ∙ f ∙ key_here b r)))
            (λ r. ok.distinct a b al bl (old-taken a q ta) (old-taken b r tb)
            (sym (key-there a q) ∙ f ∙ key-there b r)));
      }

  pub insert_entry : entry_of g (put_slot g img i s) key ≡ some s
  insert_entry =
      entry-stands g (put_slot g img i s) key pos s insert-findable k (i, il, new-taken i refl, here)

  pub insert-other : (key' : Bytes) → (key' ≡ key → ⊥) → all_zero key' ≡ false
      → entry_of g (put_slot g img i s) key' ≡ entry_of g img key'
  insert-other key' n z' =
      same_entries g img (put_slot g img i s) key' pos ok insert-findable z' (λ s' k'. (before s', after s' k'))
    where
      -- the slot of a taken one is another than the vacant one
      before : (s' : Bytes) → Stands g img s' → Stands g (put_slot g img i s) s'
      before s' t =
          let m : t.0 ≡ i → ⊥ = λ q. not-both (vacant g (slot g img i)) (search-empty g img key pos i e).1
          (ap (λ (x : ℕ). vacant g (slot g img x)) (sym q) ∙ t.2) in
          (t.0, t.1, still-taken t.0 m t.2, there t.0 m ∙ t.3)

      after : (s' : Bytes) → key_of g s' ≡ key' → Stands g (put_slot g img i s) s' → Stands g img s'
      after s' k' t =
          let m : t.0 ≡ i → ⊥ = λ q. n (sym k' ∙ ap (key_of g) (sym t.3) ∙ key_here t.0 q) in
          (t.0, t.1, old-taken t.0 m t.2, sym (there t.0 m) ∙ t.3)

  pub insert-weight : (w : Bytes → ℕ) → weight g (put_slot g img i s) w ≡ weight g img w + w s
  insert-weight w =
      omega (
        arith,
        weight-put_slot g img i s w room il fits,
        weigh-vacant g w (slot g img i) (search-empty g img key pos i e).1,
        weigh-taken g w s (ap (vacant g) (sym here) ∙ new-taken i refl),
      )

-- ---- a slot put where the search met the key

module _ (g : Layout) (img key : Bytes) (i : ℕ) (s : Bytes) (room : Room g (length img)) (pos : 0 < g.N)
    (fits : length s ≡ slot_size g) (k : key_of g s ≡ key) (e : search g img key ≡ met i) where
  met-lt : i < g.N
  met-lt = (search-met g img key pos i e).0

  -- every slot has the key that it had
  kept-key : (j : ℕ) → j < g.N → key_at g (put_slot g img i s) j ≡ key_at g img j
  kept-key j l =
      by-eq j i
      (λ q.
      ap (key_at g (put_slot g img i s)) q ∙ ap (key_of g) (slot-put_slot-same g img room i s met-lt fits)
      ∙ k ∙ sym (search-met g img key pos i e).1 ∙ ap (key_at g img) (sym q))
      (λ n. ap (key_of g) (slot-put_slot-other g img room i s j met-lt fits n))

  pub replace-search : (key' : Bytes) → search g (put_slot g img i s) key' ≡ search g img key'
  replace-search key' = search-keys g img (put_slot g img i s) key' pos kept-key

  pub replace-findable : Findable g img → Findable g (put_slot g img i s)
  replace-findable ok = findable-keys g img (put_slot g img i s) kept-key ok

  pub replace-entry : entry_of g (put_slot g img i s) key ≡ some s
  replace-entry =
      entry-met g (put_slot g img i s) key i (replace-search key ∙ e)
      ∙ ap some (slot-put_slot-same g img room i s met-lt fits)

  pub replace-other : (key' : Bytes) → (key' ≡ key → ⊥) → entry_of g (put_slot g img i s) key' ≡ entry_of g img key'
  replace-other key' n =
      by-search g img key' pos
      (λ j f.
      let m : j ≡ i → ⊥ = λ q.
      n (sym (search-met g img key' pos j f).1 ∙ ap (key_at g img) q ∙ (search-met g img key pos i e).1) in
      entry-met g (put_slot g img i s) key' j (replace-search key' ∙ f)
      ∙ ap some (slot-put_slot-other g img room i s j met-lt fits m)
      ∙ sym (entry-met g img key' j f))
      (λ j f. entry-empty g (put_slot g img i s) key' j (replace-search key' ∙ f) ∙ sym (entry-empty g img key' j f))
      (λ f. entry-exhausted g (put_slot g img i s) key' (replace-search key' ∙ f) ∙ sym (entry-exhausted g img key' f))

  pub replace-weight : all_zero key ≡ false → (w : Bytes → ℕ)
      → weight g (put_slot g img i s) w + w (slot g img i) ≡ weight g img w + w s
  replace-weight z w =
      omega (
        arith,
        weight-put_slot g img i s w room met-lt fits,
        weigh-taken g w (slot g img i) (met-taken g img key pos i z e),
        weigh-taken g w s (unfold vacant in (ap all_zero k ∙ z)),
      )

-- ---- the number of taken slots

abbrev ones : Layout → Bytes → ℕ → ℕ
ones g img j = weigh g (λ s. 1) (slot g img j)

one-taken : (g : Layout) (img : Bytes) (i : ℕ) → cond (taken g img i) 1 0 ≡ ones g img i
unfolding taken weigh
one-taken g img i = go (vacant g (slot g img i))
  where
    go : (b : Bool) → ◌≡◌ {A = ℕ} (cond (not b) 1 0) (cond b 0 1)
    go true = refl
    go false = refl

-- those from i on, and those below i
taken-total : (g : Layout) (img : Bytes) (n i : ℕ)
    → taken_from g img n i + total (ones g img) i ≡ total (ones g img) (i + n)
unfolding taken_from total
taken-total g img zero i = rw (add-zero i) (zero-add (total (ones g img) i))
taken-total g img (suc n) i =
    let ih : taken_from g img n (suc i) + (total (ones g img) i + ones g img i) ≡ total (ones g img) (suc i + n)
    = taken-total g img n (suc i) in
    let at : suc i + n ≡ i + suc n = omega arith in
    omega (arith, one-taken g img i, ap (total (ones g img)) at)

pub count-taken : (g : Layout) (img : Bytes) → taken_from g img g.N 0 ≡ weight g img (λ s. 1)
unfolding weight total
count-taken g img =
    let all : taken_from g img g.N 0 + 0 ≡ total (ones g img) (0 + g.N) = taken-total g img g.N 0 in
    omega (arith, ap (total (ones g img)) (zero-add g.N))
