-- Which slot is chosen, on any image bytes.
--     named-key, key-bytes      a key of bytes is the name with its own epoch if and only if it begins with the name;
--                     the keys of an image of bytes are such
--     eligible-taken, eligible-key, eligible-at-most, eligible-yes      an entry of the name with an epoch at most t
--     latest-on, latest-end      one slot looked at, as a loop from i up to n has it
--     Leads n s       of the slots below n, s is the one with the largest epoch, the lowest if two; or there is none
--     chosen-leads    so of all N, the chosen one
--     leads-one       no other slot is so
-- Assumes nothing.
use mathlib.Core.Path.{◌≡◌, refl, sym, ap, ap₂, ◌∙◌, subst}
use Prim.Native.Nat.{ℕ, zero, suc, ◌+◌, ◌-◌, ◌≤◌, ◌<◌}
use native.Mathlib.Omega.{arith}
use mathlib.Core.Bool.{Bool, true, false, cond, not}
use mathlib.Core.List.{◌++◌}
use lib.ListN.{length, take, drop, length-drop, take-append-drop}
use lib.Seq.{take_at}
use lib.Dec.{leb}
use borrow.Author.Tests.{leb-true, le-leb, lt-leb, not-true}
use Rattle.spec_file.specs.Bytes.{Bytes, part, number, digits, same}
use Rattle.spec_file.specs.Image.{Layout, slot_size, slot_start, slot, key_of, vacant}
use Rattle.spec_file.specs.Search.{Probe, met, empty, exhausted, is_met, slot_of}
use Rattle.spec_file.specs.Inspect.{taken}
use Rattle.law_file.proofs.Tests.{by_bool, by_le, by-eq, and_left, and_right, and-true, not-both}
use Rattle.law_file.proofs.Bytes.{AreBytes, digits_number, take-bytes, drop-bytes, same_true, same_refl, by-same}
use Rattle.law_file.proofs.Table.{Taken, key_at}
use Rattle.spec_epoch.specs.Epochs.{epoch_size, epoch_of, dated_key, dated_by, epoch_at, eligible, later, latest, chosen}

-- ---- keys

-- a key of bytes is the name with its own epoch if and only if it begins with the name
pub named-key : (key name : Bytes) → AreBytes key → length key ≡ length name + epoch_size
    → same key (dated_key name (epoch_of (length key) key)) ≡ same (take (length name) key) name
unfolding dated_key epoch_of
named-key key name h l =
    by-same (take (length name) key) name
    (λ q.
    same-yes key (name ++ digits epoch_size (number rest)) (sym split ∙ ap₂ ◌++◌ q (sym rest-is))
    ∙ sym (same-yes (take (length name) key) name q))
    (λ z.
    same-no key (name ++ digits epoch_size (number rest))
    (λ q. z (ap (take (length name)) q ∙ take_at name (digits epoch_size (number rest)) (length name) refl))
    ∙ sym (same-no (take (length name) key) name z))
  where
    after' : length key - epoch_size ≡ length name
    after' = omega arith

    rest : Bytes
    rest = drop (length key - epoch_size) key

    split : take (length name) key ++ rest ≡ key
    split =
        ap (λ (n : ℕ). take (length name) key ++ drop n key) after' ∙ take-append-drop (length name) key

    four : length rest ≡ epoch_size
    four = length-drop (length key - epoch_size) key ∙ omega arith

    rest-is : digits epoch_size (number rest) ≡ rest
    rest-is =
        ap (λ (n : ℕ). digits n (number rest)) (sym four)
        ∙ digits_number rest (drop-bytes (length key - epoch_size) key h)

    same-yes : (x y : Bytes) → x ≡ y → same x y ≡ true
    same-yes x y q = ap (same x) (sym q) ∙ same_refl x

    same-no : (x y : Bytes) → (x ≡ y → ⊥) → same x y ≡ false
    same-no x y z = by_bool (same x y) (λ t. absurd (z (same_true x y t))) (λ t. t)

-- the keys of an image of bytes are bytes
pub key-bytes : (g : Layout) (img : Bytes) → AreBytes img → (i : ℕ) → AreBytes (key_at g img i)
unfolding key_of slot part
key-bytes g img h i =
    take-bytes g.K (slot g img i)
    (take-bytes (slot_size g) (drop (slot_start g i) img) (drop-bytes (slot_start g i) img h))

module _ (K : ℕ) (name : Bytes) (t : ℕ) (key : Bytes) where
  pub dated-key : dated_by K name t key ≡ true → key ≡ dated_key name (epoch_of K key)
  unfolding dated_by
  dated-key h =
      same_true key (dated_key name (epoch_of K key))
      (and_left (same key (dated_key name (epoch_of K key))) (leb (epoch_of K key) t) h)

  pub dated-at-most : dated_by K name t key ≡ true → epoch_of K key ≤ t
  unfolding dated_by
  dated-at-most h =
      leb-true (epoch_of K key) t
      (and_right (same key (dated_key name (epoch_of K key))) (leb (epoch_of K key) t) h)

  pub dated-yes : key ≡ dated_key name (epoch_of K key) → epoch_of K key ≤ t → dated_by K name t key ≡ true
  unfolding dated_by
  dated-yes e l =
      and-true (same key (dated_key name (epoch_of K key))) (leb (epoch_of K key) t)
      (ap (same key) (sym e) ∙ same_refl key) (le-leb (epoch_of K key) t l)

module _ (g : Layout) (img name : Bytes) (t : ℕ) where
  -- ---- entries of the name with an epoch at most t
  module _ (i : ℕ) where
    pub eligible-taken : eligible g img name t i ≡ true → Taken g img i
    unfolding eligible taken
    eligible-taken h =
        not-true (vacant g (slot g img i)) (and_left (taken g img i) (dated_by g.K name t (key_at g img i)) h)

    pub eligible-dated : eligible g img name t i ≡ true → dated_by g.K name t (key_at g img i) ≡ true
    unfolding eligible
    eligible-dated h = and_right (taken g img i) (dated_by g.K name t (key_at g img i)) h

    pub eligible-key : eligible g img name t i ≡ true → key_at g img i ≡ dated_key name (epoch_at g img i)
    unfolding epoch_at
    eligible-key h = dated-key g.K name t (key_at g img i) (eligible-dated h)

    pub eligible-at-most : eligible g img name t i ≡ true → epoch_at g img i ≤ t
    unfolding epoch_at
    eligible-at-most h = dated-at-most g.K name t (key_at g img i) (eligible-dated h)

    pub eligible-yes : Taken g img i → key_at g img i ≡ dated_key name (epoch_at g img i) → epoch_at g img i ≤ t
        → eligible g img name t i ≡ true
    unfolding eligible epoch_at taken
    eligible-yes v e l =
        and-true (taken g img i) (dated_by g.K name t (key_at g img i)) (ap not v)
        (dated-yes g.K name t (key_at g img i) e l)

  -- ---- one slot looked at
  abbrev pub looked : Probe → ℕ → Probe
  looked best i = cond (eligible g img name t i) (later g img best i) best

  pub looked-no : (best : Probe) (i : ℕ) → eligible g img name t i ≡ false → looked best i ≡ best
  looked-no best i h = ap (λ (b : Bool). cond b (later g img best i) best) h

  pub looked-yes : (best : Probe) (i : ℕ) → eligible g img name t i ≡ true → looked best i ≡ later g img best i
  looked-yes best i h = ap (λ (b : Bool). cond b (later g img best i) best) h

  -- as a loop from i up to n has it
  pub latest-on : (n i : ℕ) (best : Probe) → i < n
      → latest g img name t (n - i) i best ≡ latest g img name t (n - (i + 1)) (i + 1) (looked best i)
  unfolding latest
  latest-on n i best l =
      let q : n - i ≡ suc (n - (i + 1)) = omega arith in
      let r : suc i ≡ i + 1 = omega arith in
      ap (λ (m : ℕ). latest g img name t m i best) q
      ∙ ap (λ (k : ℕ). latest g img name t (n - (i + 1)) k (looked best i)) r

  pub latest-end : (n i : ℕ) (best : Probe) → n ≤ i → latest g img name t (n - i) i best ≡ best
  unfolding latest
  latest-end n i best l =
      let q : n - i ≡ 0 = omega arith in
      ap (λ (m : ℕ). latest g img name t m i best) q

  -- ---- the one that leads
  pub record Latest (n k : ℕ) : Type 0 where
    pub below : k < n
    pub dated : eligible g img name t k ≡ true
    pub largest : (j : ℕ) → j < n → eligible g img name t j ≡ true → epoch_at g img j ≤ epoch_at g img k
    pub lowest : (j : ℕ) → j < k → eligible g img name t j ≡ true → epoch_at g img j < epoch_at g img k

  unfoldable pub Leads : ℕ → Probe → Type 0
  Leads n (met k) = Latest n k
  Leads n (empty k) = ⊥
  Leads n exhausted = (j : ℕ) → j < n → eligible g img name t j ≡ false

  -- slot i is not of the name, or its epoch is above t
  leads-no : (i : ℕ) (s : Probe) → eligible g img name t i ≡ false → Leads i s → Leads (i + 1) s
  unfolding Leads
  leads-no i (met k) h f =
      record {
        below = omega (arith, f.below);
        dated = f.dated;
        largest = λ j l e.
            by-eq j i (λ q. absurd (not-both (eligible g img name t j) e (ap (eligible g img name t) q ∙ h)))
            (λ q. f.largest j (omega arith) e);
        lowest = f.lowest;
      }
  leads-no i (empty k) h f = f
  leads-no i exhausted h f = λ j l. by-eq j i (λ q. ap (eligible g img name t) q ∙ h) (λ q. f j (omega arith))

  -- slot i has a larger epoch than all below it that are
  leads-new : (i : ℕ) → eligible g img name t i ≡ true
      → ((j : ℕ) → j < i → eligible g img name t j ≡ true → epoch_at g img j < epoch_at g img i)
      → Latest (i + 1) i
  leads-new i h f =
      record {
        below = omega arith;
        dated = h;
        largest = λ j l e.
            by-eq j i (λ q. let s : epoch_at g img j ≡ epoch_at g img i = ap (epoch_at g img) q in omega arith)
            (λ q. let s = f j (omega arith) e in omega arith);
        lowest = f;
      }

  leads-yes : (i : ℕ) (s : Probe) → eligible g img name t i ≡ true → Leads i s → Leads (i + 1) (later g img s i)
  unfolding Leads later is_met slot_of
  leads-yes i (met k) h f =
      by_le (epoch_at g img i) (epoch_at g img k)
      (λ l.
      rw (le-leb (epoch_at g img i) (epoch_at g img k) l)
      (record {
        below = omega (arith, f.below);
        dated = f.dated;
        largest = λ j m e.
            by-eq j i (λ q. let s : epoch_at g img j ≡ epoch_at g img i = ap (epoch_at g img) q in omega arith)
            (λ q. f.largest j (omega arith) e);
        lowest = f.lowest;
      }))
      (λ l.
      rw (lt-leb (epoch_at g img i) (epoch_at g img k) l)
      (leads-new i h (λ j m e. let s = f.largest j m e in omega arith)))
  leads-yes i (empty k) h f = absurd f
  leads-yes i exhausted h f =
      leads-new i h (λ j m e. absurd (not-both (eligible g img name t j) e (f j m)))

  leads-on : (i : ℕ) (s : Probe) → Leads i s → Leads (i + 1) (looked s i)
  leads-on i s f =
      by_bool (eligible g img name t i)
      (λ h. subst (Leads (i + 1)) (sym (looked-yes s i h)) (leads-yes i s h f))
      (λ h. subst (Leads (i + 1)) (sym (looked-no s i h)) (leads-no i s h f))

  leads-all : (left i : ℕ) (s : Probe) → Leads i s → Leads (i + left) (latest g img name t left i s)
  unfolding latest
  leads-all zero i s f = subst (λ (n : ℕ). Leads n s) (omega arith) f
  leads-all (suc left) i s f =
      let r : i + 1 ≡ suc i = omega arith in
      let q : suc i + left ≡ i + suc left = omega arith in
      subst (λ (n : ℕ). Leads n (latest g img name t left (suc i) (looked s i))) q
      (leads-all left (suc i) (looked s i) (subst (λ (n : ℕ). Leads n (looked s i)) r (leads-on i s f)))

  pub chosen-leads : Leads g.N (chosen g img name t)
  unfolding chosen
  chosen-leads =
      let q : 0 + g.N ≡ g.N = omega arith in
      subst (λ (n : ℕ). Leads n (latest g img name t g.N 0 exhausted)) q
      (leads-all g.N 0 exhausted (unfold Leads in λ j l. absurd (omega arith)))

  -- two that lead are one
  pub latest-one : (n i k : ℕ) → Latest n i → Latest n k → i ≡ k
  latest-one n i k a b =
      let e = a.largest k b.below b.dated in
      let f = b.largest i a.below a.dated in
      by_le i k
      (λ l.
      by-eq i k (λ q. q) (λ q. let s = b.lowest i (omega arith) a.dated in absurd (omega arith)))
      (λ l. let s = a.lowest k l b.dated in absurd (omega arith))
