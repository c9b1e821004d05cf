-- The writes of an update, one by one: before turn k the first k are done.
-- Assumes nothing.
use mathlib.Core.Path.{◌≡◌, refl, sym, ap, ap₂, ◌∙◌, subst}
use Prim.Native.Nat.{ℕ, ◌+◌, ◌-◌, ◌*◌, ◌^◌, ◌≤◌, ◌<◌}
use native.Mathlib.Omega.{arith}
use mathlib.Core.Bool.{Bool, true, cond}
use mathlib.Core.List.{[], ◌∷◌}
use lib.ListN.{length, take}
use lib.Dec.{eqb}
use borrow.Author.Tests.{eq-eqb, ne_eqb}
use Rattle.spec_file.specs.Bytes.{Bytes, store}
use Rattle.spec_changes.specs.Changes.{runs}
use Rattle.spec_changes.specs.Journal.{content, mark_place, marked, journal_allowed, Write, to_journal, put, written, all_written, set_mark, updates, pair_count}
use Rattle.law_file.proofs.Tests.{by_le, by-eq}
use Rattle.journal_recover.specs.Updates.{Updates}
use Rattle.journal_recover.specs.Writes.{next_from, write_at, write_number, Numbered}
use Rattle.journal_recover.proofs.Settling.{updates-as, updates-same}
use Rattle.journal_recover.proofs.Going.{Going, going_start, going-reads, going_more, going-last}
use Rattle.journal_commit.proofs.Carried.{carried_none, carried-content, carried-marked, allowed-room, marked-sound, marked-count}

pub record Carrying (old new j : Bytes) (pairs n : ℕ) (img J : Bytes) (from k : ℕ) : Type 0 where
  pub low : k ≤ n
  pub size : length img ≡ length old
  pub long : length J ≡ length j
  pub start : k ≤ 1 → (img ≡ old) × (from ≡ 4 + 8 * pairs)
  pub none : k ≡ 0 → J ≡ j
  pub filled : k ≡ 1 → J ≡ store j 0 (content (runs 0 old new) new)
  pub going : 2 ≤ k
      → Going old (store (store j 0 (content (runs 0 old new) new)) (mark_place j) (marked ∷ [])) (n - 2) img J from
      (k - 2)

module _ (old new j : Bytes) (l : length old ≡ length new) (small : length old < 2 ^ 32)
    (allowed : journal_allowed old new j ≡ true) (pairs : ℕ) (e : pairs ≡ length (runs 0 old new)) (n : ℕ)
    (most : n ≤ pairs + 3) where
  abbrev c : Bytes
  c = content (runs 0 old new) new

  abbrev full : Bytes
  full = store (store j 0 (content (runs 0 old new) new)) (mark_place j) (marked ∷ [])

  abbrev State : Bytes → Bytes → ℕ → ℕ → Type 0
  State img J from k = Carrying old new j pairs n img J from k

  pub carrying-start : State old j (4 + 8 * pairs) 0
  carrying-start =
      record {
        low = omega arith;
        size = refl;
        long = refl;
        start = λ h. (refl, refl);
        none = λ h. refl;
        filled = λ h. absurd (omega arith);
        going = λ h. absurd (omega arith);
      }

  module _ (img J : Bytes) (from k : ℕ) (g : State img J from k) where
    pub carrying-asks : Numbered img new J pairs k from
    carrying-asks =
        let room : length c < length j = allowed-room old new j l small allowed in
        record {
          some = omega (arith, g.long);
          first = λ z.
              let i : img ≡ old = (g.start (omega arith)).0 in
              let y : J ≡ j = g.none z in (
                ap length i ∙ l,
                omega (arith, g.size),
                e ∙ ap (λ (x : Bytes). length (runs 0 x new)) (sym i),
                subst (λ (x : Bytes). length (content (runs 0 x new) new) ≤ length J) (sym i) (omega (arith, g.long)),
              );
          reads = λ h f.
              going-reads old full (marked-sound old new j l small allowed) (n - 2) img J from (k - 2) (g.going h)
              (omega (arith, marked-count old new j l small allowed));
        }

    -- what write k is
    module _ (img' J' : Bytes) (from' : ℕ)
        (u : Updates (written (write_number img new J pairs k from) (record { image = img; journal = J })) img' J')
        (li : length img' ≡ length img) (lj : length J' ≡ length J) (f : k < n) (same : k < 2 → from' ≡ from)
        (step : 2 ≤ k → k - 2 < pairs → from' ≡ next_from J (k - 2) from) where
      as-write : (w : Write) → write_number img new J pairs k from ≡ w
          → Updates (written w (record { image = img; journal = J })) img' J'
      as-write w h = updates-same (ap (λ (x : Write). written x (record { image = img; journal = J })) h) u

      first-write : k ≡ 0 → State img' J' from' (k + 1)
      unfolding written put
      first-write z =
          let v = as-write (to_journal (record { place = 0; bytes = content (runs 0 img new) new }))
          (ap (λ (b : Bool). cond b (to_journal (record { place = 0; bytes = content (runs 0 img new) new }))
          (cond (eqb k 1) (set_mark marked J) (write_at J pairs (k - 2) from))) (eq-eqb k 0 z)) in
          let i : img ≡ old = (g.start (omega arith)).0 in
          record {
            low = omega arith;
            size = li ∙ g.size;
            long = lj ∙ g.long;
            start = λ h. (v.image-is ∙ i, same (omega arith) ∙ (g.start (omega arith)).1);
            none = λ h. absurd (omega arith);
            filled = λ h.
                v.journal-is
                ∙ ap₂ (λ (x y : Bytes). store x 0 (content (runs 0 y new) new)) (g.none z) i;
            going = λ h. absurd (omega arith);
          }

      second-write : k ≡ 1 → State img' J' from' (k + 1)
      unfolding written put set_mark
      second-write z =
          let v = as-write (set_mark marked J)
          (ap₂ (λ (a b : Bool). cond a (to_journal (record { place = 0; bytes = content (runs 0 img new) new }))
          (cond b (set_mark marked J) (write_at J pairs (k - 2) from)))
          (ne_eqb k 0 (λ y. omega arith)) (eq-eqb k 1 z)) in
          let i : img' ≡ old = v.image-is ∙ (g.start (omega arith)).0 in
          let place : mark_place J ≡ mark_place j = unfold mark_place in ap (λ (m : ℕ). m - 1) g.long in
          let y : J' ≡ full =
          v.journal-is ∙ ap₂ (λ (x : Bytes) (m : ℕ). store x m (marked ∷ [])) (g.filled z) place in
          let at : from' ≡ 4 + 8 * pair_count full =
          same (omega arith) ∙ (g.start (omega arith)).1
          ∙ ap (λ (m : ℕ). 4 + 8 * m) (e ∙ sym (marked-count old new j l small allowed)) in
          let none' : 0 ≡ k + 1 - 2 = omega arith in
          record {
            low = omega arith;
            size = li ∙ g.size;
            long = lj ∙ g.long;
            start = λ h. absurd (omega arith);
            none = λ h. absurd (omega arith);
            filled = λ h. absurd (omega arith);
            going = λ h.
                subst (λ (m : ℕ). Going old full (n - 2) img' J' from' m) none'
                (subst (λ (m : ℕ). Going old full (n - 2) img' J' m 0) (sym at)
                (subst (λ (x : Bytes). Going old full (n - 2) x J' (4 + 8 * pair_count full) 0) (sym i)
                (subst (λ (x : Bytes). Going old full (n - 2) old x (4 + 8 * pair_count full) 0) (sym y)
                (going_start old full (n - 2) (marked-sound old new j l small allowed)))));
          }

      later_write : 2 ≤ k → State img' J' from' (k + 1)
      later_write z =
          let v = as-write (write_at J pairs (k - 2) from)
          (ap₂ (λ (a b : Bool). cond a (to_journal (record { place = 0; bytes = content (runs 0 img new) new }))
          (cond b (set_mark marked J) (write_at J pairs (k - 2) from)))
          (ne_eqb k 0 (λ y. omega arith)) (ne_eqb k 1 (λ y. omega arith))) in
          let s = marked-sound old new j l small allowed in
          let count : pairs ≡ pair_count full = e ∙ sym (marked-count old new j l small allowed) in
          let more : k - 2 + 1 ≡ k + 1 - 2 = omega arith in
          record {
            low = omega arith;
            size = li ∙ g.size;
            long = lj ∙ g.long;
            start = λ h. absurd (omega arith);
            none = λ h. absurd (omega arith);
            filled = λ h. absurd (omega arith);
            going = λ h.
                subst (λ (m : ℕ). Going old full (n - 2) img' J' from' m) more
                (by_le (k - 2 + 1) pairs
                (λ q. going_more old full s (n - 2) img J from (k - 2) (g.going z) (omega arith) pairs count
                (omega arith) img' J' from' v (step z (omega arith)) li lj)
                (λ q. going-last old full s (n - 2) img J from (k - 2) (g.going z) (omega arith) pairs count
                (omega arith) img' J' from' v li lj));
          }

      pub carrying-next : State img' J' from' (k + 1)
      carrying-next =
          by-eq k 0 (λ z. first-write z) (λ z. by-eq k 1 (λ y. second-write y) (λ y. later_write (omega arith)))

    pub carrying-end : n ≤ k
        → Updates (all_written (take n (updates old new j)) (record { image = old; journal = j })) img J
    carrying-end h =
        let z : k ≡ n = omega (arith, g.low) in
        subst
        (λ (m : ℕ). Updates (all_written (take m (updates old new j)) (record { image = old; journal = j })) img J) z
        (by-eq k 0
        (λ y.
        updates-as
        (ap (λ (m : ℕ). all_written (take m (updates old new j)) (record { image = old; journal = j })) y
        ∙ carried_none old new j)
        (g.start (omega arith)).0 (g.none y))
        (λ y. by-eq k 1
        (λ x.
        updates-as
        (ap (λ (m : ℕ). all_written (take m (updates old new j)) (record { image = old; journal = j })) x
        ∙ carried-content old new j)
        (g.start (omega arith)).0 (g.filled x))
        (λ x. updates-same (sym (carried-marked old new j l small allowed k (omega arith)))
        (g.going (omega arith)).so_far)))

-- ---- the three kinds of write

module _ (img new J : Bytes) (pairs k from : ℕ) where
  abbrev Does : Bytes → Bytes → Type 0
  Does img' J' = Updates (written (write_number img new J pairs k from) (record { image = img; journal = J })) img' J'

  does : (w : Write) → write_number img new J pairs k from ≡ w → (img' J' : Bytes)
      → Updates (written w (record { image = img; journal = J })) img' J' → Does img' J'
  does w h img' J' u = updates-same (ap (λ (x : Write). written x (record { image = img; journal = J })) (sym h)) u

  pub does-content : k ≡ 0 → (J' : Bytes) → J' ≡ store J 0 (content (runs 0 img new) new) → Does img J'
  unfolding written put
  does-content z J' h =
      does (to_journal (record { place = 0; bytes = content (runs 0 img new) new }))
      (ap (λ (b : Bool). cond b (to_journal (record { place = 0; bytes = content (runs 0 img new) new }))
      (cond (eqb k 1) (set_mark marked J) (write_at J pairs (k - 2) from))) (eq-eqb k 0 z))
      img J' (record { image-is = refl; journal-is = h })

  pub does-mark : k ≡ 1 → (J' : Bytes) → J' ≡ store J (mark_place J) (marked ∷ []) → Does img J'
  unfolding written put set_mark
  does-mark z J' h =
      does (set_mark marked J)
      (ap₂ (λ (a b : Bool). cond a (to_journal (record { place = 0; bytes = content (runs 0 img new) new }))
      (cond b (set_mark marked J) (write_at J pairs (k - 2) from)))
      (ne_eqb k 0 (λ y. omega arith)) (eq-eqb k 1 z))
      img J' (record { image-is = refl; journal-is = h })

  pub does-later : 2 ≤ k → (img' J' : Bytes)
      → Updates (written (write_at J pairs (k - 2) from) (record { image = img; journal = J })) img' J' → Does img' J'
  does-later z img' J' u =
      does (write_at J pairs (k - 2) from)
      (ap₂ (λ (a b : Bool). cond a (to_journal (record { place = 0; bytes = content (runs 0 img new) new }))
      (cond b (set_mark marked J) (write_at J pairs (k - 2) from)))
      (ne_eqb k 0 (λ y. omega arith)) (ne_eqb k 1 (λ y. omega arith)))
      img' J' u
