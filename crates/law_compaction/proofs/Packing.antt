-- Laws of compaction's definitions: which messages are packed, how far below a place they reach, and what a sound image
-- gives for it.
--     Live g img i      slot i is taken, and its message active
--     Stretches g img   where live slots' messages lie: inside the data area, each by itself
--     sound-stretches   an image that the check calls sound has them so
--     begins-live, live-begins      a message begins exactly where a live slot's does
--     below_none, below_one      what is packed below a place, past places where no message or one begins
--     packed-fits       what begins below p and ends at most at e packs into the places up to e
-- Assumes nothing.
use mathlib.Core.Path.{◌≡◌, refl, sym, ap, ◌∙◌, subst}
use Prim.Native.Nat.{ℕ, zero, suc, ◌+◌, ◌-◌, ◌≤◌, ◌<◌}
use native.Mathlib.Omega.{arith}
use mathlib.Core.Bool.{Bool, true, false, not, ◌&&◌}
use mathlib.Core.List.{[], ◌++◌, append_assoc, append-nil}
use lib.ListN.{length, length-append}
use lib.Dec.{eqb}
use borrow.Author.Tests.{eqb-true, eq-eqb, not-true}
use Rattle.spec_file.specs.Bytes.{Bytes, part}
use Rattle.spec_file.specs.Limits.{word, free_field}
use Rattle.spec_file.specs.Image.{field, Layout, layout_of, slot, offset_of, vacant}
use Rattle.spec_file.specs.Messages.{head_size, is_active}
use Rattle.spec_file.specs.Inspect.{taken, meets, some_below, meets_lower, check, sound}
use Rattle.spec_compaction.specs.Compact.{begins_at, block_at, packed_from, packed_below}
use Rattle.law_file.proofs.Effects.{head-least}
use Rattle.law_file.proofs.Tests.{by_bool, by-eq, by_le, by-or, by-either, and_left, and_right, and-true, not-both}
use Rattle.law_file.proofs.Bytes.{Apart, apart-sym, part_length}
use Rattle.law_file.proofs.Slots.{Room}
use Rattle.law_file.proofs.Opened.{opened-facts, opened-room}
use Rattle.law_file.proofs.Table.{Taken}
use Rattle.law_file.proofs.Stretch.{span, Lies, sound-lies}
use Rattle.law_file.proofs.Meeting.{some-no, meets-apart}
use Rattle.law_file.proofs.Verdict.{check-open, check-messages, check-apart}

-- ---- live slots

abbrev pub start_at : Layout → Bytes → ℕ → ℕ
start_at g img i = offset_of g (slot g img i)

pub record Live (g : Layout) (img : Bytes) (i : ℕ) : Type 0 where
  pub low : i < g.N
  pub is : taken g img i ≡ true
  pub active : is_active img (start_at g img i) ≡ true

-- where the message of a live slot ends
abbrev pub stop_at : Layout → Bytes → ℕ → ℕ
stop_at g img i = start_at g img i + span g img (start_at g img i)

-- an active message has an offset
pub active-some : (img : Bytes) (o : ℕ) → is_active img o ≡ true → o ≡ 0 → ⊥
unfolding is_active
active-some img o a z =
    not-both (eqb o 0) (eq-eqb o 0 z) (not-true (eqb o 0) (and_left (not (eqb o 0)) _ a))

pub record Stretches (g : Layout) (img : Bytes) : Type 0 where
  pub room : Room g (length img)
  pub free-low : g.D ≤ field img free_field
  pub free-high : field img free_field ≤ length img
  pub small : length img < word
  pub head : 4 ≤ head_size g
  pub low : (i : ℕ) → Live g img i → g.D ≤ start_at g img i
  pub end : (i : ℕ) → Live g img i → stop_at g img i ≤ field img free_field
  pub apart : (i j : ℕ) → Live g img i → Live g img j → start_at g img i < start_at g img j
      → stop_at g img i ≤ start_at g img j
  pub alone : (i j : ℕ) → Live g img i → Live g img j → start_at g img i ≡ start_at g img j → i ≡ j

-- ---- of a sound image

module _ (img : Bytes) (ok : check img ≡ sound) where
  abbrev g : Layout
  g = layout_of img

  live-taken : (i : ℕ) → Live g img i → Taken g img i
  unfolding taken
  live-taken i v = not-true (vacant g (slot g img i)) v.is

  live-lies : (i : ℕ) → Live g img i → Lies g img (start_at g img i)
  live-lies i v =
      sound-lies g img (start_at g img i) (check-messages img ok i v.low (live-taken i v))
      (active-some img (start_at g img i) v.active)

  abbrev Beside : ℕ → ℕ → Type 0
  Beside i j =
      Apart (start_at g img i) (span g img (start_at g img i)) (start_at g img j) (span g img (start_at g img j))

  below-beside : (i j : ℕ) → j < i → Live g img i → Live g img j → Beside i j
  unfolding meets_lower
  below-beside i j l a b =
      meets-apart g img i j (some-no (meets g img i) i (check-apart img ok i a.low (live-taken i a)) j l)
      a.is b.is (active-some img _ a.active) (active-some img _ b.active)

  beside : (i j : ℕ) → (i ≡ j → ⊥) → Live g img i → Live g img j → Beside i j
  beside i j n a b =
      by_le i j (λ l. apart-sym _ _ _ _ (below-beside j i (omega (arith, n)) b a)) (λ l. below-beside i j l a b)

  head-four : 4 ≤ head_size g
  head-four = head-least img

  pub sound-stretches : Stretches g img
  sound-stretches =
      let o = opened-facts img (check-open img ok) in
      record {
        room = opened-room img o;
        free-low = unfold layout_of in o.free-low;
        free-high = o.free-high;
        small = omega (arith, o.size-high);
        head = omega (arith, head-four);
        low = λ i v. (live-lies i v).low;
        end = λ i v. (live-lies i v).end;
        apart = λ i j a b l.
            by-either (beside i j (λ e. omega (arith, ap (start_at g img) e)) a b)
            (λ h. h)
            (λ h. absurd (omega (arith, h, l)));
        alone = λ i j a b e.
            by-eq i j
            (λ q. q)
            (λ q. by-either (beside i j q a b)
            (λ h. absurd (omega (arith, h, e, head-four)))
            (λ h. absurd (omega (arith, h, e, head-four))));
      }

-- ---- where messages begin

some-yes : (p : ℕ → Bool) (n : ℕ) → some_below p n ≡ true → (k : ℕ) × (k < n) × (p k ≡ true)
unfolding some_below
some-yes p zero h = absurd (not-both false h refl)
some-yes p (suc n) h =
    let ih : some_below p n ≡ true → (k : ℕ) × (k < n) × (p k ≡ true) = some-yes p n in
    by-or (p n) (some_below p n) h
    (λ y. (n, omega arith, y))
    (λ no' y. let w = ih y in (w.0, omega (arith, w.1), w.2))

module _ (g : Layout) (img : Bytes) where
  -- slot i is taken and has the offset p
  abbrev stands : ℕ → ℕ → Bool
  stands p i = taken g img i && eqb (start_at g img i) p

  pub begins-live : (p : ℕ) → begins_at g img p ≡ true → (i : ℕ) × Live g img i × (start_at g img i ≡ p)
  unfolding begins_at
  begins-live p h =
      let w = some-yes (stands p) g.N (and_right (is_active img p) _ h) in
      let e : start_at g img w.0 ≡ p = eqb-true _ _ (and_right (taken g img w.0) _ w.2) in (
        w.0,
        record {
          low = w.1;
          is = and_left (taken g img w.0) _ w.2;
          active = ap (is_active img) e ∙ and_left (is_active img p) _ h;
        },
        e,
      )

  pub live-begins : (i : ℕ) → Live g img i → begins_at g img (start_at g img i) ≡ true
  unfolding begins_at
  live-begins i v =
      let o = start_at g img i in
      and-true (is_active img o) (some_below (stands o) g.N) v.active
      (by_bool (some_below (stands o) g.N)
      (λ y. y)
      (λ no'. absurd (not-both (stands o i) (and-true _ _ v.is (eq-eqb o o refl))
      (some-no (stands o) g.N no' i v.low))))

  pub block-live : (i : ℕ) → Live g img i
      → block_at g img (start_at g img i) ≡ part img (start_at g img i) (span g img (start_at g img i))
  unfolding block_at
  block-live i v = rw (live-begins i v) refl

  pub block_none : (p : ℕ) → ((i : ℕ) → Live g img i → start_at g img i ≡ p → ⊥) → block_at g img p ≡ []
  unfolding block_at
  block_none p n =
      by_bool (begins_at g img p)
      (λ y. let w = begins-live p y in absurd (n w.0 w.1 w.2))
      (λ no'. rw no' refl)

  -- ---- what is packed below a place

  packed_more : (left p : ℕ) → packed_from g img (suc left) p ≡ packed_from g img left p ++ block_at g img (p + left)
  unfolding packed_from
  packed_more zero p =
      let e : p ≡ p + 0 = omega arith in
      append-nil (block_at g img p) ∙ ap (block_at g img) e
  packed_more (suc left) p =
      let e : suc p + left ≡ p + suc left = omega arith in
      ap (λ (b : Bytes). block_at g img p ++ b) (packed_more left (suc p))
      ∙ sym (append_assoc (block_at g img p) (packed_from g img left (suc p)) (block_at g img (suc p + left)))
      ∙ ap (λ (n : ℕ). (block_at g img p ++ packed_from g img left (suc p)) ++ block_at g img n) e

  pub below_suc : (p : ℕ) → g.D ≤ p → packed_below g img (suc p) ≡ packed_below g img p ++ block_at g img p
  unfolding packed_below
  below_suc p h =
      let e : suc p - g.D ≡ suc (p - g.D) = omega arith in
      let f : g.D + (p - g.D) ≡ p = omega arith in
      ap (λ (n : ℕ). packed_from g img n g.D) e
      ∙ packed_more (p - g.D) g.D
      ∙ ap (λ (n : ℕ). packed_from g img (p - g.D) g.D ++ block_at g img n) f

  pub below-start : (p : ℕ) → p ≤ g.D → packed_below g img p ≡ []
  unfolding packed_below packed_from
  below-start p h =
      let e : p - g.D ≡ 0 = omega arith in
      ap (λ (n : ℕ). packed_from g img n g.D) e

  -- no message begins from s up to e
  abbrev Empty : ℕ → ℕ → Type 0
  Empty s e = (i : ℕ) → Live g img i → s ≤ start_at g img i → start_at g img i < e → ⊥

  none-on : (k s : ℕ) → g.D ≤ s → Empty s (s + k) → packed_below g img (s + k) ≡ packed_below g img s
  none-on zero s h n = let e : s + 0 ≡ s = omega arith in ap (packed_below g img) e
  none-on (suc k) s h n =
      let e : s + suc k ≡ suc (s + k) = omega arith in
      ap (packed_below g img) e
      ∙ below_suc (s + k) (omega arith)
      ∙ ap (λ (b : Bytes). packed_below g img (s + k) ++ b)
      (block_none (s + k) (λ i v q. n i v (omega (arith, q)) (omega (arith, q))))
      ∙ append-nil (packed_below g img (s + k))
      ∙ none-on k s h (λ i v lo hi. n i v lo (omega arith))

  pub below_none : (s e : ℕ) → g.D ≤ s → s ≤ e → Empty s e → packed_below g img e ≡ packed_below g img s
  below_none s e h l n =
      let q : e ≡ s + (e - s) = omega arith in
      ap (packed_below g img) q
      ∙ none-on (e - s) s h (λ i v lo hi. n i v lo (omega arith))

  -- slot i's message is the only one that begins from s up to e
  pub below_one : (s e i : ℕ) → g.D ≤ s → Live g img i → s ≤ start_at g img i → start_at g img i < e
      → ((j : ℕ) → Live g img j → s ≤ start_at g img j → start_at g img j < e → start_at g img j ≡ start_at g img i)
      → packed_below g img e
      ≡ packed_below g img s ++ part img (start_at g img i) (span g img (start_at g img i))
  below_one s e i h v lo hi only =
      let o = start_at g img i in
      below_none (suc o) e (omega arith) hi
      (λ j w a b. absurd (omega (arith, only j w (omega arith) b, a)))
      ∙ below_suc o (omega arith)
      ∙ ap (λ (b : Bytes). packed_below g img o ++ b) (block-live i v)
      ∙ ap (λ (b : Bytes). b ++ part img o (span g img o))
      (below_none s o h lo (λ j w a b. absurd (omega (arith, only j w a (omega arith), b))))

  -- ---- how far it reaches

  fits_on : Stretches g img → (k e : ℕ) → g.D ≤ e
      → ((i : ℕ) → Live g img i → start_at g img i < g.D + k → stop_at g img i ≤ e)
      → g.D + length (packed_below g img (g.D + k)) ≤ e
  fits_on s zero e h f =
      let q : g.D + 0 ≡ g.D = omega arith in
      omega (arith, ap length (below-start (g.D + 0) (omega arith)))
  fits_on s (suc k) e h f =
      let p = g.D + k in
      let ih : (d : ℕ) → g.D ≤ d → ((i : ℕ) → Live g img i → start_at g img i < p → stop_at g img i ≤ d)
      → g.D + length (packed_below g img p) ≤ d
      = λ d. fits_on s k d in
      let q : g.D + suc k ≡ suc p = omega arith in
      let more : length (packed_below g img (g.D + suc k))
      ≡ length (packed_below g img p) + length (block_at g img p)
      = ap (λ (n : ℕ). length (packed_below g img n)) q
      ∙ ap length (below_suc p (omega arith))
      ∙ length-append (packed_below g img p) (block_at g img p) in
      by_bool (begins_at g img p)
      (λ y.
      let w = begins-live p y in
      let i = w.0 in
      let v = w.1 in
      let at = w.2 in
      let size : length (block_at g img p) ≡ span g img (start_at g img i) =
      ap (λ (n : ℕ). length (block_at g img n)) (sym at)
      ∙ ap length (block-live i v)
      ∙ part_length img (start_at g img i) (span g img (start_at g img i)) (omega (arith, s.end i v, s.free-high)) in
      let below : g.D + length (packed_below g img p) ≤ p =
      ih p (omega arith) (λ j u l. omega (arith, s.apart j i u v (omega (arith, at)), at)) in
      omega (arith, more, size, below, f i v (omega (arith, at)), at))
      (λ no'.
      let none' : block_at g img p ≡ [] = unfold block_at in rw no' refl in
      omega (arith, more, ap length none', ih e h (λ j u l. f j u (omega arith))))

  pub packed-fits : Stretches g img → (p e : ℕ) → g.D ≤ p → g.D ≤ e
      → ((i : ℕ) → Live g img i → start_at g img i < p → stop_at g img i ≤ e)
      → g.D + length (packed_below g img p) ≤ e
  packed-fits s p e l h f =
      let q : g.D + (p - g.D) ≡ p = omega arith in
      subst (λ (n : ℕ). g.D + length (packed_below g img n) ≤ e) q
      (fits_on s (p - g.D) e h (λ i v d. f i v (omega arith)))

  -- a message does not move up
  pub packed-below : Stretches g img → (i : ℕ) → Live g img i
      → g.D + length (packed_below g img (start_at g img i)) ≤ start_at g img i
  packed-below s i v =
      packed-fits s (start_at g img i) (start_at g img i) (s.low i v) (s.low i v) (λ j w l. s.apart j i w v l)
