-- The sweep, window by window, and what it finds in the end.
--     Lying start stop bound low high      the stretches below the bound lie between low and high
--     swept-start, swept-on, swept-first      its turns
--     checked-below, lying      of an image whose taken slots were checked
-- Assumes nothing.
use mathlib.Core.Path.{◌≡◌, refl, sym, ap, ◌∙◌, subst}
use Prim.Native.Nat.{ℕ, zero, suc, ◌≤◌, ◌<◌, max}
use native.Mathlib.Omega.{arith}
use mathlib.Core.Bool.{Bool, true, false, ◌&&◌, ◌||◌}
use lib.Dec.{ltb}
use borrow.Author.Tests.{lt-ltb, ltb-true}
use Rattle.spec_file.specs.Bytes.{Bytes}
use Rattle.spec_file.specs.Image.{field, layout_of}
use Rattle.spec_file.specs.Limits.{data_field, free_field}
use Rattle.law_file.proofs.Tests.{by_bool, by_le, by-eq, and_left, and_right, and-true, or_right}
use Rattle.header_layout.specs.declared.shape.Shape.{Shape}
use Rattle.message_stretch.specs.Checked.{start_in, end_in, Checked}
use Rattle.spec_file.specs.Inspect.{meets, some_below, meets_lower}
use Rattle.message_stretch.specs.Stretches.{first_meeting}
use Rattle.message_stretch.specs.Windows.{Swept}
use Rattle.message_stretch.proofs.First.{first-is}
use Rattle.message_stretch.proofs.Reading.{start-above, stretched, checked-slot}

-- every stretch below the bound is not empty and lies between two places
abbrev pub Lying : (ℕ → ℕ) → (ℕ → ℕ) → ℕ → ℕ → ℕ → Type 0
Lying start stop bound low high =
    (i : ℕ) → i < bound → 0 < stop i → (low ≤ start i) × (start i < stop i) × (stop i ≤ high)

module _ (start stop : ℕ → ℕ) (bound low high : ℕ) (lie : Lying start stop bound low high) where
  pub swept-start : Swept start stop bound low bound bound
  swept-start =
      record {
        low = omega arith;
        found = λ a. absurd (omega arith);
        clear = record {
          apart = λ i j q a b c d e f g. omega (arith, (lie i (omega arith) (omega arith)).0);
          carries = λ i a b c. absurd (omega (arith, (lie i a (omega arith)).0));
          crosses = λ a. absurd (omega arith);
        };
      }

  -- two slots that meet share the place where the later one starts
  swept-apart : (at best carried : ℕ) → Swept start stop bound at best carried → high ≤ at → (i j : ℕ) → i < best
      → j < i → start i < stop j → start j < stop i → ⊥
  swept-apart at best carried w h i j a b c d =
      let li = lie i (omega (arith, w.low)) (omega arith) in
      let lj = lie j (omega (arith, w.low)) (omega arith) in
      w.clear.apart j i (max (start i) (start j)) b a (omega (arith, li, lj))
      (omega arith) (omega (arith, li, lj)) (omega arith) (omega (arith, li, lj))

pub swept-on : (start stop : ℕ → ℕ) (bound lo hi best carried best' carried' : ℕ)
    → Swept start stop bound lo best carried → Swept start stop best hi best' carried'
    → Swept start stop bound hi best' carried'
swept-on start stop bound lo hi best carried best' carried' w v =
    record {
      low = omega (arith, w.low, v.low);
      found = λ a.
          by_le best best'
          (λ h.
          let e : best ≡ best' = omega (arith, v.low) in
          subst (λ (n : ℕ). (j : ℕ) × (j < n) × (start j < stop n) × (start n < stop j)) e (w.found (omega arith)))
          (λ h. v.found h);
      clear = v.clear;
    }

-- ---- some number below n
some-false : (p : ℕ → Bool) (n : ℕ) → ((k : ℕ) → k < n → p k ≡ false) → some_below p n ≡ false
unfolding some_below
some-false p zero h = refl
some-false p (suc n) h = rw (h n (omega arith)) (some-false p n (λ k l. h k (omega arith)))

some-true : (p : ℕ → Bool) (n k : ℕ) → k < n → p k ≡ true → some_below p n ≡ true
unfolding some_below
some-true p zero k l e = absurd (omega arith)
some-true p (suc n) k l e =
    by-eq k n
    (λ z. ap (λ (b : Bool). b || some_below p n) (ap p (sym z) ∙ e))
    (λ z. or_right (p n) (some_below p n) (some-true p n k (omega arith) e))

module _ (img : Bytes) (s : Shape) (bound : ℕ) (checked : Checked img s bound) where
  pub checked-below : (best : ℕ) → best ≤ bound → Checked img s best
  checked-below best l =
      record {
        opened = checked.opened;
        low = omega (arith, checked.low);
        messages = λ i a. checked.messages i (omega arith);
      }

  pub lying : Lying (start_in img) (end_in img) bound (field img data_field) (field img free_field)
  lying i l z =
      let w = stretched img s i (checked-slot img s bound checked i l) (start-above img i z) in
      (w.low, omega (arith, w.order), w.high)

  pub swept-first : (at best carried : ℕ) → Swept (start_in img) (end_in img) bound at best carried
      → field img free_field ≤ at → best ≡ first_meeting (layout_of img) img bound
  unfolding first_meeting meets_lower meets
  swept-first at best carried w h =
      let g = layout_of img in
      let D = field img data_field in
      let X = field img free_field in
      first-is (meets_lower g img) bound best w.low
      (λ l.
      let f = w.found l in
      some-true (meets g img best) best f.0 f.1
      (and-true (ltb (start_in img best) (end_in img f.0)) (ltb (start_in img f.0) (end_in img best))
      (lt-ltb (start_in img best) (end_in img f.0) f.3) (lt-ltb (start_in img f.0) (end_in img best) f.2)))
      (λ i l.
      some-false (meets g img i) i
      (λ j k.
      let a = ltb (start_in img i) (end_in img j) in
      let b = ltb (start_in img j) (end_in img i) in
      by_bool (a && b)
      (λ e.
      absurd (swept-apart (start_in img) (end_in img) bound D X lying at best carried w h i j l k
      (ltb-true (start_in img i) (end_in img j) (and_left a b e))
      (ltb-true (start_in img j) (end_in img i) (and_right a b e))))
      (λ e. e)))
