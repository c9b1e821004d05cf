-- The lowest number for which a test holds, and what a check that says sound has seen.
--     lowest-some, lowest-none      what the answer of `lowest` says
--     lowest-yes, lowest-no, lowest-end      one number looked at, as a loop from i up to n has it
--     searches-findable      a table where each taken slot's key, searched, ends there is findable
--     check-open, check-searches, check-messages, check-apart, check-count, check-weight, check-findable
--                         of an image that the check calls sound
-- Assumes nothing.
use mathlib.Core.Path.{◌≡◌, refl, sym, ap, ◌∙◌}
use Prim.Native.Nat.{ℕ, zero, suc, ◌+◌, ◌-◌, ◌≤◌, ◌<◌}
use native.Mathlib.Omega.{arith}
use mathlib.Core.Bool.{Bool, true, false, cond, not, ◌&&◌}
use mathlib.Core.Option.{Option, none, some}
use lib.Dec.{eqb}
use borrow.Author.Tests.{eqb-true, not-true, not-false}
use Rattle.spec_file.specs.Bytes.{Bytes}
use Rattle.spec_file.specs.Limits.{points_field}
use Rattle.spec_file.specs.Image.{field, Layout, layout_of, slot, offset_of}
use Rattle.spec_file.specs.Search.{Probe, met, empty, exhausted, search}
use Rattle.spec_file.specs.Questions.{message_sound, open_number}
use Rattle.spec_file.specs.Inspect.{lowest, taken, taken_from, ends_at, entry_sound, meets_lower, slot_sound, slot_fails, Verdict, sound, count_sound, verdict_of, table_verdict, check}
use Rattle.law_file.proofs.Tests.{by_bool, by-eq, and_left, and_right}
use Rattle.law_file.proofs.Table.{Taken, key_at, Findable, weight}
use Rattle.law_file.proofs.Probe.{search-met}
use Rattle.law_file.proofs.Insert.{count-taken}

-- ---- the lowest number for which a test holds

module _ (p : ℕ → Bool) where
  pub lowest-here : (left i : ℕ) → p i ≡ true → lowest p (suc left) i ≡ some i
  unfolding lowest
  lowest-here left i e = rw (e, lowest)

  pub lowest-on : (left i : ℕ) → p i ≡ false → lowest p (suc left) i ≡ lowest p left (suc i)
  unfolding lowest
  lowest-on left i e = rw (e, lowest)

  pub lowest-some : (left i j : ℕ) → lowest p left i ≡ some j
      → (i ≤ j) × (j < i + left) × (p j ≡ true) × ((k : ℕ) → i ≤ k → k < j → p k ≡ false)
  lowest-some zero i j e =
      let z : ◌≡◌ {A = ℕ} 0 1 = unfold lowest in cc in
      absurd (omega arith)
  lowest-some (suc left) i j e =
      let ih : lowest p left (suc i) ≡ some j
      → (suc i ≤ j) × (j < suc i + left) × (p j ≡ true) × ((k : ℕ) → suc i ≤ k → k < j → p k ≡ false)
      = lowest-some left (suc i) j in
      by_bool (p i)
      (λ y.
      let f : some i ≡ some j = sym (lowest-here left i y) ∙ e in
      let q : i ≡ j = cc in
      (omega arith, omega arith, ap p (sym q) ∙ y, λ k a b. absurd (omega arith)))
      (λ n.
      let f = ih (sym (lowest-on left i n) ∙ e) in (
        omega (arith, f.0),
        omega (arith, f.1),
        f.2,
        λ k a b. by-eq i k (λ q. ap p (sym q) ∙ n) (λ q. f.3 k (omega arith) b),
      ))

  pub lowest-none : (left i : ℕ) → lowest p left i ≡ none → (k : ℕ) → i ≤ k → k < i + left → p k ≡ false
  lowest-none zero i e k a b = absurd (omega arith)
  lowest-none (suc left) i e k a b =
      let ih : lowest p left (suc i) ≡ none → suc i ≤ k → p k ≡ false
      = λ f c. lowest-none left (suc i) f k c (omega arith) in
      by_bool (p i)
      (λ y.
      let f : some i ≡ none = sym (lowest-here left i y) ∙ e in
      let z : ◌≡◌ {A = ℕ} 0 1 = cc in
      absurd (omega arith))
      (λ n. by-eq i k (λ q. ap p (sym q) ∙ n) (λ q. ih (sym (lowest-on left i n) ∙ e) (omega arith)))

  -- the same, as a loop from i up to n has it
  pub lowest-yes : (n i : ℕ) → i < n → p i ≡ true → lowest p (n - i) i ≡ some i
  lowest-yes n i l e =
      let q : n - i ≡ suc (n - (i + 1)) = omega arith in
      rw q (lowest-here (n - (i + 1)) i e)

  pub lowest-no : (n i : ℕ) → i < n → p i ≡ false → lowest p (n - i) i ≡ lowest p (n - (i + 1)) (i + 1)
  lowest-no n i l e =
      let q : n - i ≡ suc (n - (i + 1)) = omega arith in
      let r : suc i ≡ i + 1 = omega arith in
      ap (λ (m : ℕ). lowest p m i) q ∙ lowest-on (n - (i + 1)) i e ∙ ap (lowest p (n - (i + 1))) r

  pub lowest-end : (n i : ℕ) → n ≤ i → lowest p (n - i) i ≡ none
  lowest-end n i l =
      let q : n - i ≡ 0 = omega arith in
      ap (λ (m : ℕ). lowest p m i) q ∙ (unfold lowest in refl)

-- ---- searches that end where they should

pub ends_at-met : (s : Probe) (i : ℕ) → ends_at s i ≡ true → s ≡ met i
unfolding ends_at
ends_at-met (met j) i e = ap met (eqb-true j i e)
ends_at-met (empty j) i e = let z : ◌≡◌ {A = ℕ} 0 1 = cc in absurd (omega arith)
ends_at-met exhausted i e = let z : ◌≡◌ {A = ℕ} 0 1 = cc in absurd (omega arith)

pub searches-findable : (g : Layout) (img : Bytes)
    → ((i : ℕ) → i < g.N → Taken g img i → search g img (key_at g img i) ≡ met i) → Findable g img
searches-findable g img f =
    record {
      paths = λ i k il kl t d. ((search-met g img (key_at g img i) (omega arith) i (f i il t)).2 k kl d).0;
      distinct = λ i j il jl ti tj e.
          let a : search g img (key_at g img i) ≡ met i = f i il ti in
          let b : search g img (key_at g img j) ≡ met j = f j jl tj in
          let m : met i ≡ met j = sym a ∙ ap (search g img) e ∙ b in
          cc;
    }

-- a taken slot that does not fail
pub fails-not : (g : Layout) (img : Bytes) (i : ℕ) → slot_fails g img i ≡ false → Taken g img i
    → slot_sound g img i ≡ true
unfolding slot_fails taken
fails-not g img i e t = not-false (slot_sound g img i) (ap (λ (b : Bool). not b && not (slot_sound g img i)) (sym t) ∙ e)

-- ---- an image that the check calls sound

verdict-none : (c : Bool) (o : Option ℕ) → verdict_of c o ≡ sound → o ≡ none
unfolding verdict_of
verdict-none true none e = refl
verdict-none false none e = refl
verdict-none true (some i) e = let z : ◌≡◌ {A = ℕ} 0 1 = cc in absurd (omega arith)
verdict-none false (some i) e = let z : ◌≡◌ {A = ℕ} 0 1 = cc in absurd (omega arith)

verdict-count : (c : Bool) (o : Option ℕ) → verdict_of c o ≡ sound → c ≡ true
unfolding verdict_of
verdict-count true o e = refl
verdict-count false none e = let z : ◌≡◌ {A = ℕ} 0 1 = cc in absurd (omega arith)
verdict-count false (some i) e = let z : ◌≡◌ {A = ℕ} 0 1 = cc in absurd (omega arith)

verdict-open : (b : Bool) (v : Verdict) (n : ℕ) → cond b v (Verdict.refused n) ≡ sound → (b ≡ true) × (v ≡ sound)
verdict-open true v n e = (refl, e)
verdict-open false v n e = let z : ◌≡◌ {A = ℕ} 0 1 = cc in absurd (omega arith)

module _ (img : Bytes) (ok : check img ≡ sound) where
  -- the two parts of the verdict
  parts : (eqb (open_number img) 0 ≡ true) × (table_verdict img ≡ sound)
  parts = verdict-open (eqb (open_number img) 0) (table_verdict img) (open_number img) (unfold check in ok)

  -- a taken slot is sound
  check-slot : (i : ℕ) → i < (layout_of img).N → Taken (layout_of img) img i → slot_sound (layout_of img) img i ≡ true
  check-slot i l t =
      fails-not (layout_of img) img i
      (lowest-none (slot_fails (layout_of img) img) (layout_of img).N 0
      (verdict-none (count_sound (layout_of img) img) (lowest (slot_fails (layout_of img) img) (layout_of img).N 0)
      parts.1)
      i (omega arith) (omega arith))
      t

  check-entry : (i : ℕ) → i < (layout_of img).N → Taken (layout_of img) img i → entry_sound (layout_of img) img i ≡ true
  unfolding slot_sound
  check-entry i l t =
      and_left (entry_sound (layout_of img) img i) (not (meets_lower (layout_of img) img i)) (check-slot i l t)

  -- its stretch meets no lower-numbered slot's
  pub check-apart : (i : ℕ) → i < (layout_of img).N → Taken (layout_of img) img i → meets_lower (layout_of img) img i ≡ false
  unfolding slot_sound
  check-apart i l t =
      not-true (meets_lower (layout_of img) img i)
      (and_right (entry_sound (layout_of img) img i) (not (meets_lower (layout_of img) img i)) (check-slot i l t))

  pub check-open : open_number img ≡ 0
  check-open = eqb-true (open_number img) 0 parts.0

  pub check-searches : (i : ℕ) → i < (layout_of img).N → Taken (layout_of img) img i
      → search (layout_of img) img (key_at (layout_of img) img i) ≡ met i
  check-searches i l t =
      ends_at-met (search (layout_of img) img (key_at (layout_of img) img i)) i
      (and_left (ends_at (search (layout_of img) img (key_at (layout_of img) img i)) i)
      (message_sound (layout_of img) img (offset_of (layout_of img) (slot (layout_of img) img i)))
      (unfold entry_sound in check-entry i l t))

  pub check-messages : (i : ℕ) → i < (layout_of img).N → Taken (layout_of img) img i
      → message_sound (layout_of img) img (offset_of (layout_of img) (slot (layout_of img) img i)) ≡ true
  check-messages i l t =
      and_right (ends_at (search (layout_of img) img (key_at (layout_of img) img i)) i)
      (message_sound (layout_of img) img (offset_of (layout_of img) (slot (layout_of img) img i)))
      (unfold entry_sound in check-entry i l t)

  pub check-count : field img points_field ≡ taken_from (layout_of img) img (layout_of img).N 0
  check-count =
      eqb-true (field img points_field) (taken_from (layout_of img) img (layout_of img).N 0)
      (unfold count_sound in
      verdict-count (count_sound (layout_of img) img) (lowest (slot_fails (layout_of img) img) (layout_of img).N 0)
      parts.1)

  pub check-weight : field img points_field ≡ weight (layout_of img) img (λ s. 1)
  check-weight = check-count ∙ count-taken (layout_of img) img

  pub check-findable : Findable (layout_of img) img
  check-findable = searches-findable (layout_of img) img check-searches
