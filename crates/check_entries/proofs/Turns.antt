-- The check's passes: entries, each slot looked at being one turn; stretches that meet; C. And a slot's key, searched.
--     Passed g img slots count i      the slots below i were passed: no entry fails, `count` are taken
--     passed_on, passed_over, passed-fails, passed-all      the loop's turns
--     entries-checked      below the first entry that fails, messages pass question 11
--     verdict-slot, verdict-count, verdict-sound      the verdict, from the lowest slot that fails for any reason
--     ends-false, ends-true      a slot's search and its message
-- Assumes nothing.
use mathlib.Core.Path.{◌≡◌, refl, sym, ap, ap₂, ◌∙◌, subst}
use Prim.Native.Nat.{ℕ, zero, suc, ◌+◌, ◌-◌, ◌≤◌, ◌<◌}
use native.Mathlib.Omega.{arith}
use mathlib.Core.Bool.{Bool, true, false, cond, not, ◌&&◌, ◌||◌, true≢false}
use mathlib.Core.List.{[], ◌∷◌}
use mathlib.Core.Option.{Option, none, some}
use borrow.Author.Tests.{eq-eqb, ne_eqb, not-false}
use Rattle.spec_file.specs.Bytes.{Bytes}
use Rattle.spec_file.specs.Limits.{points_field}
use Rattle.spec_file.specs.Image.{field, Layout, layout_of, slot, offset_of}
use Rattle.spec_file.specs.Search.{Probe, search}
use Rattle.spec_file.specs.Questions.{message_sound, open_number}
use Rattle.spec_file.specs.Inspect.{lowest, taken, taken_from, ends_at, entry_sound, meets_lower, slot_sound, slot_fails, Verdict, sound, slot_bad, count_bad, count_sound, verdict_of, table_verdict, check}
use Rattle.law_file.proofs.Tests.{by_bool, by-either, and_right, zero-yes, zero-no}
use Rattle.law_file.proofs.Meeting.{vacant-apart}
use Rattle.law_file.proofs.Table.{key_at}
use Rattle.law_file.proofs.Verdict.{lowest-here, lowest-on, lowest-some, lowest-yes, lowest-no, lowest-end}
use Rattle.message_stretch.specs.Checked.{Checked}
use Rattle.message_stretch.specs.Stretches.{number_or, first_meeting}
use Rattle.message_stretch.proofs.First.{first-low, first-no, first_either}
use Rattle.header_layout.specs.Shapes.{Open}
use Rattle.header_layout.specs.declared.shape.Shape.{Shape}
use Rattle.check_entries.specs.Entries.{entry_fails, EntriesPassed}

-- ---- the number of taken slots from i on
module _ (g : Layout) (img : Bytes) where
  counted : (n i : ℕ) → i < n
      → taken_from g img (n - i) i ≡ cond (taken g img i) 1 0 + taken_from g img (n - (i + 1)) (i + 1)
  unfolding taken_from
  counted n i l =
      let q : n - i ≡ suc (n - (i + 1)) = omega arith in
      let r : suc i ≡ i + 1 = omega arith in
      ap (λ (m : ℕ). taken_from g img m i) q
      ∙ ap (λ (k : ℕ). cond (taken g img i) 1 0 + taken_from g img (n - (i + 1)) k) r

  counted_is : (n i : ℕ) (b : Bool) → i < n → taken g img i ≡ b
      → taken_from g img (n - i) i ≡ cond b 1 0 + taken_from g img (n - (i + 1)) (i + 1)
  counted_is n i b l e =
      counted n i l ∙ ap (λ (b : Bool). cond b 1 0 + taken_from g img (n - (i + 1)) (i + 1)) e

  counted-end : (n i : ℕ) → n ≤ i → taken_from g img (n - i) i ≡ 0
  unfolding taken_from
  counted-end n i l =
      let q : n - i ≡ 0 = omega arith in
      ap (λ (m : ℕ). taken_from g img m i) q

  -- an entry that fails, and one that does not
  fails-yes : (i : ℕ) → taken g img i ≡ true → entry_sound g img i ≡ false → entry_fails g img i ≡ true
  unfolding entry_fails
  fails-yes i t s = ap₂ (λ (a b : Bool). a && not b) t s

  fails-sound : (i : ℕ) → taken g img i ≡ true → entry_sound g img i ≡ true → entry_fails g img i ≡ false
  unfolding entry_fails
  fails-sound i t s = ap₂ (λ (a b : Bool). a && not b) t s

  fails-vacant : (i : ℕ) → taken g img i ≡ false → entry_fails g img i ≡ false
  unfolding entry_fails
  fails-vacant i t = ap (λ (a : Bool). a && not (entry_sound g img i)) t

-- ---- the loop
pub record Passed (g : Layout) (img : Bytes) (slots count i : ℕ) : Type 0 where
  pub few : count ≤ i
  pub fails : lowest (entry_fails g img) slots 0 ≡ lowest (entry_fails g img) (slots - i) i
  pub counts : taken_from g img slots 0 ≡ count + taken_from g img (slots - i) i

module _ (g : Layout) (img : Bytes) (slots count i : ℕ) (w : Passed g img slots count i) (l : i < slots)
    (at : ℕ) (q : at ≡ i) where
  pub passed_on : taken g img at ≡ true → entry_sound g img at ≡ true → Passed g img slots (count + 1) (i + 1)
  passed_on t s =
      let t' : taken g img i ≡ true = ap (taken g img) (sym q) ∙ t in
      let s' : entry_sound g img i ≡ true = ap (entry_sound g img) (sym q) ∙ s in
      record {
        few = omega arith;
        fails = w.fails ∙ lowest-no (entry_fails g img) slots i l (fails-sound g img i t' s');
        counts = omega (arith, w.counts, counted_is g img slots i true l t');
      }

  pub passed_over : taken g img at ≡ false → Passed g img slots count (i + 1)
  passed_over t =
      let t' : taken g img i ≡ false = ap (taken g img) (sym q) ∙ t in
      record {
        few = omega arith;
        fails = w.fails ∙ lowest-no (entry_fails g img) slots i l (fails-vacant g img i t');
        counts = omega (arith, w.counts, counted_is g img slots i false l t');
      }

  -- an entry that fails ends it
  pub passed-fails : taken g img at ≡ true → entry_sound g img at ≡ false → EntriesPassed g img slots i count
  unfolding number_or
  passed-fails t s =
      let t' : taken g img i ≡ true = ap (taken g img) (sym q) ∙ t in
      let s' : entry_sound g img i ≡ false = ap (entry_sound g img) (sym q) ∙ s in
      record {
        lowest-is =
            sym (ap (number_or slots)
            (w.fails ∙ lowest-yes (entry_fails g img) slots i l (fails-yes g img i t' s')));
        counts = λ e. absurd (omega arith);
      }

-- none failed
pub passed-all : (g : Layout) (img : Bytes) (slots count i : ℕ) → Passed g img slots count i → slots ≤ i
    → EntriesPassed g img slots slots count
unfolding number_or
passed-all g img slots count i w l =
    record {
      lowest-is = sym (ap (number_or slots) (w.fails ∙ lowest-end (entry_fails g img) slots i l));
      counts = λ e. omega (arith, w.counts, counted-end g img slots i l);
    }

-- ---- below the bound messages pass question 11
pub entries-checked : (img : Bytes) (s : Shape) (bound count : ℕ) → Open img s
    → EntriesPassed (layout_of img) img s.slots bound count → Checked img s bound
entries-checked img s bound count o e =
    let g = layout_of img in
    record {
      opened = o;
      low = omega (arith, e.lowest-is, first-low (entry_fails g img) s.slots);
      messages = λ i l t.
          let passes = first-no (entry_fails g img) s.slots i (omega (arith, e.lowest-is)) in
          and_right (ends_at (search g img (key_at g img i)) i) (message_sound g img (offset_of g (slot g img i)))
          (unfold entry_sound in entry-passes g img i t passes);
    }
  where
    entry-passes : (g : Layout) (img : Bytes) (i : ℕ) → taken g img i ≡ true → entry_fails g img i ≡ false
        → entry_sound g img i ≡ true
    entry-passes g img i t h =
        not-false (entry_sound g img i)
        (sym (ap (λ (b : Bool). b && not (entry_sound g img i)) t) ∙ (unfold entry_fails in h))

-- ---- the verdict: the lowest slot that fails for any reason
either : (a e m : Bool) → (a ≡ false → m ≡ false) → (a && not (e && not m)) ≡ ((a && not e) || m)
either true true true f = refl
either true true false f = refl
either true false true f = refl
either true false false f = refl
either false e true f = absurd (true≢false (f refl))
either false e false f = refl

fails-either : (g : Layout) (img : Bytes) (i : ℕ) → slot_fails g img i ≡ (entry_fails g img i || meets_lower g img i)
unfolding slot_fails slot_sound entry_fails
fails-either g img i = either (taken g img i) (entry_sound g img i) (meets_lower g img i) (vacant-apart g img i)

lowest-same : (p q : ℕ → Bool) → ((i : ℕ) → p i ≡ q i) → (left i : ℕ) → lowest p left i ≡ lowest q left i
lowest-same p q e zero i = unfold lowest in refl
lowest-same p q e (suc left) i =
    let ih = lowest-same p q e left (suc i) in
    by_bool (q i)
    (λ y. lowest-here p left i (e i ∙ y) ∙ sym (lowest-here q left i y))
    (λ n. lowest-on p left i (e i ∙ n) ∙ ih ∙ sym (lowest-on q left i n))

-- a number below n is the answer's; n is none's
number-some : (n : ℕ) (o : Option ℕ) → number_or n o < n → o ≡ some (number_or n o)
unfolding number_or
number-some n none h = absurd (omega arith)
number-some n (some i) h = refl

number-none : (p : ℕ → Bool) (n : ℕ) (o : Option ℕ) → lowest p n 0 ≡ o → n ≤ number_or n o → o ≡ none
unfolding number_or
number-none p n none e h = refl
number-none p n (some i) e h = absurd (omega (arith, (lowest-some p n 0 i e).1))

verdict-fails : (b : Bool) (i : ℕ) → verdict_of b (some i) ≡ slot_bad i
unfolding verdict_of
verdict-fails true i = refl
verdict-fails false i = refl

module _ (img : Bytes) (slots : ℕ) (is-slots : (layout_of img).N ≡ slots) (bound count : ℕ)
    (e : EntriesPassed (layout_of img) img slots bound count) (first : ℕ)
    (is-first : first ≡ first_meeting (layout_of img) img bound) where
  abbrev g : Layout
  g = layout_of img

  first-fails : first ≡ number_or slots (lowest (slot_fails g img) slots 0)
  unfolding first_meeting
  first-fails =
      is-first
      ∙ ap (λ (n : ℕ). number_or n (lowest (meets_lower g img) n 0)) e.lowest-is
      ∙ first_either (entry_fails g img) (meets_lower g img) slots
      ∙ ap (number_or slots)
      (lowest-same (λ i. entry_fails g img i || meets_lower g img i) (slot_fails g img)
      (λ i. sym (fails-either g img i)) slots 0)

  -- the same of the layout's number of slots
  lowest-slots : lowest (slot_fails g img) g.N 0 ≡ lowest (slot_fails g img) slots 0
  lowest-slots = ap (λ (n : ℕ). lowest (slot_fails g img) n 0) is-slots

  pub verdict-slot : first < slots → (at : ℕ) → at ≡ first → slot_bad at ≡ table_verdict img
  verdict-slot l at q =
      let is : lowest (slot_fails g img) slots 0 ≡ some first =
      number-some slots (lowest (slot_fails g img) slots 0) (omega (arith, first-fails)) ∙ ap some (sym first-fails) in
      ap slot_bad q ∙ sym (verdict-fails (count_sound g img) first)
      ∙ ap (verdict_of (count_sound g img)) (sym (lowest-slots ∙ is))

  -- none fails
  none-fails : slots ≤ first → (b : Bool) → count_sound g img ≡ b → table_verdict img ≡ verdict_of b none
  none-fails l b c =
      ap₂ verdict_of c
      (lowest-slots
      ∙ number-none (slot_fails g img) slots (lowest (slot_fails g img) slots 0) refl (omega (arith, first-fails)))

  -- so that all entries were passed, and counted
  counted-all : slots ≤ first → taken_from g img g.N 0 ≡ count
  unfolding first_meeting
  counted-all l =
      ap (λ (n : ℕ). taken_from g img n 0) is-slots
      ∙ sym (e.counts
      (omega (arith, is-first, first-low (meets_lower g img) bound, e.lowest-is, first-low (entry_fails g img) slots)))

  pub verdict-sound : slots ≤ first → field img points_field ≡ count → sound ≡ table_verdict img
  unfolding count_sound verdict_of
  verdict-sound l c = sym (none-fails l true (eq-eqb (field img points_field) _ (c ∙ sym (counted-all l))))

  pub verdict-count : slots ≤ first → (field img points_field ≡ count → ⊥) → count_bad ≡ table_verdict img
  unfolding count_sound verdict_of
  verdict-count l c = sym (none-fails l false (ne_eqb (field img points_field) _ (λ z. c (z ∙ counted-all l))))

pub check-closed : (img : Bytes) (n : ℕ) → n ≡ open_number img → (n ≡ 0 → ⊥) → Verdict.refused n ≡ check img
unfolding check
check-closed img n q h =
    ap Verdict.refused q
    ∙ sym (zero-no (open_number img) (table_verdict img) (Verdict.refused (open_number img)) (λ z. h (q ∙ z)))

pub check-open : (img : Bytes) → open_number img ≡ 0 → table_verdict img ≡ check img
unfolding check
check-open img h = sym (zero-yes (open_number img) (table_verdict img) (Verdict.refused (open_number img)) h)

-- ---- a slot's search
module _ (g : Layout) (img : Bytes) (i : ℕ) where
  abbrev here : Bool
  here = ends_at (search g img (key_at g img i)) i

  pub ends-false : here ≡ false → false ≡ entry_sound g img i
  unfolding entry_sound
  ends-false z = sym (ap (λ (b : Bool). b && message_sound g img (offset_of g (slot g img i))) z)

  pub ends-true : here ≡ true → (m : Bool) (o : ℕ) → o ≡ offset_of g (slot g img i)
      → m ≡ message_sound g img o → m ≡ entry_sound g img i
  unfolding entry_sound
  ends-true z m o q r =
      r ∙ ap (message_sound g img) q
      ∙ sym (ap (λ (b : Bool). b && message_sound g img (offset_of g (slot g img i))) z)
