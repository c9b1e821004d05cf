-- The walk: the lowest taken slot from a number on, refusals, and the key that a stop shows.
--     walk-closed, walk-open      questions 1, 5 and 6
--     walk_start, walk_here, walk_end      the loop over slots
--     stopped-open, stopped-below      what a walk that stopped says
--     shown-refused, shown-stopped, shown-end      the part, the number and the slot that are handed back
-- Assumes nothing.
use mathlib.Core.Path.{◌≡◌, refl, sym, ap, ◌∙◌, subst}
use Prim.Native.Nat.{ℕ, ◌-◌, ◌≤◌, ◌<◌}
use native.Mathlib.Omega.{arith}
use mathlib.Core.Bool.{Bool, true, false, cond}
use mathlib.Core.List.{[]}
use mathlib.Core.Option.{Option, none, some}
use lib.Dec.{eqb}
use borrow.Author.Tests.{eqb-true}
use Rattle.spec_file.specs.Bytes.{Bytes, part}
use Rattle.spec_file.specs.Limits.{slots_field}
use Rattle.spec_file.specs.Image.{field, Layout, layout_of}
use Rattle.spec_file.specs.Inspect.{Stop, stopped, end, lowest, taken, next_taken, stop_at, key_walk, stop_number, key_start, key_length, key_shown}
use Rattle.spec_file.specs.Questions.{open_number}
use Rattle.law_file.proofs.Slots.{key_of-slot}
use Rattle.law_file.proofs.Table.{key_at}
use Rattle.law_file.proofs.Tests.{zero-yes, zero-no}
use Rattle.law_file.proofs.Verdict.{lowest-some, lowest-yes, lowest-end}
use Rattle.header_layout.specs.declared.places.Slot.{Slot}
use Rattle.call_walk.specs.Stops.{stop_of, stop_slot}
use Rattle.call_walk.specs.declared.Stop as code
use Rattle.call_walk.specs.declared.Stop.TheVariants.{Refused, At, End}

-- ---- questions 1, 5 and 6
pub walk-closed : (img : Bytes) (from n : ℕ) → n ≡ open_number img → (n ≡ 0 → ⊥) → Stop.refused n ≡ key_walk img from
unfolding key_walk
walk-closed img from n q h =
    ap Stop.refused q
    ∙ sym (zero-no (open_number img) (stop_at (next_taken (layout_of img) img from)) (Stop.refused (open_number img))
    (λ z. h (q ∙ z)))

pub walk-open : (img : Bytes) (from : ℕ) → open_number img ≡ 0
    → stop_at (next_taken (layout_of img) img from) ≡ key_walk img from
unfolding key_walk
walk-open img from h =
    sym (zero-yes (open_number img) (stop_at (next_taken (layout_of img) img from)) (Stop.refused (open_number img)) h)

-- ---- the loop
pub walk_start : (g : Layout) (img : Bytes) (from slots : ℕ) → g.N ≡ slots
    → next_taken g img from ≡ lowest (taken g img) (slots - from) from
unfolding next_taken
walk_start g img from slots q = ap (λ (n : ℕ). lowest (taken g img) (n - from) from) q

module _ (g : Layout) (img : Bytes) (o : Option ℕ) (slots i : ℕ) (e : o ≡ lowest (taken g img) (slots - i) i) where
  pub walk_here : (at : ℕ) → at ≡ i → i < slots → taken g img at ≡ true → stopped at ≡ stop_at o
  unfolding stop_at
  walk_here at q l t =
      ap stopped q ∙ sym (ap stop_at (e ∙ lowest-yes (taken g img) slots i l (ap (taken g img) (sym q) ∙ t)))

  pub walk_end : slots ≤ i → end ≡ stop_at o
  unfolding stop_at
  walk_end l = sym (ap stop_at (e ∙ lowest-end (taken g img) slots i l))

-- ---- a walk that stopped
stop-some : (o : Option ℕ) (i : ℕ) → stop_at o ≡ stopped i → o ≡ some i
unfolding stop_at
stop-some none i e = let z : ◌≡◌ {A = ℕ} 0 1 = cc in absurd (omega arith)
stop-some (some j) i e = let q : j ≡ i = cc in ap some q

stop-open : (b : Bool) (s : Stop) (n i : ℕ) → cond b s (Stop.refused n) ≡ stopped i → (b ≡ true) × (s ≡ stopped i)
stop-open true s n i e = (refl, e)
stop-open false s n i e = let z : ◌≡◌ {A = ℕ} 0 1 = cc in absurd (omega arith)

module _ (img : Bytes) (from i : ℕ) (e : key_walk img from ≡ stopped i) where
  parts : (eqb (open_number img) 0 ≡ true) × (stop_at (next_taken (layout_of img) img from) ≡ stopped i)
  unfolding key_walk
  parts =
      stop-open (eqb (open_number img) 0) (stop_at (next_taken (layout_of img) img from)) (open_number img) i e

  pub stopped-open : open_number img ≡ 0
  stopped-open = eqb-true (open_number img) 0 parts.0

  pub stopped-below : i < (layout_of img).N
  unfolding next_taken
  stopped-below =
      let f = lowest-some (taken (layout_of img) img) ((layout_of img).N - from) from i
      (stop-some (next_taken (layout_of img) img from) i parts.1) in
      omega (arith, f.0, f.1)

  -- the slot's number is below the field N
  pub stopped-slot : (n : ℕ) → n ≡ i → n < field img slots_field
  unfolding layout_of
  stopped-slot n q = omega (arith, stopped-below)

-- ---- the code's answer
module _ (img : Bytes) (from : ℕ) (f : code.Stop) (e : stop_of f ≡ key_walk img from) where
  pub stopped-is : {i : Slot} → f ≡ At i → key_walk img from ≡ stopped i.0
  unfolding stop_of
  stopped-is q = sym e ∙ ap stop_of q

  pub refused-is : {n : ℕ} → f ≡ Refused n → Stop.refused n ≡ key_walk img from
  unfolding stop_of
  refused-is q = sym (ap stop_of q) ∙ e

  pub end_is : f ≡ End → end ≡ key_walk img from
  unfolding stop_of
  end_is q = sym (ap stop_of q) ∙ e

-- ---- what is handed back
pub record Shown (img : Bytes) (s : Stop) (part' : Bytes) (number slot' : ℕ) : Type 0 where
  pub key : part' ≡ key_shown img s
  pub number_is : number ≡ stop_number s
  pub slot_is : slot' ≡ stop_slot s

module _ (img : Bytes) (s : Stop) where
  pub shown-refused : (n : ℕ) → Stop.refused n ≡ s → Shown img s [] n 0
  unfolding key_shown key_start key_length stop_number stop_slot part
  shown-refused n e =
      subst (λ (t : Stop). Shown img t [] n 0) e (record { key = refl; number_is = refl; slot_is = refl })

  pub shown-stopped : (i : ℕ) → stopped i ≡ s → (k : Bytes) → k ≡ key_at (layout_of img) img i → Shown img s k 0 i
  unfolding key_shown key_start key_length stop_number stop_slot
  shown-stopped i e k q =
      subst (λ (t : Stop). Shown img t k 0 i) e
      (record { key = q ∙ key_of-slot (layout_of img) img i; number_is = refl; slot_is = refl })

  pub shown-end : end ≡ s → Shown img s [] 0 0
  unfolding key_shown key_start key_length stop_number stop_slot part
  shown-end e = subst (λ (t : Stop). Shown img t [] 0 0) e (record { key = refl; number_is = refl; slot_is = refl })
