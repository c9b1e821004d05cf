-- What the check and the walk are good for.
--     sound-lookup      on an image that the check calls sound, lookup finds every taken slot's key, with its message
--     walked_all        the walk from 0, each time from one past the last slot, shows every taken slot once, rising
-- Assumes nothing.
use mathlib.Core.Path.{◌≡◌, refl, sym, ap, ◌∙◌}
use Prim.Native.Nat.{ℕ, zero, suc, ◌+◌, ◌≤◌, ◌<◌}
use native.Mathlib.Omega.{arith}
use mathlib.Core.Bool.{Bool, true, false, cond, not}
use mathlib.Core.List.{List, [], ◌∷◌}
use mathlib.Core.Option.{Option, none, some}
use lib.ListN.{length}
use borrow.Author.Tests.{eq-eqb}
use Rattle.spec_file.specs.Bytes.{Bytes}
use Rattle.spec_file.specs.Image.{Layout, layout_of, slot, offset_of, vacant}
use Rattle.spec_file.specs.Messages.{shown, bytes_of}
use Rattle.spec_file.specs.Questions.{name_allowed}
use Rattle.spec_file.specs.Inspect.{taken, next_taken, sound, check}
use Rattle.spec_file.specs.Calls.{lookup}
use Rattle.law_file.proofs.Tests.{by_bool, and-true}
use Rattle.law_file.proofs.Slots.{length-slot, length-key_of}
use Rattle.law_file.proofs.Table.{Taken, key_at}
use Rattle.law_file.proofs.Opened.{opened-facts, opened-room}
use Rattle.law_file.proofs.Outcomes.{lookup-shows}
use Rattle.law_file.proofs.Verdict.{lowest-yes, lowest-no, lowest-end, check-open, check-searches, check-messages}
use Rattle.call_check.specs.Walked.{shown_then, walked, taken_list}

-- ---- a sound image

module _ (img : Bytes) (ok : check img ≡ sound) (i : ℕ) (l : i < (layout_of img).N) (t : Taken (layout_of img) img i) where
  abbrev g : Layout
  g = layout_of img

  abbrev key : Bytes
  key = key_at g img i

  key-allowed : name_allowed g.K key ≡ true
  unfolding name_allowed vacant
  key-allowed =
      let room = opened-room img (opened-facts img (check-open img ok)) in
      and-true _ _ (eq-eqb (length key) g.K (length-key_of g (slot g img i) (length-slot g img room i l))) (ap not t)

pub sound-lookup : (img : Bytes) → check img ≡ sound → (i : ℕ) → i < (layout_of img).N → Taken (layout_of img) img i
    → (lookup img (key_at (layout_of img) img i)).answer
    ≡ record {
      number = 0;
      amount = length (bytes_of (shown (layout_of img) img (offset_of (layout_of img) (slot (layout_of img) img i))));
      text = shown (layout_of img) img (offset_of (layout_of img) (slot (layout_of img) img i));
      epoch = 0;
    }
sound-lookup img ok i l t =
    lookup-shows img (key_at (layout_of img) img i) (check-open img ok) (key-allowed img ok i l t) i
    (check-searches img ok i l t) (check-messages img ok i l t)

-- ---- the walk through a table

module _ (g : Layout) (img : Bytes) where
  next_here : (i : ℕ) → i < g.N → taken g img i ≡ true → next_taken g img i ≡ some i
  unfolding next_taken
  next_here i l e = lowest-yes (taken g img) g.N i l e

  next-on : (i : ℕ) → i < g.N → taken g img i ≡ false → next_taken g img i ≡ next_taken g img (suc i)
  unfolding next_taken
  next-on i l e =
      let r : i + 1 ≡ suc i = omega arith in
      lowest-no (taken g img) g.N i l e ∙ ap (next_taken g img) r

  next-end : (i : ℕ) → g.N ≤ i → next_taken g img i ≡ none
  unfolding next_taken
  next-end i l = lowest-end (taken g img) g.N i l

  walked_end : (steps i : ℕ) → next_taken g img i ≡ none → walked steps g img i ≡ []
  unfolding walked shown_then
  walked_end zero i e = refl
  walked_end (suc steps) i e = ap (λ (o : Option ℕ). shown_then o (λ j. walked steps g img (suc j))) e

  walked_here : (steps i : ℕ) → next_taken g img i ≡ some i → walked (suc steps) g img i ≡ i ∷ walked steps g img (suc i)
  unfolding walked shown_then
  walked_here steps i e = ap (λ (o : Option ℕ). shown_then o (λ j. walked steps g img (suc j))) e

  walked_same : (steps i k : ℕ) → next_taken g img i ≡ next_taken g img k → walked steps g img i ≡ walked steps g img k
  unfolding walked
  walked_same zero i k e = refl
  walked_same (suc steps) i k e = ap (λ (o : Option ℕ). shown_then o (λ j. walked steps g img (suc j))) e

  list-here : (left i : ℕ) → taken g img i ≡ true → taken_list g img (suc left) i ≡ i ∷ taken_list g img left (suc i)
  unfolding taken_list
  list-here left i e = ap (λ (b : Bool). cond b (i ∷ taken_list g img left (suc i)) (taken_list g img left (suc i))) e

  list_on : (left i : ℕ) → taken g img i ≡ false → taken_list g img (suc left) i ≡ taken_list g img left (suc i)
  unfolding taken_list
  list_on left i e = ap (λ (b : Bool). cond b (i ∷ taken_list g img left (suc i)) (taken_list g img left (suc i))) e

  -- from i on, with `left` slots from there to the table's end: as many steps suffice, and more show nothing more
  walked_from : (left steps i : ℕ) → i + left ≡ g.N → left ≤ steps → walked steps g img i ≡ taken_list g img left i
  walked_from zero steps i n s = walked_end steps i (next-end i (omega arith)) ∙ (unfold taken_list in refl)
  walked_from (suc left) zero i n s = absurd (omega arith)
  walked_from (suc left) (suc steps) i n s =
      let here : walked steps g img (suc i) ≡ taken_list g img left (suc i) =
      walked_from left steps (suc i) (omega arith) (omega arith) in
      let on : walked (suc steps) g img (suc i) ≡ taken_list g img left (suc i) =
      walked_from left (suc steps) (suc i) (omega arith) (omega arith) in
      by_bool (taken g img i)
      (λ e. walked_here steps i (next_here i (omega arith) e) ∙ ap (λ (x : List ℕ). i ∷ x) here
      ∙ sym (list-here left i e))
      (λ e. walked_same (suc steps) i (suc i) (next-on i (omega arith) e) ∙ on ∙ sym (list_on left i e))

  pub walked_all : (steps : ℕ) → g.N ≤ steps → walked steps g img 0 ≡ taken_list g img g.N 0
  walked_all steps s = walked_from g.N steps 0 (omega arith) s
