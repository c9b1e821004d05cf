-- Document 02, Job 13, during growth: "the old image's come first, and each image's number is answered". What the list
-- holds after an accepted call, of any bytes of both images: all slots of the old image that are wanted, each once, by
-- rising slot; then those of the new one; and the bytes after them stay.
--     PairLists           the statement
--     pair-lists          the law
-- Assumes nothing.
use mathlib.Core.Path.{◌≡◌, sym, ap, ◌∙◌, subst}
use Prim.Native.Nat.{ℕ, ◌+◌, ◌*◌, ◌≤◌, ◌<◌, ◌^◌}
use native.Mathlib.Omega.{arith}
use mathlib.Core.List.{List, [], ◌∷◌, ◌++◌}
use lib.ListN.{length, get_or, length-append, get_or-append}
use lib.Seq.{get_or-append-add}
use lib.Dec.{eqb}
use borrow.Author.Tests.{eqb-true, leb-true}
use Rattle.spec_file.specs.Bytes.{Bytes, store, part, number}
use Rattle.spec_file.specs.Limits.{most_slots}
use Rattle.spec_file.specs.Image.{layout_of}
use Rattle.spec_file.specs.Questions.{Question, ask, first_no, opened, open_number}
use Rattle.spec_range.specs.Ranges.{ranges_allowed, list_holds, selected, slot_numbers}
use Rattle.spec_range.specs.Listed.{number_at, Wanted}
use Rattle.spec_moves.specs.Moves.{Pair}
use Rattle.spec_growth.specs.Growth.{second_known, pair_opened, pair_number, old_key, grow_select_number, grow_select}
use Rattle.law_file.proofs.Bytes.{length-store, part-store-inside}
use Rattle.law_file.proofs.Byte.{byte-store-above}
use Rattle.law_file.proofs.Tests.{by-eq, and_left, zero-yes}
use Rattle.law_file.proofs.Opened.{first_no-opened, first_no-refused, first_no-head, first_no-tail, opened-facts}
use Rattle.law_file.proofs.Outcomes.{settled-yes}
use Rattle.law_range.proofs.Chosen.{length-numbers, number-listed}
use Rattle.law_range.proofs.Selected.{selected-few, selected-wanted, wanted-selected, selected-rising}

-- `after` is the list afterwards: `a` numbers of the old image's slots, then `b` of the new one's
pub record PairLists (p : Pair) (lowest highest list after : Bytes) (a b : ℕ) : Type 0 where
  pub old-only : (j : ℕ) → j < a → Wanted p.old lowest highest (number_at after j)
  pub new-only : (j : ℕ) → j < b → Wanted p.new lowest highest (number_at after (a + j))
  pub old-all : (i : ℕ) → Wanted p.old lowest highest i → (j : ℕ) × (j < a) × (number_at after j ≡ i)
  pub new-all : (i : ℕ) → Wanted p.new lowest highest i → (j : ℕ) × (j < b) × (number_at after (a + j) ≡ i)
  pub old-rising : (j k : ℕ) → j < k → k < a → number_at after j < number_at after k
  pub new-rising : (j k : ℕ) → j < k → k < b → number_at after (a + j) < number_at after (a + k)
  pub stays : (q : ℕ) → 4 * (a + b) ≤ q → get_or after q 0 ≡ get_or list q 0
  pub size : length after ≡ length list

module _ (p : Pair) (lowest highest list : Bytes) (ok : grow_select_number p lowest highest (length list) ≡ 0) where
  abbrev old : List ℕ
  old = selected (layout_of p.old) p.old lowest highest

  abbrev new : List ℕ
  new = selected (layout_of p.new) p.new lowest highest

  abbrev filled : Bytes
  filled = store list 0 (slot_numbers (old ++ new))

  abbrev N : ℕ
  N = (layout_of p.old).N + (layout_of p.new).N

  -- ---- what the number 0 says

  abbrev asks : List Question
  asks =
      ask 21 (second_known p)
      ∷ ask 22 (ranges_allowed (old_key p) lowest highest) ∷ ask 16 (list_holds N (length list)) ∷ []

  asked : first_no (opened p.old asks) ≡ 0
  unfolding grow_select_number pair_number pair_opened
  asked = ok

  old-opened : open_number p.old ≡ 0
  old-opened =
      by-eq (open_number p.old) 0 (λ e. e) (λ z. absurd (z (sym (first_no-refused p.old asks z) ∙ asked)))

  all_yes : first_no asks ≡ 0
  all_yes = sym (first_no-opened p.old asks old-opened) ∙ asked

  new-opened : open_number p.new ≡ 0
  unfolding second_known
  new-opened =
      eqb-true (open_number p.new) 0
      (and_left (eqb (open_number p.new) 0) _ (first_no-head 21 (second_known p) _ (λ z. omega arith) all_yes))

  room : 4 * N ≤ length list
  unfolding list_holds
  room =
      leb-true (4 * N) (length list)
      (first_no-head 16 _ [] (λ z. omega arith)
      (first_no-tail 22 _ _ (λ z. omega arith) (first_no-tail 21 (second_known p) _ (λ z. omega arith) all_yes)))

  old-high : (layout_of p.old).N ≤ most_slots
  unfolding layout_of
  old-high = (opened-facts p.old old-opened).slots-high

  new-high : (layout_of p.new).N ≤ most_slots
  unfolding layout_of
  new-high = (opened-facts p.new new-opened).slots-high

  -- ---- the numbers of the list

  long : length (old ++ new) ≡ length old + length new
  long = length-append old new

  fits : 0 + length (slot_numbers (old ++ new)) ≤ length list
  fits =
      omega (
        arith,
        length-numbers (old ++ new),
        long,
        selected-few p.old lowest highest,
        selected-few p.new lowest highest,
        room,
      )

  numbered : (j : ℕ) → j < length (old ++ new) → get_or (old ++ new) j 0 < 2 ^ 32
      → number_at filled j ≡ get_or (old ++ new) j 0
  numbered j l s =
      let z : 0 + 4 * j ≡ 4 * j = omega arith in
      ap (λ (q : ℕ). number (part filled q 4)) (sym z)
      ∙ ap number
      (part-store-inside list 0 (slot_numbers (old ++ new)) (4 * j) 4 (omega arith)
      (omega (arith, length-numbers (old ++ new))))
      ∙ number-listed (old ++ new) j l s

  old-numbered : (j : ℕ) → j < length old → number_at filled j ≡ get_or old j 0
  old-numbered j l =
      let e : get_or (old ++ new) j 0 ≡ get_or old j 0 = get_or-append old new 0 j l in
      let w = selected-wanted p.old lowest highest j l in
      numbered j (omega (arith, long)) (omega (arith, e, w.below, old-high)) ∙ e

  new-numbered : (j : ℕ) → j < length new → number_at filled (length old + j) ≡ get_or new j 0
  new-numbered j l =
      let e : get_or (old ++ new) (length old + j) 0 ≡ get_or new j 0 = get_or-append-add old new j 0 in
      let w = selected-wanted p.new lowest highest j l in
      numbered (length old + j) (omega (arith, long)) (omega (arith, e, w.below, new-high)) ∙ e

  lists : PairLists p lowest highest list filled (length old) (length new)
  lists =
      record {
        old-only = λ j l.
            subst (Wanted p.old lowest highest) (sym (old-numbered j l))
            (selected-wanted p.old lowest highest j l);
        new-only = λ j l.
            subst (Wanted p.new lowest highest) (sym (new-numbered j l))
            (selected-wanted p.new lowest highest j l);
        old-all = λ i w.
            let s = wanted-selected p.old lowest highest i w in
            (s.0, s.1, old-numbered s.0 s.1 ∙ s.2);
        new-all = λ i w.
            let s = wanted-selected p.new lowest highest i w in
            (s.0, s.1, new-numbered s.0 s.1 ∙ s.2);
        old-rising = λ j k a b.
            omega (
              arith,
              old-numbered j (omega arith),
              old-numbered k b,
              selected-rising p.old lowest highest j k a b,
            );
        new-rising = λ j k a b.
            omega (
              arith,
              new-numbered j (omega arith),
              new-numbered k b,
              selected-rising p.new lowest highest j k a b,
            );
        stays = λ q l.
            byte-store-above list 0 (slot_numbers (old ++ new)) q fits
            (omega (arith, length-numbers (old ++ new), long));
        size = length-store list 0 (slot_numbers (old ++ new)) fits;
      }

-- the law, of the call
pub pair-lists : (p : Pair) (lowest highest list : Bytes) → (grow_select p lowest highest list).number ≡ 0
    → PairLists p lowest highest list (grow_select p lowest highest list).list
    (grow_select p lowest highest list).old_found (grow_select p lowest highest list).new_found
unfolding grow_select
pair-lists p lowest highest list ok =
    let n = grow_select_number p lowest highest (length list) in
    rw (
      zero-yes n (length (old p lowest highest list ok)) 0 ok,
      zero-yes n (length (new p lowest highest list ok)) 0 ok,
      settled-yes n list (filled p lowest highest list ok) ok,
    )
    (lists p lowest highest list ok)
