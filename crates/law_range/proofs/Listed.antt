-- Document 02, Job 13: "the call lists all taken slots whose every key byte lies in its range, each exactly once, by
-- rising slot, and answers how many": `Lists` of crates/spec_range/specs/Listed.antt, of an accepted call on any bytes.
--     numbered          number j of the list is slot j of those that are listed
--     select-lists      the law
-- Assumes nothing.
use mathlib.Core.Path.{◌≡◌, sym, ap, ◌∙◌, subst}
use Prim.Native.Nat.{ℕ, ◌+◌, ◌*◌, ◌≤◌, ◌<◌}
use native.Mathlib.Omega.{arith}
use mathlib.Core.List.{List}
use lib.ListN.{length, get_or}
use Rattle.spec_file.specs.Bytes.{Bytes, store, part, number}
use Rattle.spec_file.specs.Limits.{most_slots}
use Rattle.spec_file.specs.Image.{Layout, layout_of}
use Rattle.law_file.proofs.Bytes.{length-store, part-store-inside}
use Rattle.law_file.proofs.Byte.{byte-store-above}
use Rattle.law_file.proofs.Opened.{opened-facts}
use Rattle.law_file.proofs.Tests.{by-eq, by_le}
use Rattle.spec_range.specs.Ranges.{selected, slot_numbers, select_number, select}
use Rattle.spec_range.specs.Listed.{number_at, Wanted, Lists}
use Rattle.law_range.proofs.Chosen.{length-numbers, number-listed}
use Rattle.law_range.proofs.Number.{Accepted, select-accepted, select-fills, select-number}
use Rattle.law_range.proofs.Selected.{selected-few, selected-wanted, wanted-selected, selected-rising}

module _ (img lowest highest list : Bytes) (ok : select_number img lowest highest (length list) ≡ 0) where
  abbrev g : Layout
  g = layout_of img

  abbrev slots : List ℕ
  slots = selected g img lowest highest

  abbrev filled : Bytes
  filled = store list 0 (slot_numbers slots)

  granted : Accepted img lowest highest (length list)
  granted = select-accepted img lowest highest (length list) ok

  high : g.N ≤ most_slots
  unfolding layout_of
  high = (opened-facts img granted.accepted).slots-high

  fits : 0 + length (slot_numbers slots) ≤ length list
  fits = omega (arith, length-numbers slots, selected-few img lowest highest, granted.room)

  pub numbered : (j : ℕ) → j < length slots → number_at filled j ≡ get_or slots j 0
  numbered j l =
      let w = selected-wanted img lowest highest j l in
      let z : 0 + 4 * j ≡ 4 * j = omega arith in
      ap (λ (p : ℕ). number (part filled p 4)) (sym z)
      ∙ ap number
      (part-store-inside list 0 (slot_numbers slots) (4 * j) 4 (omega arith) (omega (arith, length-numbers slots)))
      ∙ number-listed slots j l (omega (arith, w.below, high))

  lists : Lists img lowest highest list filled (length slots)
  lists =
      let rises : (j k : ℕ) → j < k → k < length slots → number_at filled j < number_at filled k =
      λ j k a b. omega (
        arith,
        numbered j (omega arith),
        numbered k b,
        selected-rising img lowest highest j k a b,
      ) in
      record {
        only = λ j l.
            subst (Wanted img lowest highest) (sym (numbered j l)) (selected-wanted img lowest highest j l);
        all = λ i w.
            let s = wanted-selected img lowest highest i w in
            (s.0, s.1, numbered s.0 s.1 ∙ s.2);
        once = λ j k a b e.
            by-eq j k (λ q. q)
            (λ n. by_le j k
            (λ h. absurd (omega (arith, rises j k (omega arith) b)))
            (λ h. absurd (omega (arith, rises k j h a))));
        rising = rises;
        stays = λ p l. byte-store-above list 0 (slot_numbers slots) p fits (omega (arith, length-numbers slots));
        size = length-store list 0 (slot_numbers slots) fits;
      }

-- the law, of the call
pub select-lists : (img lowest highest list : Bytes) → (select img lowest highest list).number ≡ 0
    → Lists img lowest highest list (select img lowest highest list).list (select img lowest highest list).found
select-lists img lowest highest list e =
    let ok = sym (select-number img lowest highest list) ∙ e in
    let f = select-fills img lowest highest list ok in
    subst (λ (n : ℕ). Lists img lowest highest list (select img lowest highest list).list n) (sym f.0)
    (subst (λ (b : Bytes). Lists img lowest highest list b (length (selected (layout_of img) img lowest highest)))
    (sym f.1)
    (lists img lowest highest list ok))
