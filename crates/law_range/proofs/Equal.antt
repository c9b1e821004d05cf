-- Document 02, Job 13: "equal bounds everywhere give what lookup finds on a sound image": `OneFound` or `NoneFound` of
-- crates/spec_range/specs/Listed.antt. With a name of K bytes for both bounds, and a list that holds N slot numbers.
--     lies-equal        a key in ranges that are one byte each is that name
--     equal-bounds      the law
-- Assumes nothing.
use mathlib.Core.Path.{◌≡◌, refl, sym, ap, ◌∙◌}
use mathlib.Core.Logic.{◌⊎◌, inl, inr}
use Prim.Native.Nat.{ℕ, ◌*◌, ◌≤◌, ◌<◌}
use native.Mathlib.Nat.{le_antisymm}
use native.Mathlib.Omega.{arith}
use mathlib.Core.Bool.{Bool, true, false, not, ◌&&◌, and-false}
use mathlib.Core.List.{List, [], ◌∷◌}
use lib.ListN.{length, get_or}
use lib.Seq.{ext_get_or}
use lib.Dec.{eqb}
use borrow.Author.Tests.{eq-eqb, le-leb}
use Rattle.spec_file.specs.Bytes.{Bytes, store, all_zero}
use Rattle.spec_file.specs.Image.{Layout, layout_of, slot, vacant}
use Rattle.spec_file.specs.Search.{met, search, is_met}
use Rattle.spec_file.specs.Questions.{name_allowed, lookup_number}
use Rattle.spec_file.specs.Inspect.{sound, check}
use Rattle.law_file.proofs.Stores.{store-none}
use Rattle.law_file.proofs.Opened.{opened-facts, opened-room}
use Rattle.law_file.proofs.Slots.{length-slot, length-key_of}
use Rattle.law_file.proofs.Outcomes.{lookup-7, lookup-14, lookup-0}
use Rattle.law_file.proofs.Probe.{search-met, met-taken, by-search}
use Rattle.law_file.proofs.Table.{Taken, key_at}
use Rattle.law_file.proofs.Tests.{by_bool, by_le, and-true, not-both}
use Rattle.law_file.proofs.Verdict.{check-open, check-searches, check-messages}
use Rattle.spec_range.specs.Ranges.{selected, slot_numbers, list_holds, select_number}
use Rattle.spec_range.specs.Listed.{number_at, LiesIn, Wanted, OneFound, NoneFound}
use Rattle.law_range.proofs.Ranges.{paired-allowed}
use Rattle.law_range.proofs.Number.{select-0, select-fills}
use Rattle.law_range.proofs.Selected.{wanted-taken, taken-wanted, selected-wanted, wanted-selected, selected-rising}
use Rattle.law_range.proofs.Listed.{numbered}

-- ---- a key in ranges that are one byte each

pub lies-equal : (key k : Bytes) → length k ≡ length key → LiesIn key key k → k ≡ key
lies-equal key k e h = ext_get_or 0 k key e (λ p l. le_antisymm (h p l).1 (h p l).0)

equal-lies : (key k : Bytes) → k ≡ key → LiesIn key key k
equal-lies key k e p l =
    let q : get_or k p 0 ≡ get_or key p 0 = ap (λ (b : Bytes). get_or b p 0) e in
    (omega arith, omega arith)

-- a list without elements
length-nil : (l : List ℕ) → length l ≡ 0 → l ≡ []
length-nil [] e = refl
length-nil (x ∷ l) e = absurd (omega arith)

met-inj : {i j : ℕ} → met i ≡ met j → i ≡ j
met-inj e = cc

module _ (img key list : Bytes) (ok : check img ≡ sound)
    (size : length key ≡ (layout_of img).K) (room : 4 * (layout_of img).N ≤ length list) where
  abbrev g : Layout
  g = layout_of img

  abbrev slots : List ℕ
  slots = selected g img key key

  some-slots : 0 < g.N
  unfolding layout_of
  some-slots = omega (arith, (opened-facts img (check-open img ok)).slots-low)

  accepted : select_number img key key (length list) ≡ 0
  unfolding list_holds
  accepted =
      select-0 img key key (length list) (check-open img ok)
      (paired-allowed g.K key key
      (record { lowest-length = size; highest-length = size; ordered = λ p l. omega arith }))
      (le-leb (4 * g.N) (length list) room)

  -- the slots that are wanted are those that hold the name
  wanted-key : (i : ℕ) → Wanted img key key i → key_at g img i ≡ key
  wanted-key i w =
      let r = opened-room img (opened-facts img (check-open img ok)) in
      lies-equal key (key_at g img i)
      (length-key_of g (slot g img i) (length-slot g img r i w.below) ∙ sym size)
      w.lies

  key-wanted : (i : ℕ) → i < g.N → Taken g img i → key_at g img i ≡ key → Wanted img key key i
  key-wanted i l t e = taken-wanted img key key i l t (equal-lies key (key_at g img i) e)

  -- and the name's search ends there
  wanted-met : (i : ℕ) → Wanted img key key i → search g img key ≡ met i
  wanted-met i w =
      ap (search g img) (sym (wanted-key i w)) ∙ check-searches img ok i w.below (wanted-taken img key key i w)

  -- ---- none
  no-slots : ((i : ℕ) → Wanted img key key i → ⊥) → length slots ≡ 0
  no-slots n =
      by_le (length slots) 0 (λ l. omega arith) (λ l. absurd (n (get_or slots 0 0) (selected-wanted img key key 0 l)))

  missed : ((i : ℕ) → Wanted img key key i → ⊥)
      → (lookup_number img key ≡ 14) ⊎ ((lookup_number img key ≡ 7) × (all_zero key ≡ true)) → NoneFound img key list
  missed n h =
      let f = select-fills img key key list accepted in
      let e : slots ≡ [] = length-nil slots (no-slots n) in
      record {
        found-is = f.0 ∙ no-slots n;
        list-is =
            f.1 ∙ ap (λ (l : List ℕ). store list 0 (slot_numbers l)) e ∙ (unfold slot_numbers in store-none list 0);
        looked-up = h;
      }

  -- the name of zeros is no taken slot's key
  zeros-refused : all_zero key ≡ true → name_allowed g.K key ≡ false
  unfolding name_allowed
  zeros-refused z =
      ap (λ (b : Bool). eqb (length key) g.K && not b) z ∙ and-false (eqb (length key) g.K)

  missed-zeros : all_zero key ≡ true → NoneFound img key list
  missed-zeros z =
      missed
      (λ i w. not-both (vacant g (slot g img i)) (unfold vacant in (ap all_zero (wanted-key i w) ∙ z))
      (wanted-taken img key key i w))
      (inr (lookup-7 img key (check-open img ok) (zeros-refused z), z))

  -- ---- a name that is not all zero
  module _ (z : all_zero key ≡ false) where
    allowed : name_allowed g.K key ≡ true
    unfolding name_allowed
    allowed = and-true (eqb (length key) g.K) (not (all_zero key)) (eq-eqb (length key) g.K size) (ap not z)

    missed-absent : is_met (search g img key) ≡ false → NoneFound img key list
    missed-absent h =
        missed
        (λ i w. not-both (is_met (search g img key)) (ap is_met (wanted-met i w) ∙ (unfold is_met in refl)) h)
        (inl (lookup-14 img key (check-open img ok) allowed h))

    found-met : (i : ℕ) → search g img key ≡ met i → OneFound img key list i
    found-met i e =
        let s = search-met g img key some-slots i e in
        let t = met-taken g img key some-slots i z e in
        let w = wanted-selected img key key i (key-wanted i s.0 t s.1) in
        let f = select-fills img key key list accepted in
        -- every slot that is listed is that one
        let all : (j : ℕ) → j < length slots → get_or slots j 0 ≡ i = λ j l.
        met-inj (sym (wanted-met (get_or slots j 0) (selected-wanted img key key j l)) ∙ e) in
        let some : 0 < length slots = omega (arith, w.1) in
        let one : length slots ≡ 1 =
        by_le (length slots) 1 (λ l. omega arith)
        (λ l. absurd (omega (arith, all 0 some, all 1 l, selected-rising img key key 0 1 (omega arith) l))) in
        record {
          found-is = f.0 ∙ one;
          slot_is = ap (λ (b : Bytes). number_at b 0) f.1 ∙ numbered img key key list accepted 0 some ∙ all 0 some;
          search-ends = e;
          looked-up = lookup-0 img key (check-open img ok) allowed i e (check-messages img ok i s.0 t);
        }

  pub equal-bounds : ((i : ℕ) × OneFound img key list i) ⊎ NoneFound img key list
  equal-bounds =
      by_bool (all_zero key)
      (λ z. inr (missed-zeros z))
      (λ z. by-search g img key some-slots
      (λ i e. inl (i, found-met z i e))
      (λ i e. inr (missed-absent z (ap is_met e ∙ (unfold is_met in refl))))
      (λ e. inr (missed-absent z (ap is_met e ∙ (unfold is_met in refl)))))
