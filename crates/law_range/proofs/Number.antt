-- The number that the call is refused with, and what it leaves.
--     select-closed, select-22, select-16, select-0      the number, by the first no
--     Accepted, select-accepted      what a 0 says
--     select-refused, select-fills       how many, and the list afterwards
-- Assumes nothing.
use mathlib.Core.Path.{◌≡◌, refl, sym, ◌∙◌}
use Prim.Native.Nat.{ℕ, ◌*◌, ◌≤◌}
use native.Mathlib.Omega.{arith}
use mathlib.Core.Bool.{true, false}
use mathlib.Core.List.{List, []}
use lib.ListN.{length}
use borrow.Author.Tests.{leb-true}
use Rattle.spec_file.specs.Bytes.{Bytes, store}
use Rattle.spec_file.specs.Image.{layout_of}
use Rattle.spec_file.specs.Questions.{first_no, open_number}
use Rattle.law_file.proofs.Tests.{by-eq, zero-yes, zero-no}
use Rattle.law_file.proofs.Opened.{first_no-none, first_no-yes, first_no-no, first_no-head, first_no-tail, first_no-opened, first_no-refused}
use Rattle.law_file.proofs.Outcomes.{settled-yes, settled-no}
use Rattle.spec_range.specs.Ranges.{selected, slot_numbers, ranges_allowed, list_holds, select_asks, select_number, select}
use Rattle.law_range.proofs.Ranges.{Paired, allowed-paired}

module _ (img lowest highest : Bytes) where
  abbrev K : ℕ
  K = (layout_of img).K

  abbrev N : ℕ
  N = (layout_of img).N

  -- ---- the number, of a list of so many bytes
  module _ (n : ℕ) where
    pub select-closed : (open_number img ≡ 0 → ⊥) → select_number img lowest highest n ≡ open_number img
    unfolding select_number
    select-closed h = first_no-refused img (select_asks (layout_of img) lowest highest n) h

    opened-number : open_number img ≡ 0
        → select_number img lowest highest n ≡ first_no (select_asks (layout_of img) lowest highest n)
    unfolding select_number
    opened-number h = first_no-opened img (select_asks (layout_of img) lowest highest n) h

    pub select-22 : open_number img ≡ 0 → ranges_allowed K lowest highest ≡ false
        → select_number img lowest highest n ≡ 22
    unfolding select_asks
    select-22 h r = opened-number h ∙ first_no-no 22 _ _ r

    pub select-16 : open_number img ≡ 0 → ranges_allowed K lowest highest ≡ true → list_holds N n ≡ false
        → select_number img lowest highest n ≡ 16
    unfolding select_asks
    select-16 h r l = opened-number h ∙ first_no-yes 22 _ _ r ∙ first_no-no 16 _ [] l

    pub select-0 : open_number img ≡ 0 → ranges_allowed K lowest highest ≡ true → list_holds N n ≡ true
        → select_number img lowest highest n ≡ 0
    unfolding select_asks
    select-0 h r l = opened-number h ∙ first_no-yes 22 _ _ r ∙ first_no-yes 16 _ [] l ∙ first_no-none

    pub record Accepted : Type 0 where
      pub accepted : open_number img ≡ 0
      pub ranges : Paired K lowest highest
      pub room : 4 * N ≤ n

    pub select-accepted : select_number img lowest highest n ≡ 0 → Accepted
    unfolding select_asks list_holds
    select-accepted h =
        let o : open_number img ≡ 0 =
        by-eq (open_number img) 0 (λ e. e) (λ z. absurd (z (sym (select-closed z) ∙ h))) in
        let q = sym (opened-number o) ∙ h in
        let r = first_no-head 22 (ranges_allowed K lowest highest) _ (λ z. omega arith) q in
        let l = first_no-head 16 _ [] (λ z. omega arith) (first_no-tail 22 _ _ (λ z. omega arith) q) in
        record { accepted = o; ranges = allowed-paired K lowest highest r; room = leb-true (4 * N) n l }

  -- ---- what is left and answered
  module _ (list : Bytes) where
    abbrev number : ℕ
    number = select_number img lowest highest (length list)

    abbrev slots : List ℕ
    slots = selected (layout_of img) img lowest highest

    pub select-refused : (number ≡ 0 → ⊥)
        → ((select img lowest highest list).found ≡ 0) × ((select img lowest highest list).list ≡ list)
    unfolding select
    select-refused z =
        (zero-no number (length slots) 0 z, settled-no number list (store list 0 (slot_numbers slots)) z)

    pub select-fills : number ≡ 0
        → ((select img lowest highest list).found ≡ length slots)
        × ((select img lowest highest list).list ≡ store list 0 (slot_numbers slots))
    unfolding select
    select-fills z =
        (zero-yes number (length slots) 0 z, settled-yes number list (store list 0 (slot_numbers slots)) z)

    pub select-number : (select img lowest highest list).number ≡ number
    unfolding select
    select-number = refl
