-- Select on a pair: the number that the call is refused with, and what it leaves.
--     grow-closed, grow-22, grow-16, grow-0      the number, by the first no
--     Granted, grow-granted                      what a 0 says
--     grow-refused, grow-fills                   how many, and the list afterwards
--     store-behind      a list's end lent and filled from its start
-- Assumes nothing.
use mathlib.Core.Path.{◌≡◌, refl, sym, ap, ◌∙◌}
use Prim.Native.Nat.{ℕ, ◌+◌, ◌-◌, ◌*◌, ◌≤◌}
use native.Mathlib.Omega.{arith}
use mathlib.Core.Bool.{true, false}
use mathlib.Core.List.{List, [], ◌∷◌, ◌++◌, append_assoc}
use lib.ListN.{length, take, drop, length-drop}
use lib.Seq.{take-length}
use borrow.Rule.Slice.PartMut.{put_mid}
use borrow.Author.Tests.{leb-true}
use Rattle.spec_file.specs.Bytes.{Bytes, store, digits}
use Rattle.spec_file.specs.Image.{layout_of}
use Rattle.spec_file.specs.Questions.{Question, ask, first_no}
use Rattle.spec_range.specs.Ranges.{ranges_allowed, list_holds, selected, slot_numbers}
use Rattle.spec_moves.specs.Moves.{Pair}
use Rattle.spec_growth.specs.Growth.{pair_number, old_key, grow_select_number, grow_select}
use Rattle.law_file.proofs.Tests.{by-eq, zero-yes, zero-no}
use Rattle.law_file.proofs.Opened.{first_no-none, first_no-yes, first_no-no, first_no-head, first_no-tail}
use Rattle.law_file.proofs.Outcomes.{settled-yes, settled-no}
use Rattle.law_file.proofs.Bytes.{length-store}
use Rattle.law_file.proofs.Stores.{store-lent, store-end}
use Rattle.law_range.proofs.Ranges.{Paired, allowed-paired}
use Rattle.growth_open.proofs.Pairs.{PairOpen, pair-open, pair-on, pair-stop}

module _ (p : Pair) (lowest highest : Bytes) where
  abbrev N : ℕ
  N = (layout_of p.old).N + (layout_of p.new).N

  -- ---- the number, of a list of so many bytes
  module _ (n : ℕ) where
    abbrev asks : List Question
    asks = ask 22 (ranges_allowed (old_key p) lowest highest) ∷ ask 16 (list_holds N n) ∷ []

    pub grow-closed : (pair_number p [] ≡ 0 → ⊥) → grow_select_number p lowest highest n ≡ pair_number p []
    unfolding grow_select_number
    grow-closed h = pair-stop p h asks

    opened-number : pair_number p [] ≡ 0 → grow_select_number p lowest highest n ≡ first_no asks
    unfolding grow_select_number
    opened-number h = pair-on p h asks

    module _ (h : pair_number p [] ≡ 0) where
      pub grow-22 : ranges_allowed (old_key p) lowest highest ≡ false → grow_select_number p lowest highest n ≡ 22
      grow-22 r = opened-number h ∙ first_no-no 22 _ _ r

      pub grow-16 : ranges_allowed (old_key p) lowest highest ≡ true → list_holds N n ≡ false
          → grow_select_number p lowest highest n ≡ 16
      grow-16 r l = opened-number h ∙ first_no-yes 22 _ _ r ∙ first_no-no 16 _ [] l

      pub grow-0 : ranges_allowed (old_key p) lowest highest ≡ true → list_holds N n ≡ true
          → grow_select_number p lowest highest n ≡ 0
      grow-0 r l = opened-number h ∙ first_no-yes 22 _ _ r ∙ first_no-yes 16 _ [] l ∙ first_no-none

    pub record Granted : Type 0 where
      pub opened : PairOpen p
      pub ranges : Paired (layout_of p.old).K lowest highest
      pub room : 4 * N ≤ n

    pub grow-granted : grow_select_number p lowest highest n ≡ 0 → Granted
    unfolding list_holds
    grow-granted h =
        let o : pair_number p [] ≡ 0 =
        by-eq (pair_number p []) 0 (λ e. e) (λ z. absurd (z (sym (grow-closed z) ∙ h))) in
        let q = sym (opened-number o) ∙ h in
        let r = first_no-head 22 (ranges_allowed (old_key p) lowest highest) _ (λ z. omega arith) q in
        let l = first_no-head 16 _ [] (λ z. omega arith) (first_no-tail 22 _ _ (λ z. omega arith) q) in
        record {
          opened = pair-open p o;
          ranges = allowed-paired (old_key p) lowest highest r;
          room = leb-true (4 * N) n l;
        }

  -- ---- what is left and answered
  module _ (list : Bytes) where
    abbrev number : ℕ
    number = grow_select_number p lowest highest (length list)

    abbrev first : List ℕ
    first = selected (layout_of p.old) p.old lowest highest

    abbrev second : List ℕ
    second = selected (layout_of p.new) p.new lowest highest

    -- the number, how many of each image, and the list
    abbrev pub Answered : ℕ → ℕ → ℕ → Bytes → Type 0
    Answered n a b after =
        (n ≡ (grow_select p lowest highest list).number)
        × ((a ≡ (grow_select p lowest highest list).old_found)
        × ((b ≡ (grow_select p lowest highest list).new_found) × (after ≡ (grow_select p lowest highest list).list)))

    pub grow-refused : (n : ℕ) → n ≡ number → (n ≡ 0 → ⊥) → Answered n 0 0 list
    unfolding grow_select
    grow-refused n e z =
        let z' : number ≡ 0 → ⊥ = λ q. z (e ∙ q) in (
          e,
          (
            sym (zero-no number (length first) 0 z'),
            (
              sym (zero-no number (length second) 0 z'),
              sym (settled-no number list (store list 0 (slot_numbers (first ++ second))) z'),
            ),
          ),
        )

    pub grow-fills : number ≡ 0 → (n a b : ℕ) (after : Bytes) → n ≡ 0 → a ≡ length first → b ≡ length second
        → after ≡ store list 0 (slot_numbers (first ++ second)) → Answered n a b after
    unfolding grow_select
    grow-fills z n a b after en ea eb el = (
      en ∙ sym z,
      (
        ea ∙ sym (zero-yes number (length first) 0 z),
        (
          eb ∙ sym (zero-yes number (length second) 0 z),
          el ∙ sym (settled-yes number list (store list 0 (slot_numbers (first ++ second))) z),
        ),
      ),
    )

-- ---- two lists behind each other
pub numbers-append : (a b : List ℕ) → slot_numbers (a ++ b) ≡ slot_numbers a ++ slot_numbers b
unfolding slot_numbers
numbers-append [] b = refl
numbers-append (i ∷ a) b =
    ap (λ (t : Bytes). digits 4 i ++ t) (numbers-append a b)
    ∙ sym (append_assoc (digits 4 i) (slot_numbers a) (slot_numbers b))

-- ---- a list's end lent, and filled from its start
module _ (b : Bytes) (a : ℕ) (w v : Bytes) (fits : a + length w ≤ length b)
    (e : v ≡ store (take (length b - a) (drop a b)) 0 w) where
  lent : take (length b - a) (drop a b) ≡ drop a b
  lent = ap (λ (n : ℕ). take n (drop a b)) (sym (length-drop a b)) ∙ take-length (drop a b)

  filled : v ≡ store (drop a b) 0 w
  filled = e ∙ ap (λ (x : Bytes). store x 0 w) lent

  size : length v ≡ length b - a
  size = ap length filled ∙ length-store (drop a b) 0 w (omega (arith, length-drop a b)) ∙ length-drop a b

  pub store-behind : put_mid a (length b - a) b v ≡ store b a w
  unfolding store
  store-behind =
      store-lent b a (length b) v size
      ∙ store-end b a v (omega (arith, size))
      ∙ ap (λ (x : Bytes). take a b ++ x) filled
