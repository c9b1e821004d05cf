-- The search's loop: with so many slots left, each slot read is one turn of `probe`, and counts one.
--     search-start, read-on, goes_over                    where it begins, and how it goes from slot to slot
--     ended-met, ended-empty, ended-exhausted             how it ended, and how many slots it read
--     stored-length     a slot's key has K bytes
--     other-tail        a tail that is neither the key's nor zero: the slot holds another key
-- Assumes nothing.
use mathlib.Core.Path.{◌≡◌, refl, sym, ap, ◌∙◌, subst}
use Prim.Native.Nat.{ℕ, suc, ◌+◌, ◌-◌, ◌<◌}
use native.Mathlib.Nat.{le_refl}
use native.Mathlib.Omega.{arith}
use mathlib.Core.Bool.{Bool, true, false, ◌||◌}
use lib.ListN.{length}
use lib.Dec.{eqb}
use Rattle.spec_file.specs.Bytes.{Bytes, part, same, all_zero}
use Rattle.spec_file.specs.Image.{Layout, layout_of, slot, vacant, home}
use Rattle.spec_file.specs.Search.{Probe, met, empty, exhausted, next, probe, search, read_from, slots_read}
use Rattle.law_file.proofs.Slots.{length-slot, length-key_of}
use Rattle.law_file.proofs.Table.{key_at}
use Rattle.law_file.proofs.Probe.{turn-met, turn-empty, turn_on}
use Rattle.law_file.proofs.SlotsRead.{from-met, from_empty, from_on}
use Rattle.bytes_compare.specs.Little.{little}
use Rattle.bytes_compare.proofs.Compare.{other_key}
use Rattle.header_layout.specs.Shapes.{Open}
use Rattle.header_layout.specs.declared.shape.Shape.{Shape}
use Rattle.table_search.specs.Probes.{GoesOn}
use Rattle.table_search.proofs.Headers.{layout-key, layout-slots, room}

-- ---- from slot to slot
module _ (g : Layout) (img key : Bytes) where
  pub goes_same : (left i : ℕ) → GoesOn g img key left i left i
  goes_same left i = record { fewer = le_refl left; ended = refl; reads = refl }

  pub goes_over : {most i left j few k : ℕ} → GoesOn g img key most i left j → GoesOn g img key left j few k
      → GoesOn g img key most i few k
  goes_over a b =
      record {
        fewer = omega (arith, a.fewer, b.fewer);
        ended = a.ended ∙ b.ended;
        reads = omega (arith, a.reads, b.reads);
      }

-- ---- one slot: k is the key that stands in slot i
module _ (g : Layout) (img key : Bytes) (left i : ℕ) (some' : 0 < left) (k : Bytes) (is : k ≡ key_at g img i) where
  one_more : left ≡ suc (left - 1)
  one_more = omega arith

  same_here : {b : Bool} → same k key ≡ b → same (key_at g img i) key ≡ b
  same_here e = ap (λ (t : Bytes). same t key) (sym is) ∙ e

  vacant-here : {b : Bool} → all_zero k ≡ b → vacant g (slot g img i) ≡ b
  unfolding vacant
  vacant-here v = ap all_zero (sym is) ∙ v

  read-met : same k key ≡ true → (probe g img key left i ≡ met i) × (read_from g img key left i ≡ 1)
  read-met e = (
    ap (λ (n : ℕ). probe g img key n i) one_more ∙ turn-met g img key (left - 1) i (same_here e),
    ap (λ (n : ℕ). read_from g img key n i) one_more ∙ from-met g img key (left - 1) i (same_here e),
  )

  read-empty : same k key ≡ false → all_zero k ≡ true
      → (probe g img key left i ≡ empty i) × (read_from g img key left i ≡ 1)
  read-empty e v = (
    ap (λ (n : ℕ). probe g img key n i) one_more
        ∙ turn-empty g img key (left - 1) i (same_here e) (vacant-here v),
    ap (λ (n : ℕ). read_from g img key n i) one_more
        ∙ from_empty g img key (left - 1) i (same_here e) (vacant-here v),
  )

  -- another key stands there
  pub read-on : same k key ≡ false → all_zero k ≡ false → {j : ℕ} → j ≡ next g.N i
      → GoesOn g img key left i (left - 1) j
  read-on e v {j} at =
      let turn = ap (λ (n : ℕ). read_from g img key n i) one_more
      ∙ from_on g img key (left - 1) i (same_here e) (vacant-here v)
      ∙ ap (λ (n : ℕ). suc (read_from g img key (left - 1) n)) (sym at) in
      record {
        fewer = omega arith;
        ended =
            ap (λ (n : ℕ). probe g img key n i) one_more
            ∙ turn_on g img key (left - 1) i (same_here e) (vacant-here v)
            ∙ ap (λ (n : ℕ). probe g img key (left - 1) n) (sym at);
        reads = omega (arith, turn);
      }

-- ---- from home to the end
module _ (img key : Bytes) (s : Shape) (o : Open img s) where
  abbrev g : Layout
  g = layout_of img

  -- with `left` slots left, the search goes on at slot i
  abbrev pub Searching : ℕ → ℕ → Type 0
  Searching left i = GoesOn g img key s.slots (home g key) left i

  pub search-start : {i : ℕ} → i ≡ home g key → Searching s.slots i
  search-start {i} at = subst (Searching s.slots) (sym at) (goes_same g img key s.slots (home g key))

  -- how the search ended, and how many slots it read
  abbrev Ended : Probe → ℕ → Type 0
  Ended p n = (p ≡ search g img key) × (n ≡ slots_read g img key)

  ended_is : {left i : ℕ} → Searching left i → {p : Probe} {n m : ℕ}
      → (probe g img key left i ≡ p) × (read_from g img key left i ≡ m) → n + left ≡ m + s.slots → Ended p n
  unfolding search slots_read
  ended_is c {p} {n} t sum =
      let slots = layout-slots img s o.shape in (
        sym (ap (λ (m : ℕ). probe g img key m (home g key)) slots ∙ c.ended ∙ t.0),
        sym (ap (λ (m : ℕ). read_from g img key m (home g key)) slots ∙ omega (arith, c.reads, t.1)),
      )

  module _ {left i : ℕ} (c : Searching left i) where
    pub ended-exhausted : left ≡ 0 → Ended exhausted s.slots
    unfolding probe read_from
    ended-exhausted z =
        ended_is c (ap (λ (n : ℕ). probe g img key n i) z, ap (λ (n : ℕ). read_from g img key n i) z) (omega arith)

    module _ (some' : 0 < left) (k : Bytes) (is : k ≡ key_at g img i) where
      pub ended-met : same k key ≡ true → Ended (met i) (s.slots - left + 1)
      ended-met e = ended_is c (read-met g img key left i some' k is e) (omega (arith, c.fewer))

      pub ended-empty : same k key ≡ false → all_zero k ≡ true → Ended (empty i) (s.slots - left + 1)
      ended-empty e v = ended_is c (read-empty g img key left i some' k is e v) (omega (arith, c.fewer))

-- ---- slots that hold other keys
pub stored-length : (img : Bytes) (s : Shape) → Open img s → (i : ℕ) → i < s.slots
    → (k : Bytes) → k ≡ key_at (layout_of img) img i → length k ≡ s.keylen
stored-length img s o i l k e =
    let g = layout_of img in
    let n = layout-slots img s o.shape in
    ap length e ∙ length-key_of g (slot g img i) (length-slot g img (room img o.accepted) i (omega arith))
    ∙ layout-key img s o.shape

pub other-tail : (k key : Bytes) (x y : ℕ) → length k ≡ length key
    → x ≡ little (part k (length k - 4) 4) → y ≡ little (part key (length key - 4) 4)
    → (eqb x y || eqb x 0) ≡ false → (same k key ≡ false) × (all_zero k ≡ false)
other-tail k key x y l p q e =
    other_key k key (length k - 4) 4 x y p (q ∙ ap (λ (n : ℕ). little (part key (n - 4) 4)) (sym l)) e
