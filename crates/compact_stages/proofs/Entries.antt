-- A slot's bytes and their key and offset; a slot's offset written.
--     four-back, slot-back      digits of a number read from bytes are these bytes; an entry of a slot's own parts
--     table-above               a slot ends at or below the table's end
-- Assumes nothing.
use mathlib.Core.Path.{◌≡◌, refl, sym, ap, ap₂, ◌∙◌, subst}
use Prim.Native.Nat.{ℕ, zero, suc, ◌+◌, ◌-◌, ◌*◌, ◌/◌, ◌%◌, ◌≤◌, ◌<◌}
use native.Mathlib.Nat.{mul-le-mul_right, suc-mul}
use native.Mathlib.Omega.{arith}
use mathlib.Core.Bool.{true, false, not, and-false}
use mathlib.Core.List.{[], ◌∷◌, ◌++◌}
use lib.ListN.{length, take, drop, get_or, length-drop, take-append-drop}
use lib.Seq.{drop-drop, get_or-drop}
use borrow.Author.Tests.{eq-eqb, ne_eqb}
use Rattle.spec_file.specs.Bytes.{Bytes, part, store, number, digits}
use Rattle.spec_file.specs.Limits.{table_start}
use Rattle.spec_file.specs.Image.{set_field, Layout, layout_of, slot_size, slot_start, slot, put_slot, key_of, offset_of, slot_bytes, vacant}
use Rattle.spec_file.specs.Messages.{is_active}
use Rattle.spec_file.specs.Inspect.{taken}
use mathlib.Core.Logic.{inr}
use Rattle.law_file.proofs.Bytes.{AreBytes, part_length, part-store-other}
use Rattle.law_file.proofs.Stores.{store-append}
use Rattle.law_file.proofs.Slots.{Room, key_of-slot}
use Rattle.bytes_compare.proofs.Little.{bytes-part}
use Rattle.law_file.proofs.Tests.{by_bool}
use Rattle.compact_stages.specs.Stages.{offset_in, key_in, span_in, dead_in, active_in, table_end}

-- ---- four bytes
digit-first : (a b c d : ℕ) → a < 256 → b < 256 → c < 256 → d < 256
    → (a * 16777216 + (b * 65536 + (c * 256 + (d * 1 + 0)))) / 16777216 % 256 ≡ a
digit-first a b c d ha hb hc hd =
    let x = a * 16777216 + (b * 65536 + (c * 256 + (d * 1 + 0))) in
    let e : x / 16777216 ≡ a = omega arith in
    omega (arith, e)

digit-second : (a b c d : ℕ) → a < 256 → b < 256 → c < 256 → d < 256
    → (a * 16777216 + (b * 65536 + (c * 256 + (d * 1 + 0)))) / 65536 % 256 ≡ b
digit-second a b c d ha hb hc hd =
    let x = a * 16777216 + (b * 65536 + (c * 256 + (d * 1 + 0))) in
    let e : x / 65536 ≡ a * 256 + b = omega arith in
    omega (arith, e)

digit-third : (a b c d : ℕ) → a < 256 → b < 256 → c < 256 → d < 256
    → (a * 16777216 + (b * 65536 + (c * 256 + (d * 1 + 0)))) / 256 % 256 ≡ c
digit-third a b c d ha hb hc hd =
    let x = a * 16777216 + (b * 65536 + (c * 256 + (d * 1 + 0))) in
    let e : x / 256 ≡ a * 65536 + b * 256 + c = omega arith in
    omega (arith, e)

digit-last : (a b c d : ℕ) → a < 256 → b < 256 → c < 256 → d < 256
    → (a * 16777216 + (b * 65536 + (c * 256 + (d * 1 + 0)))) / 1 % 256 ≡ d
digit-last a b c d ha hb hc hd =
    let x = a * 16777216 + (b * 65536 + (c * 256 + (d * 1 + 0))) in
    let e : x / 1 ≡ x = omega arith in
    omega (arith, e)

pub four-back : (v : Bytes) → length v ≡ 4 → AreBytes v → digits 4 (number v) ≡ v
unfolding digits number
four-back [] l h = absurd (omega (arith, l))
four-back (a ∷ []) l h = absurd (omega (arith, l))
four-back (a ∷ b ∷ []) l h = absurd (omega (arith, l))
four-back (a ∷ b ∷ c ∷ []) l h = absurd (omega (arith, l))
four-back (a ∷ b ∷ c ∷ d ∷ []) l h =
    ap₂ ◌∷◌ (digit-first a b c d (h 0) (h 1) (h 2) (h 3))
    (ap₂ ◌∷◌ (digit-second a b c d (h 0) (h 1) (h 2) (h 3))
    (ap₂ ◌∷◌ (digit-third a b c d (h 0) (h 1) (h 2) (h 3))
    (ap (λ (x : ℕ). x ∷ []) (digit-last a b c d (h 0) (h 1) (h 2) (h 3)))))
four-back (a ∷ b ∷ c ∷ d ∷ e ∷ v) l h = absurd (omega (arith, l))

-- ---- a slot
pub slot-back : (g : Layout) (s : Bytes) → length s ≡ slot_size g → AreBytes s
    → slot_bytes (key_of g s) (offset_of g s) ≡ s
unfolding slot_bytes key_of offset_of slot_size
slot-back g s l h =
    ap (λ (v : Bytes). take g.K s ++ v)
    (four-back (drop g.K s) (rw length-drop (omega (arith, l)))
    (λ i. rw (get_or-drop g.K s i 0) (h (g.K + i))))
    ∙ take-append-drop g.K s

pub slot-bytes : (g : Layout) (img : Bytes) (i : ℕ) → AreBytes img → AreBytes (slot g img i)
unfolding slot
slot-bytes g img i h = bytes-part img (slot_start g i) (slot_size g) h

pub table-above : (g : Layout) (i : ℕ) → i < g.N → slot_start g i + slot_size g ≤ table_end g
unfolding slot_start
table-above g i h =
    let le : suc i * slot_size g ≤ g.N * slot_size g = mul-le-mul_right (slot_size g) h in
    omega (arith, suc-mul i (slot_size g), le)

-- ---- what stands behind the table

-- a slot's write does not reach what stands between table and data area
pub behind-put_slot : (g : Layout) (img : Bytes) (i : ℕ) (v : Bytes) → Room g (length img) → i < g.N
    → length v ≡ slot_size g
    → part (put_slot g img i v) (table_end g) (g.D - table_end g) ≡ part img (table_end g) (g.D - table_end g)
unfolding put_slot
behind-put_slot g img i v r l e =
    part-store-other img (slot_start g i) v (table_end g) (g.D - table_end g)
    (omega (arith, e, table-above g i l, r.table, r.area))
    (inr (omega (arith, e, table-above g i l)))

-- ---- whether a slot's message is inactive
module _ (img : Bytes) (i : ℕ) where
  pub dead-none : offset_in img i ≡ 0 → dead_in img i ≡ false
  unfolding dead_in
  dead-none z = rw (eq-eqb (offset_in img i) 0 z) (and-false (taken (layout_of img) img i))

  pub dead-vacant : vacant (layout_of img) (slot (layout_of img) img i) ≡ true → dead_in img i ≡ false
  unfolding dead_in taken
  dead-vacant v = rw v refl

  pub dead-is : (offset_in img i ≡ 0 → ⊥) → vacant (layout_of img) (slot (layout_of img) img i) ≡ false
      → dead_in img i ≡ not (is_active img (offset_in img i))
  unfolding dead_in taken
  dead-is z v = rw (v, ne_eqb (offset_in img i) 0 z) refl

  pub vacant-taken : vacant (layout_of img) (slot (layout_of img) img i) ≡ false → taken (layout_of img) img i ≡ true
  unfolding taken
  vacant-taken v = ap not v

-- ---- the bytes of an active message

module _ (img : Bytes) (i : ℕ) where
  pub active-vacant : vacant (layout_of img) (slot (layout_of img) img i) ≡ true → active_in img i ≡ 0
  unfolding active_in taken
  active-vacant v = rw v refl

  pub active-quiet : is_active img (offset_in img i) ≡ false → active_in img i ≡ 0
  unfolding active_in
  active-quiet a =
      by_bool (taken (layout_of img) img i) (λ t. rw (t, a) refl) (λ t. rw t refl)

  pub active-is : vacant (layout_of img) (slot (layout_of img) img i) ≡ false → is_active img (offset_in img i) ≡ true
      → active_in img i ≡ span_in img i
  unfolding active_in taken
  active-is v a = rw (v, a) refl
