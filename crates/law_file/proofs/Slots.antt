-- Laws of fields and slots: what is read after a write, there and elsewhere.
--     Room g img        the table and the data area lie in the image: 2,048 + N × (K + 4) ≤ D ≤ L
-- Assumes nothing.
use mathlib.Core.Path.{◌≡◌, sym, ap, ap₂, ◌∙◌}
use Prim.Native.Nat.{ℕ, suc, ◌+◌, ◌*◌, ◌^◌, ◌≤◌, ◌<◌}
use native.Mathlib.Nat.{mul-le-mul_right, suc-mul}
use native.Mathlib.Omega.{arith}
use mathlib.Core.Bool.{true}
use mathlib.Core.Logic.{◌⊎◌, inl, inr}
use lib.ListN.{length, take, drop, replicate, length-append, length-replicate, replicate-append-replicate}
use lib.Seq.{take_at, drop_at, take-take, length-take-le}
use Rattle.spec_file.specs.Bytes.{Bytes, part, store, number, digits, zeros, all_zero}
use Rattle.spec_file.specs.Limits.{word, table_start}
use Rattle.spec_file.specs.Image.{field, set_field, major_of, wide, most_of, width_of, Layout, layout_of, slot_size, slot_start, slot, put_slot, key_of, offset_of, slot_bytes, blank, vacant}
use Rattle.law_file.proofs.Tests.{by_bool, by_le, by-eq}
use Rattle.law_file.proofs.Bytes.{part_length, length-store, part-store-same, part-store-other, Apart, length_digits, number-digits-fits, length-zeros, all_zero-zeros}

-- ---- fields

pub length-set_field : (img : Bytes) (at n : ℕ) → at + 4 ≤ length img → length (set_field img at n) ≡ length img
unfolding set_field
length-set_field img at n h = length-store img at (digits 4 n) (rw (length_digits 4 n) h)

pub field-set_field-same : (img : Bytes) (at n : ℕ) → at + 4 ≤ length img → n < word → field (set_field img at n) at ≡ n
unfolding field set_field
field-set_field-same img at n h f =
    ap (λ (m : ℕ). number (part (store img at (digits 4 n)) at m)) (sym (length_digits 4 n))
    ∙ ap number (part-store-same img at (digits 4 n) (omega arith))
    ∙ number-digits-fits 4 n f

pub field-store-other : (img : Bytes) (p : ℕ) (v : Bytes) (at : ℕ) → p + length v ≤ length img → Apart at 4 p (length v)
    → field (store img p v) at ≡ field img at
unfolding field
field-store-other img p v at h a = ap number (part-store-other img p v at 4 h a)

pub field-set_field-other : (img : Bytes) (p n at : ℕ) → p + 4 ≤ length img → Apart at 4 p 4
    → field (set_field img p n) at ≡ field img at
unfolding set_field
field-set_field-other img p n at h a =
    field-store-other img p (digits 4 n) at (rw (length_digits 4 n) h) (rw (length_digits 4 n) a)

pub part-set_field-other : (img : Bytes) (p n q m : ℕ) → p + 4 ≤ length img → Apart q m p 4
    → part (set_field img p n) q m ≡ part img q m
unfolding set_field
part-set_field-other img p n q m h a =
    part-store-other img p (digits 4 n) q m (rw (length_digits 4 n) h) (rw (length_digits 4 n) a)

-- ---- slots

-- 2,048 + N × (K + 4) ≤ D ≤ L
pub record Room (g : Layout) (len : ℕ) : Type 0 where
  pub table : table_start + g.N * slot_size g ≤ g.D
  pub area : g.D ≤ len

-- question 12's bound can be written in the W bytes of a message's length
pub layout-most : (img : Bytes) → (layout_of img).most < 256 ^ (layout_of img).W
unfolding layout_of most_of width_of
layout-most img = by_bool (wide (major_of img)) (λ y. rw y (omega arith)) (λ n. rw n (omega arith))

-- a slot ends at or below the data offset
pub slot-end : (g : Layout) {len : ℕ} → Room g len → (i : ℕ) → i < g.N → slot_start g i + slot_size g ≤ g.D
unfolding slot_start
slot-end g r i h =
    let le : suc i * slot_size g ≤ g.N * slot_size g = mul-le-mul_right (slot_size g) h in
    omega (arith, suc-mul i (slot_size g), r.table)

pub slot-above : (g : Layout) (i : ℕ) → table_start ≤ slot_start g i
unfolding slot_start
slot-above g i = omega arith

-- the m bytes from p on are the header's or the data area's
abbrev pub Outside : Layout → ℕ → ℕ → Type 0
Outside g p m = (p + m ≤ table_start) ⊎ (g.D ≤ p)

-- a slot's key is its first K bytes
pub key_of-slot : (g : Layout) (img : Bytes) (i : ℕ) → key_of g (slot g img i) ≡ part img (slot_start g i) g.K
unfolding key_of slot slot_size part
key_of-slot g img i = take-take g.K (g.K + 4) (drop (slot_start g i) img) (omega arith)

-- two slots have no byte in common
pub slots_apart : (g : Layout) (i j : ℕ) → (i ≡ j → ⊥) → Apart (slot_start g i) (slot_size g) (slot_start g j) (slot_size g)
unfolding slot_start
slots_apart g i j n =
    by_le (suc i) j
    (λ h.
    let le : suc i * slot_size g ≤ j * slot_size g = mul-le-mul_right (slot_size g) h in
    inl (omega (arith, suc-mul i (slot_size g))))
    (λ h.
    let less : suc j ≤ i = by-eq i j (λ e. absurd (n e)) (λ n'. omega arith) in
    let le : suc j * slot_size g ≤ i * slot_size g = mul-le-mul_right (slot_size g) less in
    inr (omega (arith, suc-mul j (slot_size g))))

module _ (g : Layout) (img : Bytes) (r : Room g (length img)) where
  pub length-slot : (i : ℕ) → i < g.N → length (slot g img i) ≡ slot_size g
  unfolding slot
  length-slot i h = part_length img (slot_start g i) (slot_size g) (omega (arith, slot-end g r i h, r.area))

  -- a slot's place lies in the image
  slot-in : (i : ℕ) (s : Bytes) → i < g.N → length s ≡ slot_size g → slot_start g i + length s ≤ length img
  slot-in i s h e = omega (arith, slot-end g r i h, r.area)

  pub length-put_slot : (i : ℕ) (s : Bytes) → i < g.N → length s ≡ slot_size g → length (put_slot g img i s) ≡ length img
  unfolding put_slot
  length-put_slot i s h e = length-store img (slot_start g i) s (slot-in i s h e)

  pub slot-put_slot-same : (i : ℕ) (s : Bytes) → i < g.N → length s ≡ slot_size g → slot g (put_slot g img i s) i ≡ s
  unfolding slot put_slot
  slot-put_slot-same i s h e =
      ap (part (store img (slot_start g i) s) (slot_start g i)) (sym e)
      ∙ part-store-same img (slot_start g i) s (omega (arith, slot-in i s h e))

  pub slot-put_slot-other : (i : ℕ) (s : Bytes) (j : ℕ) → i < g.N → length s ≡ slot_size g → (j ≡ i → ⊥)
      → slot g (put_slot g img i s) j ≡ slot g img j
  unfolding slot put_slot
  slot-put_slot-other i s j h e n =
      part-store-other img (slot_start g i) s (slot_start g j) (slot_size g) (slot-in i s h e)
      (rw e (slots_apart g j i n))

  -- the header and the data area are not the table's
  pub part-put_slot-outside : (i : ℕ) (s : Bytes) (p m : ℕ) → i < g.N → length s ≡ slot_size g → Outside g p m
      → part (put_slot g img i s) p m ≡ part img p m
  unfolding put_slot
  part-put_slot-outside i s p m h e (inl f) =
      part-store-other img (slot_start g i) s p m (slot-in i s h e) (inl (omega (arith, slot-above g i)))
  part-put_slot-outside i s p m h e (inr f) =
      part-store-other img (slot_start g i) s p m (slot-in i s h e) (inr (omega (arith, slot-end g r i h)))

  pub field-put_slot : (i : ℕ) (s : Bytes) (at : ℕ) → i < g.N → length s ≡ slot_size g → at + 4 ≤ table_start
      → field (put_slot g img i s) at ≡ field img at
  unfolding field
  field-put_slot i s at h e f = ap number (part-put_slot-outside i s at 4 h e (inl f))

  -- a write to the header or to the data area changes no slot
  pub slot-store-data : (p : ℕ) (v : Bytes) (i : ℕ) → i < g.N → g.D ≤ p → p + length v ≤ length img
      → slot g (store img p v) i ≡ slot g img i
  unfolding slot
  slot-store-data p v i h f k =
      part-store-other img p v (slot_start g i) (slot_size g) k (inl (omega (arith, slot-end g r i h)))

  pub slot-set_field : (at n i : ℕ) → at + 4 ≤ table_start → i < g.N → slot g (set_field img at n) i ≡ slot g img i
  unfolding slot
  slot-set_field at n i f h =
      part-set_field-other img at n (slot_start g i) (slot_size g)
      (omega (arith, slot-end g r i h, r.area, slot-above g i))
      (inr (omega (arith, slot-above g i)))

-- ---- entries and blanks

module _ (g : Layout) where
  pub length-entry : (key : Bytes) (o : ℕ) → length key ≡ g.K → length (slot_bytes key o) ≡ slot_size g
  unfolding slot_bytes slot_size
  length-entry key o e = length-append key (digits 4 o) ∙ ap₂ ◌+◌ e (length_digits 4 o)

  pub key_of-entry : (key : Bytes) (o : ℕ) → length key ≡ g.K → key_of g (slot_bytes key o) ≡ key
  unfolding key_of slot_bytes
  key_of-entry key o e = take_at key (digits 4 o) g.K e

  pub offset_of-entry : (key : Bytes) (o : ℕ) → length key ≡ g.K → o < word → offset_of g (slot_bytes key o) ≡ o
  unfolding offset_of slot_bytes
  offset_of-entry key o e f = ap number (drop_at key (digits 4 o) g.K e) ∙ number-digits-fits 4 o f

  pub length-blank : length (blank g) ≡ slot_size g
  unfolding blank
  length-blank = length-zeros (slot_size g)

  pub length-key_of : (s : Bytes) → length s ≡ slot_size g → length (key_of g s) ≡ g.K
  unfolding key_of slot_size
  length-key_of s e = length-take-le g.K s (omega arith)

  pub vacant-blank : vacant g (blank g) ≡ true
  unfolding vacant blank key_of slot_size zeros
  vacant-blank = ap all_zero (take-zeros g.K 4) ∙ all_zero-zeros g.K
    where
      take-zeros : (k m : ℕ) → take k (zeros (k + m)) ≡ zeros k
      take-zeros k m =
          ap (take k) (sym (replicate-append-replicate k m 0))
          ∙ take_at (replicate k 0) (replicate m 0) k (length-replicate k 0)
