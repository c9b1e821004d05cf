-- Document 02, Job 11: one message carried into a target: which bytes it writes, and which it leaves.
--     carry-size, carry-free, carry-page     the length stays; X and M
--     carry-there       the message, header and text, stands where X was
--     carry-slot        its slot has the key, and the offset where it stands
--     carry-slot-other  the other slots are as before
--     carry-other       all other bytes are as before
-- Assumes nothing.
use mathlib.Core.Path.{◌≡◌, refl, sym, ap, ◌∙◌, subst}
use Prim.Native.Nat.{ℕ, suc, ◌+◌, ◌*◌, ◌≤◌, ◌<◌}
use native.Mathlib.Nat.{suc-mul, mul-le-mul_right}
use native.Mathlib.Omega.{arith}
use mathlib.Core.Logic.{inl, inr}
use lib.ListN.{length}
use Rattle.spec_file.specs.Bytes.{Bytes, part, store, number}
use Rattle.spec_file.specs.Limits.{free_field, page_field, header_size, table_start, word}
use Rattle.spec_file.specs.Image.{field, set_field, last_page, Layout, layout_of, slot_size, slot_start, slot, put_slot, slot_bytes}
use Rattle.spec_file.specs.Messages.{head_size, message, set_free, take_space}
use Rattle.spec_conversion.specs.Convert.{carried}
use Rattle.law_file.proofs.Tests.{by-either}
use Rattle.law_file.proofs.Bytes.{Apart, length-store, part-store-other, part-store-below}
use Rattle.law_file.proofs.Slots.{Room, slot-end, slot-above, length-set_field, field-set_field-same, part-set_field-other, length-put_slot, slot-put_slot-same, slot-put_slot-other, length-entry}
use Rattle.law_file.proofs.Opened.{Opened, opened-room}
use Rattle.law_file.proofs.Effects.{length-message, Spaced, spaced}

module _ (l : Layout) (t : Bytes) (is : layout_of t ≡ l) (o : Opened t) (i : ℕ) (low : i < l.N) (key text : Bytes)
    (long : length key ≡ l.K) (fits : field t free_field + head_size l + length text ≤ length t) where
  abbrev X : ℕ
  X = field t free_field

  abbrev X' : ℕ
  X' = X + head_size l + length text

  -- with the message, before its slot is written
  abbrev mid : Bytes
  mid = take_space l t text

  abbrev entry : Bytes
  entry = slot_bytes key X

  abbrev t' : Bytes
  t' = carried l t i key text

  S : Spaced l t text
  S =
      subst (λ (x : Layout). field t free_field + head_size x + length text ≤ length t → Spaced x t text) is
      (λ f. spaced t o text f) fits

  room : Room l (length t)
  room = subst (λ (x : Layout). Room x (length t)) is (opened-room t o)

  mid-room : Room l (length mid)
  mid-room = rw S.kept.fixed.size room

  full : length entry ≡ slot_size l
  full = length-entry l key X long

  is-put : t' ≡ put_slot l mid i entry
  unfolding carried
  is-put = refl

  -- ---- the message

  abbrev written : Bytes
  written = store t X (message l.W text)

  abbrev first : Bytes
  first = set_field written free_field X'

  in_image : X + length (message l.W text) ≤ length t
  in_image = rw (length-message l text) (omega (arith, fits))

  length-written : length written ≡ length t
  length-written = length-store t X (message l.W text) in_image

  length-first : length first ≡ length t
  length-first = length-set_field written free_field X' (omega (arith, length-written, o.size_low)) ∙ length-written

  is-mid : mid ≡ set_field first page_field (last_page l.D X')
  unfolding take_space set_free
  is-mid = refl

  mid-other : (q m : ℕ) → Apart q m free_field 8 → Apart q m X (head_size l + length text) → part mid q m ≡ part t q m
  mid-other q m a c =
      ap (λ (x : Bytes). part x q m) is-mid
      ∙ part-set_field-other first page_field (last_page l.D X') q m (omega (arith, length-first, o.size_low))
      (by-either a (λ h. inl (omega arith)) (λ h. inr (omega arith)))
      ∙ part-set_field-other written free_field X' q m (omega (arith, length-written, o.size_low))
      (by-either a (λ h. inl (omega arith)) (λ h. inr (omega arith)))
      ∙ part-store-other t X (message l.W text) q m in_image (subst (Apart q m X) (sym (length-message l text)) c)

  mid-page : last_page l.D X' < word → field mid page_field ≡ last_page l.D X'
  mid-page h =
      ap (λ (x : Bytes). field x page_field) is-mid
      ∙ field-set_field-same first page_field (last_page l.D X') (omega (arith, length-first, o.size_low)) h

  -- ---- the slot

  put_in : slot_start l i + length entry ≤ length mid
  put_in = omega (arith, full, slot-end l mid-room i low, mid-room.area)

  put_other : (q m : ℕ) → Apart q m (slot_start l i) (slot_size l) → part t' q m ≡ part mid q m
  unfolding put_slot
  put_other q m a =
      ap (λ (x : Bytes). part x q m) is-put
      ∙ part-store-other mid (slot_start l i) entry q m put_in (subst (Apart q m (slot_start l i)) (sym full) a)

  put-field : (at : ℕ) → at + 4 ≤ table_start → field t' at ≡ field mid at
  unfolding field
  put-field at h = ap number (put_other at 4 (inl (omega (arith, slot-above l i))))

  -- ---- both

  pub carry-size : length t' ≡ length t
  carry-size =
      ap length is-put ∙ length-put_slot l mid mid-room i entry low full ∙ S.kept.fixed.size

  pub carry-free : field t' free_field ≡ X'
  carry-free = put-field free_field (omega arith) ∙ S.free

  pub carry-page : last_page l.D X' < word → field t' page_field ≡ last_page l.D X'
  carry-page h = put-field page_field (omega arith) ∙ mid-page h

  data-low : l.D ≤ X
  data-low = subst (λ (x : Layout). x.D ≤ X) is (unfold layout_of in o.free-low)

  -- a part that does not meet the table
  table-other : (q m : ℕ) → Apart q m table_start (l.N * slot_size l) → Apart q m (slot_start l i) (slot_size l)
  table-other q m a =
      by-either a
      (λ h. inl (omega (arith, slot-above l i)))
      (λ h. inr (omega (arith, inside)))
    where
      inside : slot_start l i + slot_size l ≤ table_start + l.N * slot_size l
      inside =
          let le : suc i * slot_size l ≤ l.N * slot_size l = mul-le-mul_right (slot_size l) low in
          unfold slot_start in omega (arith, le, suc-mul i (slot_size l))

  pub carry-there : part t' X (head_size l + length text) ≡ message l.W text
  carry-there =
      put_other X (head_size l + length text) (inr (omega (arith, slot-end l room i low, data-low)))
      ∙ S.there

  pub carry-slot : slot l t' i ≡ entry
  carry-slot = ap (λ (x : Bytes). slot l x i) is-put ∙ slot-put_slot-same l mid mid-room i entry low full

  pub carry-slot-other : (j : ℕ) → j < l.N → (j ≡ i → ⊥) → slot l t' j ≡ slot l t j
  carry-slot-other j h n =
      ap (λ (x : Bytes). slot l x j) is-put
      ∙ slot-put_slot-other l mid mid-room i entry j low full n
      ∙ S.slots j h

  -- X and M, the table and the message aside
  pub carry-other : (q m : ℕ) → Apart q m free_field 8 → Apart q m table_start (l.N * slot_size l)
      → Apart q m X (head_size l + length text)
      → part t' q m ≡ part t q m
  carry-other q m a b c = put_other q m (table-other q m b) ∙ mid-other q m a c
