-- Document 02, Job 2: the image that a compaction leaves, byte by byte, and the messages in it.
--     Moved img o img' o' n       the n bytes from o on stand in img' from o' on
--     compacted-kept, compacted-points, compacted-free      the header
--     compacted-slot, compacted-key, compacted-offset       the table
--     compacted-bytes, compacted-rest, compacted-gap        the data area, and the bytes below it that no rule names
--     compacted-moved             an active message, header and text, at its new offset
--     compacted-stretches, compacted-tight                   the messages again
--     compacted-same, compacted-twice       where nothing is to be done; compacting twice is compacting once
-- Assumes nothing.
use mathlib.Core.Path.{◌≡◌, refl, sym, ap, ap₂, ◌∙◌, subst}
use Prim.Native.Nat.{ℕ, zero, suc, ◌+◌, ◌-◌, ◌*◌, ◌≤◌, ◌<◌}
use native.Mathlib.Nat.{zero-add, add-zero, suc-mul, mul-le-mul_right}
use native.Mathlib.Omega.{arith}
use mathlib.Core.Logic.{inl, inr}
use mathlib.Core.Bool.{true, false, not}
use mathlib.Core.List.{[], ◌++◌}
use lib.ListN.{length, take, drop, length-append, length-drop}
use lib.Seq.{take_all, take_at, drop_at, take-append-le, drop-append-le, drop-append-add}
use lib.Dec.{eqb}
use borrow.Author.Tests.{eq-eqb, ne_eqb}
use Rattle.spec_file.specs.Bytes.{Bytes, part, store, number, zeros, all_zero}
use Rattle.spec_file.specs.Limits.{word, active, points_field, free_field, page_field, header_size, table_start}
use Rattle.spec_file.specs.Image.{field, set_field, Layout, slot_size, slot_start, slot, key_of, offset_of, slot_bytes, vacant}
use Rattle.spec_file.specs.Messages.{head_size, letter_at, length_at, text_at, is_active, set_free}
use Rattle.spec_file.specs.Inspect.{taken}
use Rattle.spec_compaction.specs.Compact.{begins_at, packed_below, packed, packed_offset, packed_slot, packed_slots, packed_end, packed_data, lower_free, compacted}
use Rattle.law_file.proofs.Tests.{by_bool, by-eq, by_le, by-either, and_right}
use Rattle.law_file.proofs.Bytes.{part-add, part-part, Apart, length-store, part-store-inside, part-store-below, part-store-above, length-zeros}
use Rattle.law_file.proofs.Stores.{store-part}
use Rattle.law_file.proofs.Slots.{Room, slot-above, length-slot, length-key_of, length-entry, key_of-entry, offset_of-entry, slot-store-data, part-set_field-other, field-set_field-same, field-set_field-other, length-set_field}
use Rattle.law_file.proofs.Total.{total-same}
use Rattle.law_file.proofs.Kept.{Kept, kept_trans, kept_store, kept_free, kept-page}
use Rattle.law_file.proofs.Table.{weigh, weight}
use Rattle.law_file.proofs.Stretch.{span}
use Rattle.law_compaction.proofs.Packing.{start_at, Live, Stretches, live-begins}
use Rattle.law_compaction.proofs.Packed.{begins-active, begins-end, end_fits, length-parted, packed-at, packed-order, packed-end, span-some, tight-bytes, tight-at, active_span, packed-weight}

-- ---- bytes that stand elsewhere

pub record Moved (img : Bytes) (o : ℕ) (img' : Bytes) (o' n : ℕ) : Type 0 where
  pub on : (k m : ℕ) → k + m ≤ n → part img' (o' + k) m ≡ part img (o + k) m

module _ (g : Layout) (img : Bytes) (o : ℕ) (img' : Bytes) (o' : ℕ) (same : Moved img o img' o' (span g img o)) where
  pub letter_at-moved : letter_at img' o' ≡ letter_at img o
  unfolding letter_at head_size
  letter_at-moved =
      ap number
      (ap (λ (p : ℕ). part img' p 1) (sym (add-zero o')) ∙ same.on 0 1 (omega arith)
      ∙ ap (λ (p : ℕ). part img p 1) (add-zero o))

  pub length_at-moved : length_at g img' o' ≡ length_at g img o
  unfolding length_at head_size
  length_at-moved = ap number (same.on 1 g.W (omega arith))

  pub span-moved : span g img' o' ≡ span g img o
  span-moved = ap (λ (m : ℕ). head_size g + m) length_at-moved

  pub text_at-moved : text_at g img' o' ≡ text_at g img o
  unfolding text_at
  text_at-moved =
      ap (part img' (o' + head_size g)) length_at-moved ∙ same.on (head_size g) (length_at g img o) (omega arith)

part_none : (b : Bytes) (p n : ℕ) → n ≡ 0 → part b p n ≡ []
unfolding part
part_none b p n z = ap (λ (m : ℕ). take m (drop p b)) z

-- a part of what stands before a seam
part-before : (a c : Bytes) (p m : ℕ) → p + m ≤ length a → part (a ++ c) p m ≡ part a p m
unfolding part
part-before a c p m h =
    ap (take m) (drop-append-le p a c (omega arith))
    ∙ take-append-le m (drop p a) c (simp length-drop (omega arith))

-- and behind it
part-behind : (a c : Bytes) (k m : ℕ) → part (a ++ c) (length a + k) m ≡ part c k m
unfolding part
part-behind a c k m = ap (take m) (drop-append-add a c k)

-- ---- a slot afterwards

packed_slot-taken : (g : Layout) (img : Bytes) (i : ℕ) → taken g img i ≡ true
    → packed_slot g img i ≡ slot_bytes (key_of g (slot g img i)) (packed_offset g img (start_at g img i))
unfolding packed_slot
packed_slot-taken g img i t = rw t refl

packed_slot-vacant : (g : Layout) (img : Bytes) (i : ℕ) → taken g img i ≡ false → packed_slot g img i ≡ slot g img i
unfolding packed_slot
packed_slot-vacant g img i t = rw t refl

pub packed_offset-none : (g : Layout) (img : Bytes) → packed_offset g img 0 ≡ 0
unfolding packed_offset is_active
packed_offset-none g img = refl

-- ---- the image, in three steps

module _ (g : Layout) (img : Bytes) (ok : Stretches g img) where
  abbrev N : ℕ
  N = g.N

  -- ---- the slots that are written

  length-packed_slot : (i : ℕ) → i < N → length (packed_slot g img i) ≡ slot_size g
  unfolding packed_slot
  length-packed_slot i l =
      let size = length-slot g img ok.room i l in
      by_bool (taken g img i)
      (λ t. rw t (length-entry g (key_of g (slot g img i)) _ (length-key_of g (slot g img i) size)))
      (λ t. rw t size)

  length-packed_slots : (left i : ℕ) → i + left ≤ N → length (packed_slots g img left i) ≡ left * slot_size g
  unfolding packed_slots
  length-packed_slots zero i l = omega arith
  length-packed_slots (suc left) i l =
      let ih : length (packed_slots g img left (suc i)) ≡ left * slot_size g
      = length-packed_slots left (suc i) (omega arith) in
      length-append (packed_slot g img i) (packed_slots g img left (suc i))
      ∙ omega (arith, length-packed_slot i (omega arith), ih, suc-mul left (slot_size g))

  part-packed_slots : (left i k : ℕ) → k < left → i + left ≤ N
      → part (packed_slots g img left i) (k * slot_size g) (slot_size g) ≡ packed_slot g img (i + k)
  unfolding packed_slots
  part-packed_slots zero i k l h = absurd (omega arith)
  part-packed_slots (suc left) i zero l h =
      let size = length-packed_slot i (omega arith) in
      let q : i ≡ i + zero = omega arith in
      first (packed_slot g img i) (packed_slots g img left (suc i)) size ∙ ap (packed_slot g img) q
    where
      first : (a c : Bytes) → length a ≡ slot_size g → part (a ++ c) (zero * slot_size g) (slot_size g) ≡ a
      first a c e =
          let z : zero * slot_size g ≡ 0 = omega arith in
          ap (λ (p : ℕ). part (a ++ c) p (slot_size g)) z ∙ (unfold part in take_at a c (slot_size g) e)
  part-packed_slots (suc left) i (suc k) l h =
      let ih : part (packed_slots g img left (suc i)) (k * slot_size g) (slot_size g) ≡ packed_slot g img (suc i + k)
      = part-packed_slots left (suc i) k (omega arith) (omega arith) in
      let size = length-packed_slot i (omega arith) in
      let at : suc k * slot_size g ≡ length (packed_slot g img i) + k * slot_size g
      = omega (arith, suc-mul k (slot_size g)) in
      let q : suc i + k ≡ i + suc k = omega arith in
      ap (λ (p : ℕ). part (packed_slot g img i ++ packed_slots g img left (suc i)) p (slot_size g)) at
      ∙ part-behind (packed_slot g img i) (packed_slots g img left (suc i)) (k * slot_size g) (slot_size g)
      ∙ ih ∙ ap (packed_slot g img) q

  abbrev slots : Bytes
  slots = packed_slots g img N 0

  length-slots : length slots ≡ N * slot_size g
  length-slots = length-packed_slots N 0 (omega arith)

  abbrev tabled : Bytes
  tabled = store img table_start slots

  tabled-in : table_start + length slots ≤ length img
  tabled-in = omega (arith, length-slots, ok.room.table, ok.room.area)

  tabled-length : length tabled ≡ length img
  tabled-length = length-store img table_start slots tabled-in

  -- ---- the data area

  abbrev end : ℕ
  end = packed_end g img

  end_is : end ≡ g.D + length (packed g img)
  unfolding packed_end
  end_is = refl

  end_low : end ≤ length img
  end_low = omega (arith, end_fits g img ok, ok.free-high)

  length-data : length (packed_data g img) ≡ length img - g.D
  unfolding packed_data
  length-data =
      length-append (packed g img) (zeros (length img - end))
      ∙ omega (arith, length-zeros (length img - end), end_low, end_is)

  abbrev filled : Bytes
  filled = store tabled g.D (packed_data g img)

  filled_in : g.D + length (packed_data g img) ≤ length tabled
  filled_in = omega (arith, length-data, tabled-length, ok.room.area)

  filled-length : length filled ≡ length img
  filled-length = length-store tabled g.D (packed_data g img) filled_in ∙ tabled-length

  header-in : header_size ≤ length img
  header-in = omega (arith, ok.room.table, ok.room.area)

  -- bytes below the table, and from its end up to D
  filled-below : (q m : ℕ) → q + m ≤ table_start → part filled q m ≡ part img q m
  filled-below q m h =
      part-store-below tabled g.D (packed_data g img) q m (omega (arith, filled_in)) (omega (arith, ok.room.table))
      ∙ part-store-below img table_start slots q m (omega (arith, tabled-in)) h

  filled-gap : (q m : ℕ) → table_start + N * slot_size g ≤ q → q + m ≤ g.D → part filled q m ≡ part img q m
  filled-gap q m lo hi =
      part-store-below tabled g.D (packed_data g img) q m (omega (arith, filled_in)) hi
      ∙ part-store-above img table_start slots q m tabled-in (omega (arith, length-slots))

  filled-slot : (i : ℕ) → i < N → slot g filled i ≡ packed_slot g img i
  filled-slot i l =
      let le : suc i * slot_size g ≤ N * slot_size g = mul-le-mul_right (slot_size g) l in
      let there : slot g tabled i ≡ part slots (i * slot_size g) (slot_size g) =
      unfold slot slot_start in
      part-store-inside img table_start slots (i * slot_size g) (slot_size g) (omega (arith, tabled-in))
      (omega (arith, length-slots, suc-mul i (slot_size g))) in
      slot-store-data g tabled (subst (Room g) (sym tabled-length) ok.room) g.D (packed_data g img) i l
      (omega arith) filled_in
      ∙ there
      ∙ part-packed_slots N 0 i l (omega arith)
      ∙ ap (packed_slot g img) (zero-add i)

  filled-data : (k m : ℕ) → k + m ≤ length img - g.D → part filled (g.D + k) m ≡ part (packed_data g img) k m
  filled-data k m h =
      part-store-inside tabled g.D (packed_data g img) k m (omega (arith, filled_in)) (omega (arith, length-data))

  filled-free : field filled free_field ≡ field img free_field
  unfolding field
  filled-free = ap number (filled-below free_field 4 (omega arith))

  -- ---- X and M, where X changes

  by-lower : (P : Bytes → Type 0) → (field img free_field ≡ packed_end g img → P filled)
      → ((field img free_field ≡ packed_end g img → ⊥) → P (set_free g.D filled (packed_end g img)))
      → P (compacted g img)
  unfolding compacted lower_free
  by-lower P stays lowers =
      by-eq (field img free_field) (packed_end g img)
      (λ e. rw (eq-eqb (field filled free_field) (packed_end g img) (filled-free ∙ e)) (stays e))
      (λ n.
      rw (ne_eqb (field filled free_field) (packed_end g img) (λ e. n (sym filled-free ∙ e))) (lowers n))

  free-set : length (set_field filled free_field end) ≡ length img
  free-set = length-set_field filled free_field end (omega (arith, filled-length, header-in)) ∙ filled-length

  pub compacted-length : length (compacted g img) ≡ length img
  compacted-length =
      by-lower (λ (i : Bytes). length i ≡ length img) (λ e. filled-length)
      (λ n. unfold set_free in
      (length-set_field (set_field filled free_field end) page_field _ (omega (arith, free-set, header-in)) ∙ free-set))

  -- every byte but those of X and M
  other : (q m : ℕ) → Apart q m free_field 8 → part (compacted g img) q m ≡ part filled q m
  other q m a =
      by-lower (λ (i : Bytes). part i q m ≡ part filled q m) (λ e. refl)
      (λ n. unfold set_free in
      (part-set_field-other (set_field filled free_field end) page_field _ q m (omega (arith, free-set, header-in))
      (by-either a (λ l. inl (omega arith)) (λ l. inr (omega arith)))
      ∙ part-set_field-other filled free_field end q m (omega (arith, filled-length, header-in))
      (by-either a (λ l. inl (omega arith)) (λ l. inr (omega arith)))))

  pub compacted-kept : Kept img (compacted g img)
  compacted-kept =
      let k : Kept img filled =
      kept_trans (kept_store img table_start slots tabled-in (omega arith))
      (kept_store tabled g.D (packed_data g img) filled_in (omega (arith, ok.room.table))) in
      by-lower (λ (i : Bytes). Kept img i) (λ e. k)
      (λ n. unfold set_free in
      kept_trans k
      (kept_trans (kept_free filled end (omega (arith, filled-length, header-in)))
      (kept-page (set_field filled free_field end) _ (omega (arith, free-set, header-in)))))

  pub compacted-points : field (compacted g img) points_field ≡ field img points_field
  unfolding field
  compacted-points =
      ap number (other points_field 4 (inl (omega arith)) ∙ filled-below points_field 4 (omega arith))

  pub compacted-free : field (compacted g img) free_field ≡ end
  compacted-free =
      by-lower (λ (i : Bytes). field i free_field ≡ end) (λ e. filled-free ∙ e)
      (λ n. unfold set_free in
      (field-set_field-other (set_field filled free_field end) page_field _ free_field (omega (arith, free-set, header-in))
      (inl (omega arith))
      ∙ field-set_field-same filled free_field end (omega (arith, filled-length, header-in))
      (omega (arith, end_low, ok.small))))

  -- ---- the table

  pub compacted-slot : (i : ℕ) → i < N → slot g (compacted g img) i ≡ packed_slot g img i
  compacted-slot i l =
      let same : slot g (compacted g img) i ≡ slot g filled i =
      unfold slot in other (slot_start g i) (slot_size g) (inr (omega (arith, slot-above g i))) in
      same ∙ filled-slot i l

  pub compacted-key : (i : ℕ) → i < N → key_of g (slot g (compacted g img) i) ≡ key_of g (slot g img i)
  compacted-key i l =
      ap (key_of g) (compacted-slot i l)
      ∙ by_bool (taken g img i)
      (λ t.
      ap (key_of g) (packed_slot-taken g img i t)
      ∙ key_of-entry g (key_of g (slot g img i)) _ (length-key_of g (slot g img i) (length-slot g img ok.room i l)))
      (λ t. ap (key_of g) (packed_slot-vacant g img i t))

  pub compacted-vacant : (i : ℕ) → i < N → vacant g (slot g (compacted g img) i) ≡ vacant g (slot g img i)
  unfolding vacant
  compacted-vacant i l = ap all_zero (compacted-key i l)

  pub compacted-taken : (i : ℕ) → i < N → taken g (compacted g img) i ≡ taken g img i
  unfolding taken
  compacted-taken i l = ap not (compacted-vacant i l)

  -- where slot i's message stands afterwards
  abbrev new_at : ℕ → ℕ
  new_at i = packed_offset g img (start_at g img i)

  moved-active : (o : ℕ) → is_active img o ≡ true → packed_offset g img o ≡ g.D + length (packed_below g img o)
  unfolding packed_offset
  moved-active o a = rw a refl

  pub moved-inactive : (o : ℕ) → is_active img o ≡ false → packed_offset g img o ≡ 0
  unfolding packed_offset
  moved-inactive o a = rw a refl

  new_at-small : (i : ℕ) → i < N → taken g img i ≡ true → new_at i < word
  new_at-small i l t =
      by_bool (is_active img (start_at g img i))
      (λ a.
      let b = live-begins g img i (record { low = l; is = t; active = a }) in
      omega (arith, packed-end g img ok (start_at g img i) b, end_low, ok.small))
      (λ a. rw (moved-inactive (start_at g img i) a) (omega arith))

  pub compacted-entry : (i : ℕ) → i < N → taken g img i ≡ true
      → slot g (compacted g img) i ≡ slot_bytes (key_of g (slot g img i)) (new_at i)
  compacted-entry i l t = compacted-slot i l ∙ packed_slot-taken g img i t

  pub compacted-offset : (i : ℕ) → i < N → taken g img i ≡ true → start_at g (compacted g img) i ≡ new_at i
  compacted-offset i l t =
      ap (offset_of g) (compacted-entry i l t)
      ∙ offset_of-entry g (key_of g (slot g img i)) (new_at i)
      (length-key_of g (slot g img i) (length-slot g img ok.room i l)) (new_at-small i l t)

  -- ---- the data area

  pub compacted-bytes : (k m : ℕ) → k + m ≤ length img - g.D
      → part (compacted g img) (g.D + k) m ≡ part (packed_data g img) k m
  compacted-bytes k m h = other (g.D + k) m (inr (omega (arith, ok.room.table))) ∙ filled-data k m h

  pub compacted-packed : part (compacted g img) g.D (length (packed g img)) ≡ packed g img
  compacted-packed =
      ap (λ (p : ℕ). part (compacted g img) p (length (packed g img))) (sym (add-zero g.D))
      ∙ compacted-bytes 0 (length (packed g img)) (omega (arith, end_low, end_is))
      ∙ front
    where
      front : part (packed_data g img) 0 (length (packed g img)) ≡ packed g img
      front = unfold packed_data part in take_at (packed g img) _ (length (packed g img)) refl

  -- "zeroes every byte from X on"
  pub compacted-rest : part (compacted g img) end (length img - end) ≡ zeros (length img - end)
  compacted-rest =
      ap (λ (p : ℕ). part (compacted g img) p (length img - end)) end_is
      ∙ compacted-bytes (length (packed g img)) (length img - end) (omega (arith, end_low, end_is))
      ∙ back
    where
      back : part (packed_data g img) (length (packed g img)) (length img - end) ≡ zeros (length img - end)
      back =
          unfold packed_data part in
          (ap (take (length img - end)) (drop_at (packed g img) (zeros (length img - end)) (length (packed g img)) refl)
          ∙ take_all (length img - end) (zeros (length img - end)) (omega (arith, length-zeros (length img - end))))

  pub compacted-gap : (q m : ℕ) → table_start + N * slot_size g ≤ q → q + m ≤ g.D
      → part (compacted g img) q m ≡ part img q m
  compacted-gap q m lo hi = other q m (inr (omega arith)) ∙ filled-gap q m lo hi

  -- an active message at its new offset
  pub compacted-moved : (o : ℕ) → begins_at g img o ≡ true
      → Moved img o (compacted g img) (packed_offset g img o) (span g img o)
  compacted-moved o b = record { on = there }
    where
      l : o < field img free_field
      l = omega (arith, begins-end g img ok o b, span-some g img o)

      inside : (k m : ℕ) → k + m ≤ span g img o → length (packed_below g img o) + k + m ≤ length (packed g img)
      inside k m h = unfold packed in omega (arith, length-parted g img ok o b (field img free_field) l)

      ahead : (k m : ℕ) → k + m ≤ span g img o
          → part (packed_data g img) (length (packed_below g img o) + k) m
          ≡ part (packed g img) (length (packed_below g img o) + k) m
      ahead k m h =
          unfold packed_data in part-before (packed g img) _ (length (packed_below g img o) + k) m (inside k m h)

      block : part (packed g img) (length (packed_below g img o)) (span g img o) ≡ part img o (span g img o)
      block = unfold packed in packed-at g img ok o b (field img free_field) l

      there : (k m : ℕ) → k + m ≤ span g img o
          → part (compacted g img) (packed_offset g img o + k) m ≡ part img (o + k) m
      there k m h =
          let n = length (packed_below g img o) in
          let at : packed_offset g img o + k ≡ g.D + (n + k)
          = omega (arith, moved-active o (begins-active g img o b)) in
          ap (λ (p : ℕ). part (compacted g img) p m) at
          ∙ compacted-bytes (n + k) m (omega (arith, inside k m h, end_low, end_is))
          ∙ ahead k m h
          ∙ sym (part-part (packed g img) n (span g img o) k m h)
          ∙ ap (λ (x : Bytes). part x k m) block
          ∙ part-part img o (span g img o) k m h

  -- ---- the messages again

  pub moved-low : (i : ℕ) → Live g img i → g.D ≤ new_at i
  moved-low i v = omega (arith, moved-active (start_at g img i) v.active)

  pub active-again : (i : ℕ) → i < N → taken g img i ≡ true
      → is_active (compacted g img) (new_at i) ≡ is_active img (start_at g img i)
  unfolding is_active
  active-again i l t =
      let o = start_at g img i in
      by_bool (is_active img o)
      (λ a.
      let v : Live g img i = record { low = l; is = t; active = a } in
      let b = live-begins g img i v in
      let z : new_at i ≡ 0 → ⊥ = λ e. omega (arith, moved-low i v, ok.room.table) in
      rw (ne_eqb (new_at i) 0 z, letter_at-moved g img o (compacted g img) (new_at i) (compacted-moved o b))
      (and_right (not (eqb o 0)) (eqb (letter_at img o) active) a)
      ∙ sym a)
      (λ a. ap (is_active (compacted g img)) (moved-inactive o a) ∙ sym a)

  pub span-again : (i : ℕ) → Live g img i → span g (compacted g img) (new_at i) ≡ span g img (start_at g img i)
  span-again i s =
      span-moved g img (start_at g img i) (compacted g img) (new_at i)
      (compacted-moved (start_at g img i) (live-begins g img i s))

  pub live-before : (i : ℕ) → Live g (compacted g img) i → Live g img i
  live-before i v =
      let t = sym (compacted-taken i v.low) ∙ v.is in
      record {
        low = v.low;
        is = t;
        active =
            sym (active-again i v.low t)
            ∙ ap (is_active (compacted g img)) (sym (compacted-offset i v.low t))
            ∙ v.active;
      }

  new_at-is : (i : ℕ) → Live g img i → start_at g (compacted g img) i ≡ new_at i
  new_at-is i v = compacted-offset i v.low v.is

  new_at-apart : (i j : ℕ) → Live g img i → Live g img j → start_at g img i < start_at g img j
      → new_at i + span g img (start_at g img i) ≤ new_at j
  new_at-apart i j v w l = packed-order g img ok _ _ (live-begins g img i v) (live-begins g img j w) l

  -- slots with different messages, by the order of their offsets
  by_order {ℓ} : {A : Type ℓ} (i j : ℕ) → Live g img i → Live g img j
      → (new_at i + span g img (start_at g img i) ≤ new_at j → A)
      → (new_at j + span g img (start_at g img j) ≤ new_at i → A)
      → (i ≡ j → A) → A
  by_order i j v w less more same =
      by_le (suc (start_at g img i)) (start_at g img j)
      (λ l. less (new_at-apart i j v w l))
      (λ l. by-eq (start_at g img i) (start_at g img j)
      (λ e. same (ok.alone i j v w e))
      (λ e. more (new_at-apart j i w v (omega arith))))

  pub compacted-stretches : Stretches g (compacted g img)
  compacted-stretches =
      record {
        room = subst (Room g) (sym compacted-length) ok.room;
        free-low = rw compacted-free (omega (arith, end_is));
        free-high = rw (compacted-free, compacted-length) end_low;
        small = rw compacted-length ok.small;
        head = ok.head;
        low = λ i v. let v₀ = live-before i v in rw (new_at-is i v₀) (moved-low i v₀);
        end = λ i v.
            let v₀ = live-before i v in
            rw (new_at-is i v₀, span-again i v₀, compacted-free)
            (packed-end g img ok (start_at g img i) (live-begins g img i v₀));
        apart = λ i j v w l.
            let v₀ = live-before i v in
            let w₀ = live-before j w in
            let l₀ : new_at i < new_at j = omega (arith, new_at-is i v₀, new_at-is j w₀, l) in
            rw (new_at-is i v₀, new_at-is j w₀, span-again i v₀)
            (by_order i j v₀ w₀
            (λ h. h)
            (λ h. absurd (omega (arith, h)))
            (λ e. absurd (omega (arith, ap new_at e))));
        alone = λ i j v w e.
            let v₀ = live-before i v in
            let w₀ = live-before j w in
            let e₀ : new_at i ≡ new_at j = sym (new_at-is i v₀) ∙ e ∙ new_at-is j w₀ in
            by_order i j v₀ w₀
            (λ h. absurd (omega (arith, h, span-some g img (start_at g img i))))
            (λ h. absurd (omega (arith, h, span-some g img (start_at g img j))))
            (λ q. q);
      }

  weight-again : weight g (compacted g img) (active_span g (compacted g img)) ≡ weight g img (active_span g img)
  unfolding weight weigh active_span
  weight-again =
      total-same _ _ N
      (λ i l. by_bool (vacant g (slot g img i))
      (λ v. rw (compacted-vacant i l, v) refl)
      (λ v.
      let t : taken g img i ≡ true = unfold taken in ap not v in
      by_bool (is_active img (start_at g img i))
      (λ a.
      rw (compacted-vacant i l, v, compacted-offset i l t, active-again i l t, a)
      (span-again i (record { low = l; is = t; active = a })))
      (λ a. rw (compacted-vacant i l, v, compacted-offset i l t, active-again i l t, a) refl)))

  -- X is where the messages end
  pub compacted-tight : packed_end g (compacted g img) ≡ field (compacted g img) free_field
  unfolding packed_end
  compacted-tight =
      ap (λ (n : ℕ). g.D + n)
      (packed-weight g (compacted g img) compacted-stretches ∙ weight-again ∙ sym (packed-weight g img ok))
      ∙ sym compacted-free

-- ---- where nothing is to be done

-- every byte from X on is zero
abbrev pub Clear : Bytes → Type 0
Clear img =
    part img (field img free_field) (length img - field img free_field) ≡ zeros (length img - field img free_field)

module _ (g : Layout) (img : Bytes) (ok : Stretches g img) (tight : packed_end g img ≡ field img free_field)
    (slots : (i : ℕ) → i < g.N → packed_slot g img i ≡ slot g img i) (clear : Clear img) where
  same-slots : (left i : ℕ) → i + left ≤ g.N
      → packed_slots g img left i ≡ part img (slot_start g i) (left * slot_size g)
  unfolding packed_slots
  same-slots zero i l = sym (part_none img (slot_start g i) (zero * slot_size g) (omega arith))
  same-slots (suc left) i l =
      let ih : packed_slots g img left (suc i) ≡ part img (slot_start g (suc i)) (left * slot_size g)
      = same-slots left (suc i) (omega arith) in
      let at : slot_start g (suc i) ≡ slot_start g i + slot_size g
      = unfold slot_start in omega (arith, suc-mul i (slot_size g)) in
      let two : slot_size g + left * slot_size g ≡ suc left * slot_size g = omega (arith, suc-mul left (slot_size g)) in
      let s : slot g img i ≡ part img (slot_start g i) (slot_size g) = unfold slot in refl in
      ap₂ ◌++◌ (slots i (omega arith) ∙ s) (ih ∙ ap (λ (p : ℕ). part img p (left * slot_size g)) at)
      ∙ sym (part-add img (slot_start g i) (slot_size g) (left * slot_size g))
      ∙ ap (part img (slot_start g i)) two

  same-table : store img table_start (packed_slots g img g.N 0) ≡ img
  same-table =
      let at : slot_start g 0 ≡ table_start = unfold slot_start in omega arith in
      ap (store img table_start)
      (same-slots g.N 0 (omega arith) ∙ ap (λ (p : ℕ). part img p (g.N * slot_size g)) at)
      ∙ store-part img table_start (g.N * slot_size g) (omega (arith, ok.room.table, ok.room.area))

  same-data : packed_data g img ≡ part img g.D (length img - g.D)
  unfolding packed_data
  same-data =
      let X = field img free_field in
      let at : g.D + (X - g.D) ≡ X = omega (arith, ok.free-low) in
      let all : (X - g.D) + (length img - X) ≡ length img - g.D = omega (arith, ok.free-low, ok.free-high) in
      ap₂ ◌++◌ (tight-bytes g img ok tight)
      (ap (λ (x : ℕ). zeros (length img - x)) tight ∙ sym clear
      ∙ ap (λ (p : ℕ). part img p (length img - X)) (sym at))
      ∙ sym (part-add img g.D (X - g.D) (length img - X))
      ∙ ap (part img g.D) all

  pub compacted-same : compacted g img ≡ img
  unfolding compacted lower_free
  compacted-same =
      let filled-same : store (store img table_start (packed_slots g img g.N 0)) g.D (packed_data g img) ≡ img =
      ap₂ (λ (i d : Bytes). store i g.D d) same-table same-data
      ∙ store-part img g.D (length img - g.D) (omega (arith, ok.room.area)) in
      rw (filled-same, eq-eqb (field img free_field) (packed_end g img) (sym tight)) refl

-- ---- twice

module _ (g : Layout) (img : Bytes) (ok : Stretches g img) where
  abbrev img' : Bytes
  img' = compacted g img

  ok' : Stretches g img'
  ok' = compacted-stretches g img ok

  -- an offset stays where it is
  offset-stays : (i : ℕ) → i < g.N → taken g img i ≡ true
      → packed_offset g img' (start_at g img' i) ≡ packed_offset g img (start_at g img i)
  offset-stays i l t =
      let o = start_at g img i in
      let is = compacted-offset g img ok i l t in
      let again = active-again g img ok i l t in
      by_bool (is_active img o)
      (λ a.
      let s : Live g img' i =
      record { low = l; is = compacted-taken g img ok i l ∙ t; active = ap (is_active img') is ∙ again ∙ a } in
      tight-at g img' ok' (compacted-tight g img ok) (start_at g img' i) (live-begins g img' i s) ∙ is)
      (λ a.
      let z = moved-inactive g img ok o a in
      ap (packed_offset g img') (is ∙ z) ∙ packed_offset-none g img' ∙ sym z)

  slot-stays : (i : ℕ) → i < g.N → packed_slot g img' i ≡ slot g img' i
  slot-stays i l =
      by_bool (taken g img i)
      (λ t.
      packed_slot-taken g img' i (compacted-taken g img ok i l ∙ t)
      ∙ ap₂ slot_bytes (compacted-key g img ok i l) (offset-stays i l t)
      ∙ sym (compacted-entry g img ok i l t))
      (λ t. packed_slot-vacant g img' i (compacted-taken g img ok i l ∙ t))

  pub compacted-twice : compacted g img' ≡ img'
  compacted-twice =
      compacted-same g img' ok' (compacted-tight g img ok) slot-stays
      (rw (compacted-free g img ok, compacted-length g img ok) (compacted-rest g img ok))
