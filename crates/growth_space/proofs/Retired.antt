-- An image whose message at n is made inactive, read from the image as it is: n's letter is a "d" there, and all else
-- is as it was. What an offset counts there, by the tests of the code.
--     word_set                  four bytes with one of them changed
--     length-same, length-quiet, length_over     a length, by whether the letter lies among its bytes
--     here-low, here-high, here-other, here-named, here-long     the offset counts nothing
--     here-counts               it counts header and length
--     at_none, at-vacant, at-counts, at_most     the same of a slot
--     space-sum                 the space is the sum over the slots
-- Assumes nothing.
use mathlib.Core.Path.{◌≡◌, refl, sym, ap, ap₂, ◌∙◌, subst}
use Prim.Native.Nat.{ℕ, zero, suc, ◌+◌, ◌-◌, ◌≤◌, ◌<◌}
use native.Mathlib.Numerals.{add-one}
use native.Mathlib.Omega.{arith}
use mathlib.Core.Logic.{◌⊎◌, inl, inr}
use mathlib.Core.Bool.{Bool, true, false, cond, not, ◌&&◌, ◌||◌}
use mathlib.Core.List.{[], ◌∷◌}
use lib.ListN.{length, take, get_or, set, length-set}
use lib.Seq.{ext_get_or, get_or-set_same, get_or-set_other, take-length}
use lib.Dec.{eqb, leb}
use lib.Bits.{bit_and}
use borrow.Author.Tests.{leb-true, leb-false, eq-eqb, ne_eqb}
use Rattle.spec_file.specs.Bytes.{Bytes, part, store, number}
use Rattle.spec_file.specs.Limits.{most_image, active, inactive, free_field}
use Rattle.spec_file.specs.Image.{field, Layout, layout_of, slot, offset_of, vacant}
use Rattle.spec_file.specs.Messages.{head_size, letter_at, length_at, is_active, retire}
use Rattle.spec_file.specs.Questions.{message_sound}
use Rattle.spec_file.specs.Inspect.{taken}
use Rattle.spec_moves.specs.Moves.{active_at, active_from, active_space}
use Rattle.law_file.proofs.Tests.{by_bool, by-eq, by_le, by-or, or_no, and_left, and_right}
use Rattle.law_file.proofs.Bytes.{Apart, AreBytes, part_length, length-store}
use Rattle.law_file.proofs.Byte.{byte-part, byte-store-below, byte-store-above, byte-store-inside}
use Rattle.law_file.proofs.Total.{total}
use Rattle.law_file.proofs.Opened.{Opened}
use Rattle.law_file.proofs.Effects.{active-some, by-retire, retire-field, retire-slot}
use Rattle.law_file.proofs.Stretch.{Lies, sound-lies, lies-sound}
use Rattle.law_frames.proofs.Added.{retire-keeps}
use Rattle.header_layout.specs.Shapes.{mask_by}
use Rattle.bytes_words.proofs.Numbers.{part-four}
use Rattle.message_read.proofs.Sound.{active-none, active-letter, length-masked, length-bound}
use Rattle.law_moves.proofs.Again.{again-layout, retire-again}
use Rattle.law_moves.proofs.Sum.{active-sum, retired-quiet}
use Rattle.growth_space.specs.Counting.{active_here}

-- ---- four bytes with one of them changed
module _ (b : Bytes) (p n x : ℕ) (lo : p ≤ n) (hi : n < p + 4) (inside : p + 4 ≤ length b) where
  bytes-set : set (part b p 4) (n - p) x ≡ part (store b n (x ∷ [])) p 4
  bytes-set =
      let size : length (set (part b p 4) (n - p) x) ≡ 4 =
      length-set (part b p 4) (n - p) x ∙ part_length b p 4 inside in
      ext_get_or 0 (set (part b p 4) (n - p) x) (part (store b n (x ∷ [])) p 4)
      (size ∙ sym (part_length (store b n (x ∷ [])) p 4 (rw (length-store b n (x ∷ []) (omega arith)) inside)))
      (λ i l.
      let short : i < 4 = omega (arith, size, l) in
      by-eq i (n - p)
      (λ e.
      let at : p + i ≡ n + 0 = omega arith in
      ap (λ (k : ℕ). get_or (set (part b p 4) (n - p) x) k 0) e
      ∙ get_or-set_same (part b p 4) (n - p) x 0 (omega (arith, part_length b p 4 inside))
      ∙ sym (byte-part (store b n (x ∷ [])) p 4 i short
      ∙ ap (λ (k : ℕ). get_or (store b n (x ∷ [])) k 0) at
      ∙ byte-store-inside b n (x ∷ []) 0 (omega arith) (omega arith)))
      (λ e.
      get_or-set_other (part b p 4) (n - p) i x 0 e
      ∙ byte-part b p 4 i short
      ∙ sym (byte-part (store b n (x ∷ [])) p 4 i short
      ∙ by_le (p + i) n
      (λ le. byte-store-below b n (x ∷ []) (p + i) (omega arith) (omega (arith, e, le)))
      (λ lt. byte-store-above b n (x ∷ []) (p + i) (omega arith) (omega (arith, lt))))))

  pub word_set : field (set (get_or b p 0 ∷ get_or b (p + 1) 0 ∷ get_or b (p + 2) 0 ∷ get_or b (p + 3) 0 ∷ []) (n - p) x) 0
      ≡ field (store b n (x ∷ [])) p
  unfolding field part
  word_set =
      let four : Bytes = set (get_or b p 0 ∷ get_or b (p + 1) 0 ∷ get_or b (p + 2) 0 ∷ get_or b (p + 3) 0 ∷ []) (n - p) x in
      let is : four ≡ part (store b n (x ∷ [])) p 4 =
      ap (λ (l : Bytes). set l (n - p) x) (sym (part-four b p inside)) ∙ bytes-set in
      let long : p + 4 ≤ length (store b n (x ∷ [])) = rw (length-store b n (x ∷ []) (omega arith)) inside in
      ap number (take_all four 4 (ap length is ∙ part_length (store b n (x ∷ [])) p 4 long) ∙ is)
    where
      take_all : (l : Bytes) (m : ℕ) → length l ≡ m → take m l ≡ l
      take_all l m e = rw (← e) (take-length l)

-- the byte at n lies outside the header at `at`, or in it behind its letter
module _ (n at head n' at' head' : ℕ) (en : n ≡ n') (ea : at ≡ at') (eh : head ≡ head') where
  pub outside-yes : (leb n at || leb (at + head) n) ≡ true → (n' ≤ at') ⊎ (at' + head' ≤ n')
  outside-yes h =
      by-or (leb n at) (leb (at + head) n) h
      (λ y. inl (omega (arith, leb-true n at y)))
      (λ z y. inr (omega (arith, leb-true (at + head) n y)))

  pub outside-no : (leb n at || leb (at + head) n) ≡ false → (at' < n') × (n' < at' + head')
  outside-no h =
      let w = or_no (leb n at) (leb (at + head) n) h in
      (omega (arith, leb-false n at w.0), omega (arith, leb-false (at + head) n w.1))

letter-active : (img : Bytes) (at : ℕ) → is_active img at ≡ true → eqb (letter_at img at) active ≡ true
unfolding is_active
letter-active img at a = and_right (not (eqb at 0)) _ a

-- ---- the image with the message at n made inactive
module _ (img : Bytes) (o : Opened img) (n : ℕ) (s : message_sound (layout_of img) img n ≡ true) where
  abbrev g : Layout
  g = layout_of img

  abbrev J : Bytes
  J = retire img n

  layout-same : layout_of J ≡ g
  layout-same = again-layout img J o (retire-again img o n s)

  free-same : field J free_field ≡ field img free_field
  free-same = retire-field img o n s free_field (omega arith)

  size_same : length J ≡ length img
  size_same = (retire-again img o n s).fixed.size

  -- bytes that do not hold the letter
  part_same : (p m : ℕ) → Apart p m n 1 → part J p m ≡ part img p m
  part_same p m a = retire-keeps img o p m n s (λ z. a)

  -- ---- a length
  pub length-same : (at : ℕ) → (n ≤ at) ⊎ (at + head_size g ≤ n) → length_at g J at ≡ length_at g img at
  unfolding length_at head_size
  length-same at (inl l) = ap number (part_same (at + 1) g.W (inr (omega arith)))
  length-same at (inr l) = ap number (part_same (at + 1) g.W (inl (omega arith)))

  bytes-there : AreBytes img → AreBytes J
  bytes-there bytes i =
      by-retire img o n s (λ (x : Bytes). get_or x i 0 < 256)
      (λ a lo hi. by_le i n
      (λ le. by-eq i n
      (λ e.
      let at₀ : i ≡ n + 0 = omega arith in
      omega (
        arith,
        ap (λ (k : ℕ). get_or (store img n (inactive ∷ [])) k 0) at₀,
        byte-store-inside img n (inactive ∷ []) 0 (omega arith) (omega arith),
      ))
      (λ e. omega (arith, byte-store-below img n (inactive ∷ []) i (omega arith) (omega arith), bytes i)))
      (λ lt. omega (arith, byte-store-above img n (inactive ∷ []) i (omega arith) (omega arith), bytes i)))
      (λ a. bytes i)

  fits-there : (at : ℕ) → at + head_size g ≤ length img → at + head_size (layout_of J) ≤ length J
  fits-there at fits = rw (layout-same, size_same) fits

  pub length-small : AreBytes img → (at : ℕ) → at + head_size g ≤ length img → length_at g J at < 4294967296
  length-small bytes at fits = rw layout-same at (length-bound J at (bytes-there bytes) (fits-there at fits))

  is-img : is_active img n ≡ false → J ≡ img
  unfolding retire
  is-img a = rw a refl

  is-stored : is_active img n ≡ true → J ≡ store img n (inactive ∷ [])
  unfolding retire
  is-stored a = rw a refl

  module _ (z : 0 < n) (inside : n < length img) where
    letter-is : is_active img n ≡ eqb (get_or img n 0) active
    letter-is = active-letter img n (λ e. omega arith) inside

    pub length-quiet : (at : ℕ) → (get_or img n 0 ≡ active → ⊥) → length_at g J at ≡ length_at g img at
    length-quiet at w = ap (λ (x : Bytes). length_at g x at) (is-img (letter-is ∙ ne_eqb (get_or img n 0) active w))

    module _ (w : get_or img n 0 ≡ active) (bytes : AreBytes img) (at : ℕ) (fits : at + head_size g ≤ length img) where
      stored : J ≡ store img n (inactive ∷ [])
      stored = is-stored (letter-is ∙ eq-eqb (get_or img n 0) active w)

      pub length_over : (p k x : ℕ) → p ≡ at + (head_size g - 4) → k ≡ mask_by (head_size g)
          → x ≡ field (store img n (inactive ∷ [])) p → bit_and x k ≡ length_at g J at
      length_over p k x ep ek ex =
          length-masked J at p k x (bytes-there bytes) (fits-there at fits)
          (ep ∙ ap (λ (h : Layout). at + (head_size h - 4)) (sym layout-same))
          (ek ∙ ap (λ (h : Layout). mask_by (head_size h)) (sym layout-same))
          (ex ∙ ap (λ (b : Bytes). field b p) (sym stored))
          ∙ ap (λ (h : Layout). length_at h J at) layout-same

  -- ---- what an offset counts
  none-active : (at : ℕ) → is_active J at ≡ false → active_here g J at ≡ 0
  unfolding active_here
  none-active at a = rw a refl

  -- where question 11 is answered no; of no offset it is not asked
  unsound : (at : ℕ) → ((at ≡ 0 → ⊥) → Lies g J at → ⊥) → active_here g J at ≡ 0
  unfolding active_here
  unsound at w =
      by-eq at 0
      (λ z. none-active at (active-none J at z))
      (λ z. by_bool (message_sound g J at)
      (λ y. absurd (w z (sound-lies g J at y z)))
      (λ no'. rw no' (by_bool (is_active J at) (λ y. rw y refl) (λ q. rw q refl))))

  pub here-low : (at : ℕ) → at < g.D → active_here g J at ≡ 0
  here-low at l = unsound at (λ z y. omega (arith, y.low))

  pub here-high : (at : ℕ) → field img free_field < at + head_size g → active_here g J at ≡ 0
  here-high at l = unsound at (λ z y. omega (arith, y.end, free-same))

  pub here-long : (at : ℕ) → field img free_field < at + head_size g + length_at g J at → active_here g J at ≡ 0
  here-long at l = unsound at (λ z y. omega (arith, y.end, free-same))

  pub here-named : (at : ℕ) → at ≡ n → active_here g J at ≡ 0
  here-named at e = none-active at (ap (is_active J) e ∙ retired-quiet img o n s)

  -- another letter is as it was
  active-same : (at : ℕ) → (at ≡ n → ⊥) → is_active J at ≡ is_active img at
  unfolding is_active letter_at
  active-same at d =
      ap (λ (x : Bytes). not (eqb at 0) && eqb (number x) active)
      (part_same at 1 (by_le at n (λ le. inl (omega arith)) (λ lt. inr (omega arith))))

  pub here-other : (at : ℕ) → 0 < at → at < length img → (get_or img at 0 ≡ active → ⊥) → active_here g J at ≡ 0
  here-other at z l w =
      by-eq at n (here-named at)
      (λ d. none-active at
      (active-same at d ∙ active-letter img at (λ e. omega arith) l ∙ ne_eqb (get_or img at 0) active w))

  pub here-counts : (at : ℕ) → 0 < at → g.D ≤ at → at < length img → get_or img at 0 ≡ active → (at ≡ n → ⊥)
      → at + head_size g + length_at g J at ≤ field img free_field → active_here g J at ≡ head_size g + length_at g J at
  unfolding active_here
  here-counts at z lo l w d e =
      let a : is_active J at ≡ true =
      active-same at d ∙ active-letter img at (λ q. omega arith) l ∙ eq-eqb (get_or img at 0) active w in
      let letter : eqb (letter_at J at) active ≡ true = letter-active J at a in
      let y : message_sound g J at ≡ true =
      lies-sound g J at
      (record { low = lo; letter = rw letter refl; end = omega (arith, free-same, e) }) in
      rw (a, y) refl

  -- no more than X
  here-most : (at : ℕ) → active_here g J at ≤ field img free_field
  unfolding active_here
  here-most at =
      by_bool (is_active J at && message_sound g J at)
      (λ y. rw y
      (omega (
        arith,
        free-same,
        (sound-lies g J at (and_right (is_active J at) _ y) (active-some J at (and_left (is_active J at) _ y))).end,
      )))
      (λ n'. rw n' (omega arith))

  -- ---- what a slot counts
  module _ (i : ℕ) (il : i < g.N) where
    slot_same : slot g J i ≡ slot g img i
    slot_same = retire-slot img o n s i il

    pub at-vacant : vacant g (slot g img i) ≡ true → active_at g J i ≡ 0
    unfolding active_at taken
    at-vacant v = rw (slot_same, v) refl

    pub at-counts : vacant g (slot g img i) ≡ false → active_at g J i ≡ active_here g J (offset_of g (slot g img i))
    unfolding active_at active_here taken
    at-counts t = rw (slot_same, t) refl

    pub at_none : active_here g J (offset_of g (slot g img i)) ≡ 0 → active_at g J i ≡ 0
    at_none z = by_bool (vacant g (slot g img i)) at-vacant (λ t. at-counts t ∙ z)

    pub at_most : active_at g J i ≤ most_image
    at_most =
        by_bool (vacant g (slot g img i))
        (λ v. omega (arith, at-vacant v))
        (λ t. omega (arith, at-counts t, here-most (offset_of g (slot g img i)), o.free-high, o.size-high))

  -- ---- the sum
  pub space-sum : active_space J ≡ total (active_at g J) g.N
  unfolding active_space
  space-sum = ap (λ (h : Layout). active_from h J h.N 0) layout-same ∙ active-sum g J

pub total-none : (f : ℕ → ℕ) → total f 0 ≡ 0
unfolding total
total-none f = refl

pub total-next : (f : ℕ → ℕ) (i : ℕ) → total f (i + 1) ≡ total f i + f i
unfolding total
total-next f i = rw add-one refl
