-- A message in the image, as code reads it: its letter, its length, and question 11.
--     letter-byte, length-bound, length-read      the header
--     sound_none, sound-low, sound-high, sound-read, sound-tests      question 11, by where the offset stands
--     active-none, active-letter     whether it is active
--     length-shown-yes, length-shown-no      how much text it shows
-- Assumes nothing.
use mathlib.Core.Path.{◌≡◌, refl, sym, ap, ap₂, ◌∙◌}
use Prim.Native.Nat.{ℕ, ◌+◌, ◌-◌, ◌%◌, ◌≤◌, ◌<◌, ◌^◌}
use native.Mathlib.Nat.{mod-eq_of_lt}
use native.Mathlib.Omega.{arith}
use lib.Bits.{bit_and, and_mask}
use mathlib.Core.Bool.{Bool, true, false, ◌&&◌, ◌||◌, and-false}
use mathlib.Core.List.{◌∷◌}
use lib.ListN.{length, get_or}
use lib.Dec.{leb, eqb}
use borrow.Author.Tests.{le-leb, lt-leb, eq-eqb, ne_eqb}
use Rattle.spec_file.specs.Bytes.{Bytes, part, number}
use Rattle.spec_file.specs.Limits.{active, inactive, free_field}
use Rattle.spec_file.specs.Image.{field, Layout, layout_of}
use Rattle.spec_file.specs.Messages.{head_size, letter_at, length_at, is_active, shown_length}
use Rattle.spec_file.specs.Questions.{message_sound}
use Rattle.law_file.proofs.Tests.{by-eq}
use Rattle.law_file.proofs.Effects.{head-least, head-most}
use Rattle.law_file.proofs.Bytes.{AreBytes, part-below}
use Rattle.header_layout.specs.Shapes.{mask_by, Open, Tells}
use Rattle.header_layout.specs.declared.shape.Shape.{Shape}
use Rattle.header_layout.proofs.Shaped.{shape-head, head-width, head-range}
use Rattle.bytes_words.proofs.Numbers.{part-cons, part-zero, part-four, part-three, number-four, number-three, low-three}

-- ---- the header
pub letter-byte : (img : Bytes) (o : ℕ) → o < length img → letter_at img o ≡ get_or img o 0
unfolding letter_at number
letter-byte img o h =
    ap number (part-cons img o 0 h ∙ ap (λ (t : Bytes). get_or img o 0 ∷ t) (part-zero img (o + 1))) ∙ omega arith

pub length-bound : (img : Bytes) (o : ℕ) → AreBytes img → o + head_size (layout_of img) ≤ length img
    → length_at (layout_of img) img o < 4294967296
unfolding length_at head_size
length-bound img o b h =
    by-eq (layout_of img).W 3
    (λ e. omega (arith, below 3 e (omega (arith, e, h))))
    (λ n. let e : (layout_of img).W ≡ 4 = omega (arith, n, head-least img, head-most img) in
    omega (arith, below 4 e (omega (arith, e, h))))
  where
    below : (w : ℕ) → (layout_of img).W ≡ w → o + 1 + w ≤ length img
        → number (part img (o + 1) (layout_of img).W) < 256 ^ w
    below w e l = rw e (part-below img (o + 1) w b l)

-- a length no longer than one that a header tells
pub length-tells : (img : Bytes) (s : Shape) → Open img s → (o m : ℕ) → AreBytes img → o + s.head ≤ length img
    → m ≤ length_at (layout_of img) img o → Tells s.head m
unfolding length_at
length-tells img s open₀ o m b h l =
    let r = head-range open₀ in
    record {
      low = r.0;
      high = r.1;
      short = λ e.
          let w : (layout_of img).W ≡ 3 = omega (arith, e, head-width open₀) in
          omega (
            arith,
            l,
            ap (λ (k : ℕ). number (part img (o + 1) k)) w,
            part-below img (o + 1) 3 b (omega (arith, e, h)),
          );
      small = omega (arith, l, length-bound img o b (omega (arith, h, shape-head open₀)));
    }

-- the bytes behind the letter
pub length-read : (img : Bytes) (o at W : ℕ) → at ≡ o → (layout_of img).W ≡ W
    → number (part img (at + 1) W) ≡ length_at (layout_of img) img o
unfolding length_at
length-read img o at W e w = rw (e, w) refl

-- the last four bytes of the header under the mask
tail-three : (img : Bytes) (o : ℕ) → AreBytes img → o + 4 ≤ length img
    → bit_and (field img o) 16777215 ≡ number (part img (o + 1) 3)
unfolding field
tail-three img o b h =
    let e₂ : o + 1 + 1 ≡ o + 2 = omega arith in
    let e₃ : o + 1 + 2 ≡ o + 3 = omega arith in
    and_mask (number (part img o 4)) 24
    ∙ ap (λ (n : ℕ). n % 16777216) (ap number (part-four img o h) ∙ number-four _ _ _ _)
    ∙ low-three (get_or img o 0) (get_or img (o + 1) 0) (get_or img (o + 2) 0) (get_or img (o + 3) 0)
    (omega (arith, b (o + 1))) (omega (arith, b (o + 2))) (omega (arith, b (o + 3)))
    ∙ sym (ap number (rw (← e₂, ← e₃) (part-three img (o + 1) (omega arith))) ∙ number-three _ _ _)

tail-four : (img : Bytes) (p : ℕ) → AreBytes img → p + 4 ≤ length img
    → bit_and (field img p) 4294967295 ≡ number (part img p 4)
unfolding field
tail-four img p b h =
    and_mask (number (part img p 4)) 32
    ∙ mod-eq_of_lt (omega (arith, part-below img p 4 b h))

pub length-masked : (img : Bytes) (o at k x : ℕ) → AreBytes img → o + head_size (layout_of img) ≤ length img
    → at ≡ o + (head_size (layout_of img) - 4) → k ≡ mask_by (head_size (layout_of img)) → x ≡ field img at
    → bit_and x k ≡ length_at (layout_of img) img o
unfolding head_size length_at mask_by
length-masked img o at k x b h ea ek ex =
    by-eq (layout_of img).W 3
    (λ w.
    let at₀ : at ≡ o = omega (arith, ea, w) in
    ap₂ bit_and (ex ∙ ap (field img) at₀) (ek ∙ ap (λ (n : ℕ). mask_by (n + 1)) w)
    ∙ tail-three img o b (omega (arith, h, w))
    ∙ ap (λ (n : ℕ). number (part img (o + 1) n)) (sym w))
    (λ n.
    let w : (layout_of img).W ≡ 4 = omega (arith, n, head-least img, head-most img) in
    let at₀ : at ≡ o + 1 = omega (arith, ea, w) in
    ap₂ bit_and (ex ∙ ap (field img) at₀) (ek ∙ ap (λ (n : ℕ). mask_by (n + 1)) w)
    ∙ tail-four img (o + 1) b (omega (arith, h, w))
    ∙ ap (λ (n : ℕ). number (part img (o + 1) n)) (sym w))

-- ---- question 11, by where the offset stands
module _ (g : Layout) (img : Bytes) (o : ℕ) where
  letters : Bool
  letters = eqb (letter_at img o) active || eqb (letter_at img o) inactive

  end-held : Bool
  end-held = leb (o + head_size g + length_at g img o) (field img free_field)

  pub sound_none : o ≡ 0 → message_sound g img o ≡ true
  unfolding message_sound
  sound_none h = rw (eq-eqb o 0 h)

  -- what is asked of an offset other than 0
  sound-some : 0 < o → message_sound g img o ≡ (leb g.D o && letters && end-held)
  unfolding message_sound letters end-held
  sound-some z = rw (ne_eqb o 0 (λ e. omega arith))

  pub sound-low : 0 < o → o < g.D → message_sound g img o ≡ false
  sound-low z h = sound-some z ∙ rw (lt-leb g.D o h)

  pub sound-high : 0 < o → field img free_field < o + head_size g → message_sound g img o ≡ false
  unfolding end-held
  sound-high z h =
      sound-some z
      ∙ rw (lt-leb (o + head_size g + length_at g img o) (field img free_field) (omega arith))
      (and-false (leb g.D o && letters))

  pub sound-read : 0 < o → g.D ≤ o
      → message_sound g img o
      ≡ ((eqb (letter_at img o) active || eqb (letter_at img o) inactive)
      && leb (o + head_size g + length_at g img o) (field img free_field))
  unfolding letters end-held
  sound-read z h = sound-some z ∙ rw (le-leb g.D o h)

-- the tests of a header that was read
pub sound-tests : (g : Layout) (img : Bytes) (o at head m x : ℕ) → at ≡ o → head ≡ head_size g → 0 < o → g.D ≤ o
    → o < length img → m ≡ length_at g img o → x ≡ field img free_field
    → ((eqb (get_or img at 0) active || eqb (get_or img at 0) inactive) && leb (at + head + m) x)
    ≡ message_sound g img o
sound-tests g img o at head m x ea eh z d h em ex =
    rw (ea, eh, em, ex) (sym (simp (letter-byte img o h) at (sound-read g img o z d)))

-- ---- active messages
pub active-none : (img : Bytes) (o : ℕ) → o ≡ 0 → is_active img o ≡ false
unfolding is_active
active-none img o e = rw (eq-eqb o 0 e)

pub active-letter : (img : Bytes) (o : ℕ) → (o ≡ 0 → ⊥) → o < length img → is_active img o ≡ eqb (get_or img o 0) active
unfolding is_active
active-letter img o n h = rw (ne_eqb o 0 n, letter-byte img o h)

-- ---- how much text an offset shows
pub length-shown-yes : (g : Layout) (img : Bytes) (o : ℕ) → is_active img o ≡ true
    → shown_length g img o ≡ length_at g img o
unfolding shown_length
length-shown-yes g img o h = rw h refl

pub length-shown-no : (g : Layout) (img : Bytes) (o : ℕ) → is_active img o ≡ false → shown_length g img o ≡ 0
unfolding shown_length
length-shown-no g img o h = rw h refl
