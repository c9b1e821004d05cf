-- A message as a stretch of bytes, from its header to the end of its text, and what depends on that stretch alone.
--     span g img o          how many bytes the stretch of the message at o has
--     Lies g img o          question 11 as facts: inside the data area, with a letter and a length that are allowed
--     Stored g img o        no message, or one that passes question 11 and whose length its W bytes can hold
--     SameOn img img' p n   the two images agree on the n bytes from p on
-- Assumes nothing.
use mathlib.Core.Path.{◌≡◌, refl, ap, ◌∙◌}
use Prim.Native.Nat.{ℕ, ◌+◌, ◌^◌, ◌≤◌, ◌<◌}
use native.Mathlib.Omega.{arith}
use mathlib.Core.Logic.{inl, inr}
use mathlib.Core.Bool.{true, ◌&&◌, ◌||◌}
use lib.ListN.{length}
use lib.Dec.{leb, eqb}
use borrow.Author.Tests.{leb-true, le-leb, eqb-true, ne_eqb}
use Rattle.spec_file.specs.Bytes.{Bytes, part, store, number}
use Rattle.spec_file.specs.Limits.{active, inactive, free_field}
use Rattle.spec_file.specs.Image.{field, Layout}
use Rattle.spec_file.specs.Messages.{head_size, letter_at, length_at, text_at, is_active, shown, held}
use Rattle.spec_file.specs.Questions.{message_sound}
use Rattle.law_file.proofs.Tests.{by-eq, by-or, and_left, and_right, and-true, or_right}
use Rattle.law_file.proofs.Bytes.{Apart, part-store-other}

abbrev pub span : Layout → Bytes → ℕ → ℕ
span g img o = head_size g + length_at g img o

-- no offset holds nothing; the length at an offset is what the message there holds
pub held_none : (g : Layout) (img : Bytes) (o : ℕ) → o ≡ 0 → held g img o ≡ 0
unfolding held
held_none g img o z = rw z refl

pub held-some : (g : Layout) (img : Bytes) (o : ℕ) → (o ≡ 0 → ⊥) → held g img o ≡ length_at g img o
unfolding held
held-some g img o z = rw (ne_eqb o 0 z) refl

-- ---- question 11 as facts

pub record Lies (g : Layout) (img : Bytes) (o : ℕ) : Type 0 where
  pub low : g.D ≤ o
  pub letter : (eqb (letter_at img o) active || eqb (letter_at img o) inactive) ≡ true
  pub end : o + span g img o ≤ field img free_field

pub sound-lies : (g : Layout) (img : Bytes) (o : ℕ) → message_sound g img o ≡ true → (o ≡ 0 → ⊥) → Lies g img o
unfolding message_sound
sound-lies g img o h n =
    let m = length_at g img o in
    let a = leb g.D o in
    let b = eqb (letter_at img o) active || eqb (letter_at img o) inactive in
    let d = leb (o + head_size g + m) (field img free_field) in
    by-or (eqb o 0) (a && b && d) h
    (λ z. absurd (n (eqb-true o 0 z)))
    (λ z all.
    let ab = and_left (a && b) d all in
    let end₁ : o + head_size g + m ≤ field img free_field = leb-true _ _ (and_right (a && b) d all) in
    record { low = leb-true _ _ (and_left a b ab); letter = and_right a b ab; end = omega arith })

pub lies-sound : (g : Layout) (img : Bytes) (o : ℕ) → Lies g img o → message_sound g img o ≡ true
unfolding message_sound
lies-sound g img o l =
    let a = leb g.D o in
    let b = eqb (letter_at img o) active || eqb (letter_at img o) inactive in
    let end₁ : o + head_size g + length_at g img o ≤ field img free_field = omega (arith, l.end) in
    or_right (eqb o 0) _ (and-true (a && b) _ (and-true a b (le-leb _ _ l.low) l.letter) (le-leb _ _ end₁))

pub none-sound : (g : Layout) (img : Bytes) → message_sound g img 0 ≡ true
unfolding message_sound
none-sound g img = refl

-- ---- what the invariant says of a message

pub record Stored (g : Layout) (img : Bytes) (o : ℕ) : Type 0 where
  pub sound : message_sound g img o ≡ true
  pub short : (o ≡ 0 → ⊥) → length_at g img o < 256 ^ g.W

pub none-stored : (g : Layout) (img : Bytes) → Stored g img 0
none-stored g img = record { sound = none-sound g img; short = λ z. absurd (z refl) }

-- ---- images that agree on a stretch

pub record SameOn (img img' : Bytes) (p n : ℕ) : Type 0 where
  pub on : (q m : ℕ) → p ≤ q → q + m ≤ p + n → part img' q m ≡ part img q m

pub same-on-refl : (img : Bytes) (p n : ℕ) → SameOn img img p n
same-on-refl img p n = record { on = λ q m lo hi. refl }

pub same-on-trans : {a b c : Bytes} {p n : ℕ} → SameOn a b p n → SameOn b c p n → SameOn a c p n
same-on-trans e f = record { on = λ q m lo hi. f.on q m lo hi ∙ e.on q m lo hi }

pub same-on-store : (img : Bytes) (at : ℕ) (v : Bytes) (p n : ℕ) → at + length v ≤ length img → Apart p n at (length v)
    → SameOn img (store img at v) p n
same-on-store img at v p n h (inl a) = record { on = λ q m lo hi. part-store-other img at v q m h (inl (omega arith)) }
same-on-store img at v p n h (inr a) = record { on = λ q m lo hi. part-store-other img at v q m h (inr (omega arith)) }

-- ---- what depends on the stretch alone

module _ (g : Layout) (img img' : Bytes) (o : ℕ) (same : SameOn img img' o (span g img o)) where
  pub letter_at-same : letter_at img' o ≡ letter_at img o
  unfolding letter_at head_size
  letter_at-same = ap number (same.on o 1 (omega arith) (omega arith))

  pub length_at-same : length_at g img' o ≡ length_at g img o
  unfolding length_at head_size
  length_at-same = ap number (same.on (o + 1) g.W (omega arith) (omega arith))

  pub span_same : span g img' o ≡ span g img o
  span_same = ap (λ (m : ℕ). head_size g + m) length_at-same

  pub text_at-same : text_at g img' o ≡ text_at g img o
  unfolding text_at
  text_at-same =
      ap (part img' (o + head_size g)) length_at-same
      ∙ same.on (o + head_size g) (length_at g img o) (omega arith) (omega arith)

  pub shown-same : shown g img' o ≡ shown g img o
  unfolding shown is_active
  shown-same = rw (letter_at-same, text_at-same) refl

  pub held_same : held g img' o ≡ held g img o
  unfolding held
  held_same = rw length_at-same refl

  -- a message still lies in the data area where X has not fallen
  pub lies_same : field img free_field ≤ field img' free_field → Lies g img o → Lies g img' o
  lies_same up l =
      record {
        low = l.low;
        letter = rw letter_at-same l.letter;
        end = rw length_at-same (omega (arith, l.end));
      }

-- question 11 is answered yes again where X has not fallen
pub sound-same : (g : Layout) (img img' : Bytes) (o : ℕ) → ((o ≡ 0 → ⊥) → SameOn img img' o (span g img o))
    → field img free_field ≤ field img' free_field → message_sound g img o ≡ true → message_sound g img' o ≡ true
sound-same g img img' o same up s =
    by-eq o 0
    (λ z. rw z (none-sound g img'))
    (λ z. lies-sound g img' o (lies_same g img img' o (same z) up (sound-lies g img o s z)))

pub stored_same : (g : Layout) (img img' : Bytes) (o : ℕ) → ((o ≡ 0 → ⊥) → SameOn img img' o (span g img o))
    → field img free_field ≤ field img' free_field → Stored g img o → Stored g img' o
stored_same g img img' o same up s =
    record {
      sound = sound-same g img img' o same up s.sound;
      short = λ z. rw (length_at-same g img img' o (same z)) (s.short z);
    }
