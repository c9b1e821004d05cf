-- The start's number and question 21, test by test, as the code puts them.
--     sound-open              a sound image is an opened one
--     unused-no, unused-is    the second image is not sound, or C and X tell
--     unfit-used, unfit-kind, unfit-slots, fit_is      question 21, by the first test that fails
--     none_named              with no message named the space is the image's own
--     grow-closed, grow-15, grow-21, grow-0            the number
-- Assumes nothing.
use mathlib.Core.Path.{◌≡◌, refl, sym, ap, ◌∙◌}
use Prim.Native.Nat.{ℕ, ◌-◌, ◌≤◌}
use native.Mathlib.Omega.{arith}
use mathlib.Core.Bool.{Bool, true, false, ◌&&◌}
use mathlib.Core.List.{[], ◌∷◌}
use lib.ListN.{length}
use lib.Dec.{eqb, leb, ltb}
use Rattle.spec_file.specs.Bytes.{Bytes}
use Rattle.spec_file.specs.Limits.{points_field, free_field}
use Rattle.spec_file.specs.Image.{field, layout_of}
use Rattle.spec_file.specs.Messages.{is_active, retire}
use Rattle.spec_file.specs.Questions.{ask, first_no, message_sound, open_number}
use Rattle.spec_file.specs.Inspect.{Verdict, sound, check}
use Rattle.spec_compaction.specs.Compact.{is_sound}
use Rattle.spec_moves.specs.Moves.{active_space, same_kind, unused, second_fits, grow_number}
use Rattle.law_file.proofs.Tests.{and_left}
use Rattle.law_file.proofs.Opened.{first_no-none, first_no-yes, first_no-no, first_no-opened, first_no-refused}
use Rattle.law_file.proofs.Verdict.{check-open}

-- ---- sound
verdict-is : (v : Verdict) → is_sound v ≡ true → v ≡ sound
unfolding is_sound
verdict-is (Verdict.refused n) h = let z : ◌≡◌ {A = ℕ} 0 1 = cc in absurd (omega arith)
verdict-is sound h = refl
verdict-is (Verdict.slot_bad i) h = let z : ◌≡◌ {A = ℕ} 0 1 = cc in absurd (omega arith)
verdict-is Verdict.count_bad h = let z : ◌≡◌ {A = ℕ} 0 1 = cc in absurd (omega arith)

pub sound-open : (img : Bytes) → is_sound (check img) ≡ true → open_number img ≡ 0
sound-open img h = check-open img (verdict-is (check img) h)

-- ---- the second image
module _ (new : Bytes) where
  pub unused-no : is_sound (check new) ≡ false → false ≡ unused new
  unfolding unused
  unused-no h = sym (rw h refl)

  pub unused-is : is_sound (check new) ≡ true
      → (eqb (field new points_field) 0 && eqb (field new free_field) (layout_of new).D) ≡ unused new
  unfolding unused
  unused-is h = sym (rw h refl)

  pub unused-sound : unused new ≡ true → is_sound (check new) ≡ true
  unfolding unused
  unused-sound h =
      and_left (is_sound (check new)) _ (and_left (is_sound (check new) && eqb (field new points_field) 0) _ h)

module _ (old new : Bytes) where
  pub unfit-used : unused new ≡ false → false ≡ second_fits old new
  unfolding second_fits
  unfit-used h = sym (rw h refl)

  module _ (u : unused new ≡ true) where
    pub unfit-kind : same_kind old new ≡ false → false ≡ second_fits old new
    unfolding second_fits
    unfit-kind h = sym (rw (u, h) refl)

    module _ (k : same_kind old new ≡ true) where
      pub unfit-slots : ltb (layout_of old).N (layout_of new).N ≡ false → false ≡ second_fits old new
      unfolding second_fits
      unfit-slots h = sym (rw (u, k, h) refl)

      pub fit_is : ltb (layout_of old).N (layout_of new).N ≡ true
          → leb (active_space old) (length new - (layout_of new).D) ≡ second_fits old new
      unfolding second_fits
      fit_is h = sym (rw (u, k, h) refl)

  -- ---- the number
  pub grow-closed : (open_number old ≡ 0 → ⊥) → grow_number old new ≡ open_number old
  unfolding grow_number
  grow-closed z = first_no-refused old (ask 15 (is_sound (check old)) ∷ ask 21 (second_fits old new) ∷ []) z

  module _ (o : open_number old ≡ 0) where
    asked : grow_number old new ≡ first_no (ask 15 (is_sound (check old)) ∷ ask 21 (second_fits old new) ∷ [])
    unfolding grow_number
    asked = first_no-opened old (ask 15 (is_sound (check old)) ∷ ask 21 (second_fits old new) ∷ []) o

    pub grow-15 : is_sound (check old) ≡ false → grow_number old new ≡ 15
    grow-15 h = asked ∙ first_no-no 15 _ _ h

    module _ (s : is_sound (check old) ≡ true) where
      pub grow-21 : second_fits old new ≡ false → grow_number old new ≡ 21
      grow-21 h = asked ∙ first_no-yes 15 _ _ s ∙ first_no-no 21 _ [] h

      pub grow-0 : second_fits old new ≡ true → grow_number old new ≡ 0
      grow-0 h = asked ∙ first_no-yes 15 _ _ s ∙ first_no-yes 21 _ [] h ∙ first_no-none

-- ---- no message is named
pub none_named : (img : Bytes) → retire img 0 ≡ img
unfolding retire is_active
none_named img = refl

pub none-sound : (img : Bytes) → message_sound (layout_of img) img 0 ≡ true
unfolding message_sound
none-sound img = refl
