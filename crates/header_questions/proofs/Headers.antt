-- Questions 5 and 6 as the code puts them: what follows where the ranges are sound, and where they are not.
--     header_refused, header-rest       question 6 after its ranges
--     ranges-key, ranges-slots          so that D's formula does not wrap
--     open-1, open-5, open-6, open-0    the number of questions 1, 5 and 6, by where they end
-- Assumes nothing.
use mathlib.Core.Path.{◌≡◌, ◌∙◌}
use Prim.Native.Nat.{ℕ, ◌%◌, ◌≤◌}
use mathlib.Core.Bool.{true, false, ◌&&◌}
use lib.ListN.{length}
use lib.Dec.{leb, eqb}
use borrow.Author.Tests.{leb-true}
use Rattle.spec_file.specs.Bytes.{Bytes}
use Rattle.spec_file.specs.Limits.{key_field, slots_field, data_field, free_field, most_key, most_slots, most_image, page_size}
use Rattle.spec_file.specs.Image.{field, data_start}
use Rattle.spec_file.specs.Questions.{size_allowed, key_allowed, slots_allowed, version_known, header_sound, opened, open_number}
use Rattle.law_file.proofs.Tests.{and_left, and_right}
use Rattle.law_file.proofs.Opened.{first_no-none, first_no-yes, first_no-no}
use Rattle.header_questions.specs.Ranges.{ranges_sound}

module _ (img : Bytes) where
  -- ---- question 6
  pub header_refused : ranges_sound img ≡ false → header_sound img ≡ false
  unfolding ranges_sound header_sound
  header_refused h = rw h

  pub header-rest : ranges_sound img ≡ true
      → header_sound img
      ≡ (eqb (field img data_field) (data_start (field img key_field) (field img slots_field))
      && (leb (field img data_field) (field img free_field) && leb (field img free_field) (length img)))
  unfolding ranges_sound header_sound
  header-rest h = rw h

  pub ranges-key : ranges_sound img ≡ true → field img key_field ≤ most_key
  unfolding ranges_sound key_allowed
  ranges-key h =
      leb-true _ _
      (and_right (leb 1 (field img key_field)) _
      (and_left _ _ (and_left _ _ (and_left _ _ (and_left _ _ h)))))

  pub ranges-slots : ranges_sound img ≡ true → field img slots_field ≤ most_slots
  unfolding ranges_sound slots_allowed
  ranges-slots h =
      leb-true _ _
      (and_right (leb 1 (field img slots_field)) _
      (and_right (key_allowed (field img key_field)) _ (and_left _ _ (and_left _ _ (and_left _ _ h)))))

  -- ---- questions 1, 5 and 6
  pub open-1 : size_allowed (length img) ≡ false → open_number img ≡ 1
  unfolding open_number opened
  open-1 a = first_no-no 1 _ _ a

  pub open-5 : size_allowed (length img) ≡ true → version_known img ≡ false → open_number img ≡ 5
  unfolding open_number opened
  open-5 a b = first_no-yes 1 _ _ a ∙ first_no-no 5 _ _ b

  pub open-6 : size_allowed (length img) ≡ true → version_known img ≡ true → header_sound img ≡ false → open_number img ≡ 6
  unfolding open_number opened
  open-6 a b c = first_no-yes 1 _ _ a ∙ first_no-yes 5 _ _ b ∙ first_no-no 6 _ _ c

  pub open-0 : size_allowed (length img) ≡ true → version_known img ≡ true → header_sound img ≡ true → open_number img ≡ 0
  unfolding open_number opened
  open-0 a b c = first_no-yes 1 _ _ a ∙ first_no-yes 5 _ _ b ∙ first_no-yes 6 _ _ c ∙ first_no-none

-- an allowed length holds the header
pub size-least : (L : ℕ) → size_allowed L ≡ true → page_size ≤ L
unfolding size_allowed
size-least L h =
    let page = eqb (L % page_size) 0 in
    leb-true _ _ (and_right page (leb page_size L) (and_left (page && leb page_size L) (leb L most_image) h))
