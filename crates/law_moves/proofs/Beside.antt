-- The call's own questions on the new image, with both images' points and space, by how its search ended: as
-- crates/law_file/proofs/Outcomes.antt has them for one image.
--     room_number        12 and 13 alone, of a place and of the text that is to be placed, if any
--     beside-14, beside-9, beside-11, beside-renewed, beside-10, beside-fresh     the questions' number
-- Assumes nothing.
use mathlib.Core.Path.{◌≡◌, refl, sym, ap, ◌∙◌}
use Prim.Native.Nat.{ℕ}
use mathlib.Core.Bool.{Bool, true, false, not, ◌&&◌}
use mathlib.Core.List.{[], ◌∷◌}
use mathlib.Core.Option.{Option, none, some}
use lib.ListN.{length}
use lib.Dec.{ltb, eqb}
use Rattle.spec_file.specs.Bytes.{Bytes}
use Rattle.spec_file.specs.Image.{Layout, slot, offset_of}
use Rattle.spec_file.specs.Search.{Probe, met, empty, is_met, is_empty}
use Rattle.spec_file.specs.Messages.{fresh_text, renewed_text, placed_text}
use Rattle.spec_file.specs.Questions.{ask, first_no, met_in_mode4, new_in_mode1, slot_to_take, message_sound, met_message_sound, length_allowed, space_left}
use Rattle.spec_growth.specs.Growth.{beside_asks}
use Rattle.law_file.proofs.Tests.{by_bool}
use Rattle.law_file.proofs.Opened.{first_no-none, first_no-yes, first_no-no}

abbrev pub room_number : ℕ → Layout → ℕ → Option Bytes → ℕ
room_number Q h L t = first_no (ask 12 (length_allowed h t) ∷ ask 13 (space_left h Q L t) ∷ [])

pub room-none : (Q : ℕ) (h : Layout) (L : ℕ) → room_number Q h L none ≡ 0
unfolding length_allowed space_left
room-none Q h L = first_no-yes 12 true _ refl ∙ first_no-yes 13 true [] refl ∙ first_no-none

module _ (P Q : ℕ) (h : Layout) (img bytes : Bytes) (mode : ℕ) where
  abbrev number : Probe → ℕ
  number s = first_no (beside_asks P Q h img s bytes mode)

  abbrev at : ℕ → ℕ
  at i = offset_of h (slot h img i)

  pub beside-14 : (s : Probe) → is_met s ≡ false → eqb mode 4 ≡ true → number s ≡ 14
  unfolding beside_asks met_in_mode4
  beside-14 s e k = first_no-no 14 _ _ (rw (e, k) refl)

  pub beside-9 : (i : ℕ) → eqb mode 1 ≡ true → number (met i) ≡ 9
  unfolding beside_asks new_in_mode1 met_in_mode4 is_met
  beside-9 i k =
      first_no-yes 14 _ _ (by_bool (eqb mode 4) (λ y. rw y refl) (λ n. rw n refl))
      ∙ first_no-no 9 _ _ (ap (λ (t : Bool). not (t && true)) k)

  pub beside-11 : (i : ℕ) → eqb mode 1 ≡ false → message_sound h img (at i) ≡ false → number (met i) ≡ 11
  unfolding beside_asks new_in_mode1 met_in_mode4 slot_to_take is_met met_message_sound
  beside-11 i k s =
      first_no-yes 14 _ _ (by_bool (eqb mode 4) (λ y. rw y refl) (λ n. rw n refl))
      ∙ first_no-yes 9 _ _ (ap (λ (t : Bool). not (t && true)) k)
      ∙ first_no-yes 10 _ _ refl
      ∙ first_no-no 11 _ _ s

  pub beside-renewed : (i : ℕ) → eqb mode 1 ≡ false → message_sound h img (at i) ≡ true
      → number (met i) ≡ room_number Q h (length img) (renewed_text h img (at i) bytes mode)
  unfolding beside_asks new_in_mode1 met_in_mode4 slot_to_take is_met met_message_sound placed_text
  beside-renewed i k s =
      first_no-yes 14 _ _ (by_bool (eqb mode 4) (λ y. rw y refl) (λ n. rw n refl))
      ∙ first_no-yes 9 _ _ (ap (λ (t : Bool). not (t && true)) k)
      ∙ first_no-yes 10 _ _ refl
      ∙ first_no-yes 11 _ _ s

  pub beside-10 : (s : Probe) → is_met s ≡ false → eqb mode 4 ≡ false → slot_to_take P h.N s ≡ false → number s ≡ 10
  unfolding beside_asks new_in_mode1 met_in_mode4
  beside-10 s e k n =
      first_no-yes 14 _ _ (rw k refl)
      ∙ first_no-yes 9 _ _ (rw e (by_bool (eqb mode 1) (λ y. rw y refl) (λ n. rw n refl)))
      ∙ first_no-no 10 _ _ n

  pub beside-fresh : (i : ℕ) → eqb mode 4 ≡ false → ltb P h.N ≡ true
      → number (empty i) ≡ room_number Q h (length img) (fresh_text bytes mode)
  unfolding beside_asks new_in_mode1 met_in_mode4 is_met is_empty slot_to_take met_message_sound placed_text
  beside-fresh i k n =
      first_no-yes 14 _ _ (rw k refl)
      ∙ first_no-yes 9 _ _ (by_bool (eqb mode 1) (λ y. rw y refl) (λ n. rw n refl))
      ∙ first_no-yes 10 _ _ n
      ∙ first_no-yes 11 true _ refl
