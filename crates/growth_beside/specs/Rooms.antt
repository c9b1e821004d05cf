-- What the code of a call's own questions goes by: 12 and 13 with a place that counts the space of both images.
--     place_of old new named moved     the place: the new X, the space of a point that is moved there, and that of the
--                                     old image's active messages but the one at `named`
--     room_at Q h L t                  12 and 13 of a text, with the place Q
--     Besides                         the number of the call's own questions, whatever the bytes
--     renewed_number                   the same of a point that is present, by the mode
-- Assumes nothing.
use Rattle.std.specs.Prelude.{◌≡◌, ℕ, ◌+◌, Bool, cond, [], ◌∷◌, ◌++◌, length, eqb}
use Rattle.std.proofs.Math.Option.{Option, some}
use Rattle.spec_file.specs.Bytes.{Bytes}
use Rattle.spec_file.specs.Limits.{free_field}
use Rattle.spec_file.specs.Image.{field, Layout, layout_of}
use Rattle.spec_file.specs.Messages.{retire}
use Rattle.spec_file.specs.Questions.{ask, first_no, length_allowed, space_left}
use Rattle.spec_file.specs.Search.{Probe}
use Rattle.spec_moves.specs.Moves.{active_space}
use Rattle.spec_growth.specs.Growth.{both_points, reckoned_place, beside_asks}

abbrev pub place_of : Bytes → Bytes → ℕ → ℕ → ℕ
place_of old new named moved = field new free_field + moved + active_space (retire old named)

abbrev pub room_at : ℕ → Layout → ℕ → Option Bytes → ℕ
room_at Q h L t = first_no (ask 12 (length_allowed h t) ∷ ask 13 (space_left h Q L t) ∷ [])

-- the number r of the call's own questions where the search in the new image ended so, whatever the m bytes
pub record Besides (old new : Bytes) (s : Probe) (m mode r : ℕ) : Type 0 where
  pub number : (bytes : Bytes) → length bytes ≡ m
      → r ≡ first_no (beside_asks (both_points (record { old = old; new = new }))
      (reckoned_place (record { old = old; new = new })) (layout_of new) new s bytes mode)

-- in mode 2 nothing is placed where the bytes fit at the offset; in mode 3 they stand behind the text that is shown
abbrev pub renewed_number : ℕ → Layout → ℕ → Bool → Bytes → Bytes → ℕ → ℕ
renewed_number Q h L fits text bytes mode =
    cond (eqb mode 2) (cond fits 0 (room_at Q h L (some bytes)))
    (cond (eqb mode 3) (cond (eqb (length bytes) 0) 0 (room_at Q h L (some (text ++ bytes)))) 0)
