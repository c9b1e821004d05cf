-- What the exports of select tell and leave: list and list' are the lent list before the call and after it, n the
-- number that the call answers.
--     Selects img lowest highest list img' list' n found
--         of one image, img before the call and img' after it
--     PairSelects p lowest highest list old' new' list' n first second
--         of a pair, p before the call, old' and new' after it
-- Assumes nothing.
use Rattle.std.specs.Prelude.{◌≡◌, ℕ}
use Rattle.spec_file.specs.Bytes.{Bytes}
use Rattle.spec_range.specs.Ranges.{select}
use Rattle.spec_moves.specs.Moves.{Pair}
use Rattle.spec_growth.specs.Growth.{grow_select}

pub record Selects (img lowest highest list img' list' : Bytes) (n found : ℕ) : Type 0 where
  -- the number of the first question answered no, 0 where there is none
  pub number : n ≡ (select img lowest highest list).number
  -- how many slots are listed, 0 when refused
  pub many : found ≡ (select img lowest highest list).found
  -- every byte of the list
  pub listed : list' ≡ (select img lowest highest list).list
  -- the image is as it was
  pub image : img' ≡ img

pub record PairSelects (p : Pair) (lowest highest list old' new' list' : Bytes) (n first second : ℕ) : Type 0 where
  -- the number of the first question answered no, 0 where there is none
  pub number : n ≡ (grow_select p lowest highest list).number
  -- how many slots of the old image are listed, 0 when refused
  pub many : first ≡ (grow_select p lowest highest list).old_found
  -- how many of the new image follow them, 0 when refused
  pub more : second ≡ (grow_select p lowest highest list).new_found
  -- every byte of the list
  pub listed : list' ≡ (grow_select p lowest highest list).list
  -- both images are as they were
  pub old : old' ≡ p.old
  pub new : new' ≡ p.new
