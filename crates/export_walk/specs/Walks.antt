-- What the exports of the walk and the check tell and leave: img and img' are the image before the call and after it, n
-- the number that the call answers.
--     Walks img from img' n slot place    the lowest taken slot at or above `from`
--     Judges img img' n verdict slot      whether the image is sound
-- Assumes nothing.
use Rattle.std.specs.Prelude.{◌≡◌, ℕ}
use Rattle.spec_file.specs.Bytes.{Bytes}
use Rattle.spec_file.specs.Inspect.{key_walk, stop_number, key_start, check, verdict_number}
use Rattle.call_walk.specs.Stops.{stop_slot}
use Rattle.export_walk.specs.Codes.{verdict_code, verdict_slot}

pub record Walks (img : Bytes) (from : ℕ) (img' : Bytes) (n slot place : ℕ) : Type 0 where
  -- the number of the first question answered no, 0 where there is none
  pub number : n ≡ stop_number (key_walk img from)
  -- the slot, 0 at the end or when refused
  pub stop : slot ≡ stop_slot (key_walk img from)
  -- where its key stands, 0 at the end or when refused
  pub key : place ≡ key_start img (key_walk img from)
  -- the image is as it was
  pub image : img' ≡ img

pub record Judges (img img' : Bytes) (n verdict slot : ℕ) : Type 0 where
  -- the number of the first question answered no, 0 where there is none
  pub number : n ≡ verdict_number (check img)
  -- 0 sound, 1 the slot fails, 2 the count fails; 0 when refused
  pub code : verdict ≡ verdict_code (check img)
  -- the slot that fails, 0 but for verdict 1
  pub bad : slot ≡ verdict_slot (check img)
  -- the image is as it was
  pub image : img' ≡ img
