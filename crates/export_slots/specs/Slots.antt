-- What the exports that tell the slots read tell and leave: img and img' are the image before the call and after it, n
-- the number that the call answers, read the slots that its search read.
--     AddSlots img key bytes mode img' n read              an add
--     DeleteSlots img key img' n read                      a delete
--     LookupSlots img key img' n offset length read        a lookup
-- Assumes nothing.
use Rattle.std.specs.Prelude.{◌≡◌, ℕ}
use Rattle.spec_file.specs.Bytes.{Bytes}
use Rattle.spec_file.specs.Calls.{add, delete, add_read, delete_read, lookup_read}
use Rattle.export_lookup.specs.Looks.{Looks}

pub record AddSlots (img key bytes : Bytes) (mode : ℕ) (img' : Bytes) (n read : ℕ) : Type 0 where
  -- the number of the first question answered no, 0 where there is none
  pub number : n ≡ (add img key bytes mode).answer.number
  -- every byte of the image
  pub image : img' ≡ (add img key bytes mode).after
  -- the slots read, 0 when refused with 1 or 5 to 8
  pub slots : read ≡ add_read img key mode

pub record DeleteSlots (img key img' : Bytes) (n read : ℕ) : Type 0 where
  -- the number of the first question answered no, 0 where there is none
  pub number : n ≡ (delete img key).answer.number
  -- every byte of the image
  pub image : img' ≡ (delete img key).after
  -- the slots read, 0 when refused with 1 or 5 to 7
  pub slots : read ≡ delete_read img key

pub record LookupSlots (img key img' : Bytes) (n offset length read : ℕ) : Type 0 where
  -- number, place, length and image, as a lookup tells and leaves them
  pub looks : Looks img key img' n offset length
  -- the slots read, 0 when refused with 1 or 5 to 7
  pub slots : read ≡ lookup_read img key
