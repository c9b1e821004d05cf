-- What the exports of lookup, count and the entry at an epoch tell and leave: img and img' are the image before the
-- call and after it, n the number that the call answers.
--     Looks img key img' n offset length             a lookup of the key
--     Counts img img' n points                       a count
--     ShowsAt img name t img' n shown offset length  the entry of the prism at the epoch t
-- Assumes nothing.
use Rattle.std.specs.Prelude.{◌≡◌, ℕ}
use Rattle.spec_file.specs.Bytes.{Bytes}
use Rattle.spec_file.specs.Calls.{lookup, lookup_start, lookup_length, count}
use Rattle.spec_epoch.specs.Epochs.{at_epoch}

pub record Looks (img key img' : Bytes) (n offset length : ℕ) : Type 0 where
  -- the number of the first question answered no, 0 where there is none
  pub number : n ≡ (lookup img key).answer.number
  -- where the message's text begins, 0 with no active message or when refused
  pub start : offset ≡ lookup_start img key
  -- how long it is, 0 with no active message or when refused
  pub long : length ≡ lookup_length img key
  -- the image is as lookup leaves it, which is as it was
  pub image : img' ≡ (lookup img key).after

pub record Counts (img img' : Bytes) (n points : ℕ) : Type 0 where
  -- the number of the first question answered no, 0 where there is none
  pub number : n ≡ (count img).answer.number
  -- the points held, 0 when refused
  pub amount : points ≡ (count img).answer.amount
  -- the image is as count leaves it, which is as it was
  pub image : img' ≡ (count img).after

pub record ShowsAt (img name : Bytes) (t : ℕ) (img' : Bytes) (n shown offset length : ℕ) : Type 0 where
  -- the number of the first question answered no, 0 where there is none
  pub number : n ≡ (at_epoch img name t).number
  -- the epoch of the entry that is shown, 0 when refused
  pub epoch : shown ≡ (at_epoch img name t).epoch
  -- where its message's text begins, 0 with no active message or when refused
  pub start : offset ≡ (at_epoch img name t).start
  -- how long it is, 0 with no active message or when refused
  pub long : length ≡ (at_epoch img name t).length
  -- the image is as it was
  pub image : img' ≡ img
