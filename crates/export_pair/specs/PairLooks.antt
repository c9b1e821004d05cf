-- What the exports of lookup, count and the entry at an epoch tell and leave in growth: p is the pair before the call,
-- old' and new' are its images after it, n the number that the call answers.
--     PairLooks p key old' new' n second offset length             a lookup of the key
--     PairCounts p old' new' n points                              a count
--     PairShowsAt p name t old' new' n shown second offset length  the entry of the prism at the epoch t
-- Assumes nothing.
use Rattle.std.specs.Prelude.{◌≡◌, ℕ}
use Rattle.spec_file.specs.Bytes.{Bytes}
use Rattle.spec_moves.specs.Moves.{Pair}
use Rattle.spec_growth.specs.Growth.{grow_lookup, grow_lookup_in_new, grow_lookup_start, grow_lookup_length, grow_count, grow_at_epoch, grow_dated_in}

pub record PairLooks (p : Pair) (key old' new' : Bytes) (n second offset length : ℕ) : Type 0 where
  -- the number of the first question answered no, 0 where there is none
  pub number : n ≡ (grow_lookup p key).answer.number
  -- 1 where the message is in the new image, else 0
  pub side : second ≡ grow_lookup_in_new p key
  -- where its text begins there, 0 with no active message or when refused
  pub start : offset ≡ grow_lookup_start p key
  -- how long it is, 0 with no active message or when refused
  pub long : length ≡ grow_lookup_length p key
  -- both images are as they were
  pub old : old' ≡ p.old
  pub new : new' ≡ p.new

pub record PairCounts (p : Pair) (old' new' : Bytes) (n points : ℕ) : Type 0 where
  -- the number of the first question answered no, 0 where there is none
  pub number : n ≡ (grow_count p).answer.number
  -- the points that both hold, 0 when refused
  pub amount : points ≡ (grow_count p).answer.amount
  -- both images are as they were
  pub old : old' ≡ p.old
  pub new : new' ≡ p.new

pub record PairShowsAt (p : Pair) (name : Bytes) (t : ℕ) (old' new' : Bytes) (n shown second offset length : ℕ) : Type 0
  where
    -- the number of the first question answered no, 0 where there is none
    pub number : n ≡ (grow_at_epoch p name t).number
    -- the epoch of the entry that is shown, 0 when refused
    pub epoch : shown ≡ (grow_at_epoch p name t).epoch
    -- 1 where its message is in the new image, else 0
    pub side : second ≡ grow_dated_in p name t
    -- where its text begins there, 0 with no active message or when refused
    pub start : offset ≡ (grow_at_epoch p name t).start
    -- how long it is, 0 with no active message or when refused
    pub long : length ≡ (grow_at_epoch p name t).length
    -- both images are as they were
    pub old : old' ≡ p.old
    pub new : new' ≡ p.new
