-- What the exports of reading records by column tell and leave: out and out' are the lent slice before the call and
-- after it, n the number that the call answers, m the bytes that it filled.
--     ReadsColumns img key out img' out' n m            of one image, img before the call and img' after it
--     PairReadsColumns p key out old' new' out' n m     of a pair, p before the call, old' and new' after it
-- Assumes nothing.
use Rattle.std.specs.Prelude.{◌≡◌, ℕ}
use Rattle.spec_file.specs.Bytes.{Bytes}
use Rattle.spec_records.specs.Records.{Reads}
use Rattle.spec_moves.specs.Moves.{Pair}
use Rattle.call_grow_read.specs.PairReads.{PairReads}

pub record ReadsColumns (img key out img' out' : Bytes) (n m : ℕ) : Type 0 where
  -- the number of the first question answered no, 0 where there is none; the bytes filled, 0 when refused; the slice
  pub reads : Reads img key out out' n m
  -- the image is as it was
  pub image : img' ≡ img

pub record PairReadsColumns (p : Pair) (key out old' new' out' : Bytes) (n m : ℕ) : Type 0 where
  -- number, bytes filled and slice, as a reading on the pair answers and leaves them
  pub reads : PairReads p key out out' n m
  -- both images are as they were
  pub old : old' ≡ p.old
  pub new : new' ≡ p.new
