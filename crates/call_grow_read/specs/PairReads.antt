-- What a reading on a pair answers and leaves: out and filled are the lent slice before the call and after it.
-- Assumes nothing.
use Rattle.std.specs.Prelude.{◌≡◌, ℕ, length}
use Rattle.spec_file.specs.Bytes.{Bytes}
use Rattle.spec_moves.specs.Moves.{Pair}
use Rattle.spec_growth.specs.Growth.{grow_read, grow_filled}

pub record PairReads (p : Pair) (key out filled : Bytes) (n m : ℕ) : Type 0 where
  pub number : n ≡ (grow_read p key (length out)).answer.number
  pub count : m ≡ (grow_read p key (length out)).answer.amount
  pub slice : filled ≡ grow_filled p key out
