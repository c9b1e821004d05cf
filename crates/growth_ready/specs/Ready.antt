-- What the move of the named point leaves, and what a call on a pair leaves.
--     IsReady      both images as the named point's move leaves them, or as they were
--     Grown        a call's number, and both images
-- Assumes nothing.
use Rattle.std.specs.Prelude.{◌≡◌, ℕ}
use Rattle.spec_file.specs.Bytes.{Bytes}
use Rattle.spec_file.specs.Calls.{Outcome}
use Rattle.spec_moves.specs.Moves.{Pair}
use Rattle.spec_growth.specs.Growth.{ready}
use Rattle.growth_named.specs.Names.{pair_of}

pub record IsReady (old new key old' new' : Bytes) : Type 0 where
  pub first : old' ≡ (ready (pair_of old new) key).old
  pub second : new' ≡ (ready (pair_of old new) key).new

pub record Grown (out : Outcome Pair) (n : ℕ) (old' new' : Bytes) : Type 0 where
  pub number : n ≡ out.answer.number
  pub first : old' ≡ out.after.old
  pub second : new' ≡ out.after.new
