-- What so many moves ask of their caller, and what they leave.
--     Paired         both images are opened, with keys of one size
--     MovedSome      both images, after so many moves
-- Assumes nothing.
use Rattle.std.specs.Prelude.{◌≡◌, ℕ}
use Rattle.spec_file.specs.Bytes.{Bytes}
use Rattle.spec_moves.specs.Moves.{moves}
use Rattle.header_layout.specs.Shapes.{Open}
use Rattle.header_layout.specs.declared.shape.Shape.{Shape}
use Rattle.growth_move.specs.Moving.{pair_of}

pub record Paired (old new : Bytes) (s l : Shape) : Type 0 where
  pub first : Open old s
  pub second : Open new l
  pub keys : s.keylen ≡ l.keylen

pub record MovedSome (old new : Bytes) (most : ℕ) (old' new' : Bytes) : Type 0 where
  pub first : old' ≡ (moves most (pair_of old new)).old
  pub second : new' ≡ (moves most (pair_of old new)).new
