-- What a move of one point asks of its caller, and what it leaves.
--     pair_of old new       the two images as a pair
--     Taken                a text, or none, is added to the new image under a key
--     Movable              both images are opened, with keys of one size, and slot i of the old one is taken
--     Moved                the move's number, and both images, written where it is 0
-- Assumes nothing.
use Rattle.std.specs.Prelude.{◌≡◌, ℕ, ◌<◌, true}
use Rattle.std.proofs.Math.Option.{Option}
use Rattle.spec_file.specs.Bytes.{Bytes}
use Rattle.spec_file.specs.Image.{layout_of}
use Rattle.spec_file.specs.Messages.{bytes_of}
use Rattle.spec_file.specs.Questions.{first_no}
use Rattle.spec_file.specs.Inspect.{taken}
use Rattle.spec_file.specs.Calls.{settled, add}
use Rattle.spec_moves.specs.Moves.{Pair, move_mode, move_asks, moved_over}
use Rattle.header_layout.specs.Shapes.{Open}
use Rattle.header_layout.specs.declared.shape.Shape.{Shape}

abbrev pub pair_of : Bytes → Bytes → Pair
pair_of old new = record { old = old; new = new }

pub record Taken (new key : Bytes) (t : Option Bytes) (r : ℕ) (new' : Bytes) : Type 0 where
  pub number : r ≡ (add new key (bytes_of t) (move_mode t)).answer.number
  pub after : new' ≡ (add new key (bytes_of t) (move_mode t)).after

pub record Movable (old new : Bytes) (s l : Shape) (i : ℕ) : Type 0 where
  pub first : Open old s
  pub second : Open new l
  pub keys : s.keylen ≡ l.keylen
  pub inside : i < s.slots
  pub point : taken (layout_of old) old i ≡ true

pub record Moved (old new : Bytes) (i r : ℕ) (old' new' : Bytes) : Type 0 where
  pub number : r ≡ first_no (move_asks (pair_of old new) i)
  pub first : old' ≡ settled r old (moved_over (pair_of old new) i).old
  pub second : new' ≡ settled r new (moved_over (pair_of old new) i).new
