-- What the code of a name that still stands in the old image goes by.
--     Paired           both images are opened, with keys of one size, and the key is a name
--     Named            and the key stands in slot i of the old image
--     entry_number      9, 10, 12 and 13 of a move: the new image's part
--     Foretold         the call's own number on the pair after the named point's move, whatever the m bytes
--     Points           the named move's number, then the call's own, whatever the m bytes
-- Assumes nothing.
use Rattle.std.specs.Prelude.{◌≡◌, ℕ, ◌<◌, true, not, [], ◌∷◌, length}
use Rattle.std.proofs.Math.Option.{Option}
use Rattle.spec_file.specs.Bytes.{Bytes}
use Rattle.spec_file.specs.Limits.{points_field, free_field}
use Rattle.spec_file.specs.Image.{field, layout_of}
use Rattle.spec_file.specs.Search.{Probe, is_met}
use Rattle.spec_file.specs.Questions.{ask, first_no, name_allowed, slot_to_take, length_allowed, space_left}
use Rattle.spec_moves.specs.Moves.{Pair, move_key, moved_over}
use Rattle.spec_growth.specs.Growth.{old_probe, named_number, ready, own_asks, first_of}
use Rattle.header_layout.specs.Shapes.{Open}
use Rattle.header_layout.specs.declared.shape.Shape.{Shape}

abbrev pub pair_of : Bytes → Bytes → Pair
pair_of old new = record { old = old; new = new }

pub record Paired (old new key : Bytes) (s l : Shape) : Type 0 where
  pub first : Open old s
  pub second : Open new l
  pub keys : s.keylen ≡ l.keylen
  pub name : name_allowed s.keylen key ≡ true

pub record Named (old new key : Bytes) (s l : Shape) (i : ℕ) : Type 0 where
  pub pair : Paired old new key s l
  pub inside : i < s.slots
  pub key-is : move_key old i ≡ key

abbrev pub entry_number : Bytes → Probe → Option Bytes → ℕ
entry_number new s t =
    first_no (ask 9 (not (is_met s))
    ∷ ask 10 (slot_to_take (field new points_field) (layout_of new).N s)
    ∷ ask 12 (length_allowed (layout_of new) t)
    ∷ ask 13 (space_left (layout_of new) (field new free_field) (length new) t)
    ∷ [])

pub record Foretold (old new key : Bytes) (i m mode r : ℕ) : Type 0 where
  pub number : (bytes : Bytes) → length bytes ≡ m
      → r ≡ first_no (own_asks (moved_over (pair_of old new) i) key bytes mode)

pub record Points (old new key : Bytes) (m mode r : ℕ) : Type 0 where
  pub number : (bytes : Bytes) → length bytes ≡ m
      → r ≡ first_of (named_number (pair_of old new) (old_probe (pair_of old new) key))
      (first_no (own_asks (ready (pair_of old new) key) key bytes mode))
