-- Text put into a slice from a place on: every byte afterwards, and the place behind the text.
-- Assumes nothing.
use Rattle.std.specs.Prelude.{◌≡◌, ℕ, ◌+◌, length}
use Rattle.spec_file.specs.Bytes.{Bytes, store}

pub record Put (before : Bytes) (at : ℕ) (after : Bytes) (end : ℕ) (text : Bytes) : Type 0 where
  pub bytes : after ≡ store before at text
  pub ends : end ≡ at + length text
