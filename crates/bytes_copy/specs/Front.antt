-- A copy on its way, from the front.
--     Front d s p      d is as long as s, and its first p bytes are those of s
-- Assumes nothing.
use Rattle.std.specs.Prelude.{ℕ, ◌≡◌, length}
use Rattle.spec_file.specs.Bytes.{Bytes, part}

abbrev pub Front : Bytes → Bytes → ℕ → Type 0
Front d s p = (length d ≡ length s) × (part d 0 p ≡ part s 0 p)
