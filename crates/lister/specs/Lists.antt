-- What the lister does between an input and an output, where their bytes are known.
-- Assumes nothing.
use Rattle.std.specs.Prelude.{ℕ, ◌≤◌, List, length, Option}
use Rattle.std.specs.Io.KnownBytes.{Consumes, Appends}
use Rattle.spec_file.specs.Bytes.{Bytes}
use Rattle.lister_rows.specs.Listed.{printed}

-- bytes that the input began with are taken from it, at most 65,537, and their text is put behind what the output held
abbrev pub Lists : Option (List ℕ) → Option (List ℕ) → Option (List ℕ) → Option (List ℕ) → Type 0
Lists input left held holds =
    (bytes : Bytes) × (length bytes ≤ 65537) × Consumes input left bytes × Appends held holds (printed bytes)
