-- Numbers as bytes, one behind the other.
-- Assumes nothing.
use Rattle.std.specs.Prelude.{ℕ, List, [], ◌∷◌, ◌++◌}
use Rattle.spec_file.specs.Bytes.{Bytes, digits}

unfoldable pub all_digits : List ℕ → Bytes
all_digits [] = []
all_digits (x ∷ xs) = digits 4 x ++ all_digits xs
