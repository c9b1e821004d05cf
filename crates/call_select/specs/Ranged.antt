-- Ranges for keys of K bytes, and the positions that are asked: what a function that compares keys with them asks.
-- Assumes nothing.
use Rattle.std.specs.Prelude.{◌≡◌, ℕ, length}
use Rattle.spec_file.specs.Bytes.{Bytes}
use Rattle.range_match.specs.Positions.{AskedIn}

pub record Ranged (K : ℕ) (lowest highest : Bytes) (first end : ℕ) : Type 0 where
  pub lowest-length : length lowest ≡ K
  pub highest-length : length highest ≡ K
  pub asked : AskedIn lowest highest first end
