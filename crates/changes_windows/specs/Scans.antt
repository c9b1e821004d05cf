-- What a scan of two images has seen: the runs that are left from a place on, the next change, and a run's end.
-- Assumes nothing.
use Rattle.std.specs.Prelude.{◌≡◌, ℕ, ◌-◌, ◌≤◌, ◌<◌, List, ◌∷◌, length, drop, get_or}
use Rattle.spec_file.specs.Bytes.{Bytes}
use Rattle.spec_changes.specs.Changes.{Pair, runs}
use Rattle.spec_changes.specs.Journal.{total}

-- the runs of the bytes from k on
abbrev pub rest : Bytes → Bytes → ℕ → List Pair
rest old new k = runs k (drop k old) (drop k new)

abbrev pub Differ : Bytes → Bytes → ℕ → Type 0
Differ old new i = get_or old i 0 ≡ get_or new i 0 → ⊥

-- r is the lowest place from `from` up to `to` where they differ, or `to`
pub record Passed (old new : Bytes) (from to r : ℕ) : Type 0 where
  pub low : from ≤ r
  pub high : r ≤ to
  pub same : (j : ℕ) → from ≤ j → j < r → get_or old j 0 ≡ get_or new j 0
  pub differ : r < to → Differ old new r

-- r is the lowest place from `from` up to `to` where they are equal, or `to`
pub record Changed (old new : Bytes) (from to r : ℕ) : Type 0 where
  pub low : from ≤ r
  pub high : r ≤ to
  pub differ : (j : ℕ) → from ≤ j → j < r → Differ old new j
  pub same : r < to → get_or old r 0 ≡ get_or new r 0

-- r is the lowest place at or above `from` where they differ, or their end
pub record ToChange (old new : Bytes) (from r : ℕ) : Type 0 where
  pub low : from ≤ r
  pub high : r ≤ length old
  pub same : rest old new from ≡ rest old new r
  pub change : r < length old → Differ old new r

-- the run that begins at `from` ends at r
pub record RunTo (old new : Bytes) (from r : ℕ) : Type 0 where
  pub low : from < r
  pub high : r ≤ length old
  pub run : rest old new from ≡ record { at = from; size = r - from } ∷ rest old new r

-- runs counted, and their bytes; no more than the image has
pub record Measured (rs : List Pair) (L pairs bytes : ℕ) : Type 0 where
  pub counted : pairs ≡ length rs
  pub summed : bytes ≡ total rs
  pub few : pairs ≤ L
  pub small : bytes ≤ L
