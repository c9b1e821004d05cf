-- The search's answer in code, as the specification's.
--     probe_of f        how the search ended
--     Within n s       the slot where it ended, if it ended at one, is one of n
--     MetKey img key s     the slot where it met a key, if it did, holds this one
--     GoesOn g img key most i left j     a search with `most` slots left at slot i goes on with `left` at slot j: it
--                      ends as from there, and the slots between are read
-- Assumes nothing.
use Rattle.std.specs.Prelude.{◌≡◌, ℕ, ◌+◌, ◌≤◌, ◌<◌}
use Rattle.spec_file.specs.Bytes.{Bytes}
use Rattle.spec_file.specs.Image.{Layout}
use Rattle.spec_file.specs.Search.{Probe, met, empty, exhausted, probe, read_from}
use Rattle.table_search.specs.Slots.{key_in}
use Rattle.table_search.specs.declared.Found.{Found}
use Rattle.table_search.specs.declared.Found.TheVariants.{Met, Empty, Exhausted}

unfoldable pub probe_of : Found → Probe
probe_of (Met s) = met s.0
probe_of (Empty s) = empty s.0
probe_of Exhausted = exhausted

unfoldable pub Within : ℕ → Probe → Type 0
Within n (met i) = i < n
Within n (empty i) = i < n
Within n exhausted = Unit {0}

unfoldable pub MetKey : Bytes → Bytes → Probe → Type 0
MetKey img key (met i) = key_in img i ≡ key
MetKey img key (empty i) = Unit {0}
MetKey img key exhausted = Unit {0}

pub record GoesOn (g : Layout) (img key : Bytes) (most i left j : ℕ) : Type 0 where
  pub fewer : left ≤ most
  pub ended : probe g img key most i ≡ probe g img key left j
  pub reads : read_from g img key most i + left ≡ read_from g img key left j + most
