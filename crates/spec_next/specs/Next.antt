-- Where two images differ next: the runs of Job 8, one at a time, of any two strings of bytes, of any lengths.
--     next_run from old new       the first run of bytes that differ, from a place on
--     NextChange old new from old' new' at size     what the export tells and leaves; old' and new' are after the call
--     stepped turns k old new    the runs that are told to who asks for the next from k on, then from each one's end on
-- Assumes nothing.
use Rattle.std.specs.Prelude.{◌≡◌, ℕ, zero, suc, ◌+◌, cond, List, [], ◌∷◌, length, drop, leb, eqb}
use Rattle.spec_file.specs.Bytes.{Bytes}
use Rattle.spec_changes.specs.Changes.{Pair, runs}

unfoldable pub lesser : ℕ → ℕ → ℕ
lesser a b = cond (leb a b) a b

-- the first of some runs; where there is none, no byte at the end
unfoldable pub first_run : ℕ → List Pair → Pair
first_run end [] = record { at = end; size = 0 }
first_run end (r ∷ rs) = r

-- The first run of bytes that differ among those at `from` and behind it, as far as both have bytes. A run that begins
-- before `from` is seen from there on. Where none is left, it is no byte at the end of the shorter.
unfoldable pub next_run : ℕ → Bytes → Bytes → Pair
next_run from old new = first_run (lesser (length old) (length new)) (runs from (drop from old) (drop from new))

pub record NextChange (old new : Bytes) (from : ℕ) (old' new' : Bytes) (at size : ℕ) : Type 0 where
  -- where the run begins
  pub place : at ≡ (next_run from old new).at
  -- how many bytes it has
  pub many : size ≡ (next_run from old new).size
  -- both are as they were
  pub before : old' ≡ old
  pub after : new' ≡ new

-- at most so many turns; a run of no byte ends it
unfoldable pub stepped : ℕ → ℕ → Bytes → Bytes → List Pair
stepped zero k old new = []
stepped (suc turns) k old new =
    let r : Pair = next_run k old new in
    cond (eqb r.size 0) [] (r ∷ stepped turns (r.at + r.size) old new)
