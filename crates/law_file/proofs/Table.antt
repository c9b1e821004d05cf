-- The table as the proofs see it: taken slots, tables in which searches find what stands, and what a name's slot holds.
--     Taken g img i       slot i is taken
--     Findable g img      1. no vacant slot from an entry's home up to it; 2. no key stands twice
--     entry_of g img key   the bytes of the slot where the search meets the key
--     weight g img w      the sum of w over the taken slots' bytes
-- Assumes nothing.
use mathlib.Core.Path.{◌≡◌}
use Prim.Native.Nat.{ℕ, ◌<◌}
use mathlib.Core.Bool.{false, cond}
use mathlib.Core.Option.{Option, none, some}
use Rattle.spec_file.specs.Bytes.{Bytes}
use Rattle.spec_file.specs.Image.{Layout, slot, key_of, vacant, home}
use Rattle.spec_file.specs.Search.{Probe, met, empty, exhausted, search, dist}
use Rattle.law_file.proofs.Total.{total}

abbrev pub Taken : Layout → Bytes → ℕ → Type 0
Taken g img i = vacant g (slot g img i) ≡ false

-- the key, and its home, of slot i
abbrev pub key_at : Layout → Bytes → ℕ → Bytes
key_at g img i = key_of g (slot g img i)

abbrev pub home_at : Layout → Bytes → ℕ → ℕ
home_at g img i = home g (key_at g img i)

pub record Findable (g : Layout) (img : Bytes) : Type 0 where
  pub paths : (i k : ℕ) → i < g.N → k < g.N → Taken g img i
      → dist g.N (home_at g img i) k < dist g.N (home_at g img i) i → Taken g img k
  pub distinct : (i j : ℕ) → i < g.N → j < g.N → Taken g img i → Taken g img j → key_at g img i ≡ key_at g img j → i ≡ j

unfoldable pub slot_met : Layout → Bytes → Probe → Option Bytes
slot_met g img (met i) = some (slot g img i)
slot_met g img (empty i) = none
slot_met g img exhausted = none

unfoldable pub entry_of : Layout → Bytes → Bytes → Option Bytes
entry_of g img key = slot_met g img (search g img key)

-- w of a taken slot's bytes, 0 of a vacant slot
unfoldable pub weigh : Layout → (Bytes → ℕ) → Bytes → ℕ
weigh g w s = cond (vacant g s) 0 (w s)

unfoldable pub weight : Layout → Bytes → (Bytes → ℕ) → ℕ
weight g img w = total (λ i. weigh g w (slot g img i)) g.N
