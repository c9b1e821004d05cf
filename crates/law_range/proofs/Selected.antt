-- The slots that are listed: which they are, and in which order.
--     wanted-taken      a wanted slot is taken, as the laws of the table have it; taken-wanted
--     selected-few      no more than the table has
--     selected-wanted, wanted-selected, selected-rising      exactly the wanted ones, in rising order
-- Assumes nothing.
use mathlib.Core.Path.{◌≡◌, ap}
use Prim.Native.Nat.{ℕ, ◌≤◌, ◌<◌}
use native.Mathlib.Omega.{arith}
use mathlib.Core.Bool.{Bool, true, not}
use lib.ListN.{length, get_or}
use borrow.Author.Tests.{not-true}
use Rattle.spec_file.specs.Bytes.{Bytes}
use Rattle.spec_file.specs.Image.{Layout, layout_of, slot, vacant}
use Rattle.spec_file.specs.Inspect.{taken}
use Rattle.law_file.proofs.Tests.{and_left, and_right, and-true}
use Rattle.law_file.proofs.Table.{Taken, key_at}
use Rattle.spec_range.specs.Ranges.{key_in_ranges, selects, selected}
use Rattle.spec_range.specs.Listed.{LiesIn, Wanted}
use Rattle.law_range.proofs.Ranges.{key-lies, lies-key}
use Rattle.law_range.proofs.Chosen.{chosen-few, chosen-each, chosen-all, chosen-rising}

module _ (img lowest highest : Bytes) where
  abbrev g : Layout
  g = layout_of img

  abbrev test : ℕ → Bool
  test = selects g img lowest highest

  pub wanted-taken : (i : ℕ) → Wanted img lowest highest i → Taken g img i
  unfolding taken
  wanted-taken i w = not-true (vacant g (slot g img i)) w.is-taken

  pub taken-wanted : (i : ℕ) → i < g.N → Taken g img i → LiesIn lowest highest (key_at g img i)
      → Wanted img lowest highest i
  unfolding taken
  taken-wanted i l t h = record { below = l; is-taken = ap not t; lies = h }

  selects-wanted : (i : ℕ) → i < g.N → test i ≡ true → Wanted img lowest highest i
  unfolding selects
  selects-wanted i l h =
      record {
        below = l;
        is-taken = and_left (taken g img i) (key_in_ranges lowest highest (key_at g img i)) h;
        lies =
            key-lies lowest highest (key_at g img i)
            (and_right (taken g img i) (key_in_ranges lowest highest (key_at g img i)) h);
      }

  wanted-selects : (i : ℕ) → Wanted img lowest highest i → test i ≡ true
  unfolding selects
  wanted-selects i w =
      and-true (taken g img i) (key_in_ranges lowest highest (key_at g img i)) w.is-taken
      (lies-key lowest highest (key_at g img i) w.lies)

  pub selected-few : length (selected g img lowest highest) ≤ g.N
  unfolding selected
  selected-few = chosen-few test g.N 0

  pub selected-wanted : (j : ℕ) → j < length (selected g img lowest highest)
      → Wanted img lowest highest (get_or (selected g img lowest highest) j 0)
  unfolding selected
  selected-wanted j l =
      let e = chosen-each test g.N 0 j l in
      selects-wanted _ (omega (arith, e.1)) e.2

  pub wanted-selected : (i : ℕ) → Wanted img lowest highest i
      → (j : ℕ) × (j < length (selected g img lowest highest)) × (get_or (selected g img lowest highest) j 0 ≡ i)
  unfolding selected
  wanted-selected i w = chosen-all test g.N 0 i (omega arith) (omega (arith, w.below)) (wanted-selects i w)

  pub selected-rising : (j k : ℕ) → j < k → k < length (selected g img lowest highest)
      → get_or (selected g img lowest highest) j 0 < get_or (selected g img lowest highest) k 0
  unfolding selected
  selected-rising = chosen-rising test g.N 0
