-- How long a list and a journal always suffice, for an image of an even number of bytes, 2 × m.
--     runs-half           at most one run for every two bytes
--     list-enough         a list of 4 × L bytes takes all pairs
--     journal-enough      a journal of 4.5 × L + 6 bytes has room for content and mark
-- Assumes nothing.
use mathlib.Core.Path.{◌≡◌, ap}
use Prim.Native.Nat.{ℕ, suc, ◌+◌, ◌*◌, ◌≤◌}
use native.Mathlib.Omega.{arith}
use mathlib.Core.Bool.{Bool, cond}
use mathlib.Core.List.{List, [], ◌∷◌}
use lib.ListN.{length}
use borrow.Author.Tests.{le-leb}
use Rattle.spec_file.specs.Bytes.{Bytes}
use Rattle.spec_changes.specs.Changes.{Pair, runs, whole, changes_in, Spread}
use Rattle.spec_changes.specs.Journal.{bytes_start, total, content}
use Rattle.spec_changes.proofs.Changes.{runs-spread}
use Rattle.spec_changes.proofs.Journal.{length-content}

-- stretches and the bytes between them lie below the top
spread-most : (k top : ℕ) (rs : List Pair) → Spread k top rs → k ≤ suc top → k + total rs + length rs ≤ suc top
unfolding total
spread-most k top [] s h = omega arith
spread-most k top (r ∷ rs) s h =
    let end : r.at + r.size ≤ top = s.2 in
    omega (arith, s.0, spread-most (suc (r.at + r.size)) top rs s.3 (omega arith))

-- none is empty
spread-some : (k top : ℕ) (rs : List Pair) → Spread k top rs → length rs ≤ total rs
unfolding total
spread-some k top [] s = omega arith
spread-some k top (r ∷ rs) s = omega (arith, s.1, spread-some (suc (r.at + r.size)) top rs s.3)

module _ (old new : Bytes) (l : length old ≡ length new) (m : ℕ) (even : length new ≡ 2 * m) where
  abbrev rs : List Pair
  rs = runs 0 old new

  spread : Spread 0 (length new) rs
  spread = runs-spread old new l

  pub runs-half : length rs ≤ m
  runs-half =
      omega (arith, even, spread-most 0 (length new) rs spread (omega arith), spread-some 0 (length new) rs spread)

  pub list-enough : changes_in (4 * length new) old new ≡ rs
  unfolding changes_in
  list-enough =
      ap (λ (b : Bool). cond b rs (whole (length new)))
      (le-leb (8 * length rs) (4 * length new) (omega (arith, even, runs-half)))

  pub journal-enough : length (content rs new) + 1 ≤ 9 * m + 6
  unfolding bytes_start
  journal-enough =
      omega (
        arith,
        even,
        runs-half,
        spread-most 0 (length new) rs spread (omega arith),
        length-content 0 rs new spread,
      )
