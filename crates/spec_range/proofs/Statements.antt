-- What the records that promises cite say, field by field: an edit of a field falls here. And the names of a list that
-- lie in ranges, computed.
-- Assumes nothing.
use mathlib.Core.Path.{◌≡◌, refl}
use mathlib.Core.Logic.{◌⊎◌}
use Prim.Native.Nat.{ℕ, ◌*◌, ◌≤◌, ◌<◌}
use mathlib.Core.Bool.{true}
use mathlib.Core.List.{List, [], ◌∷◌}
use lib.ListN.{length, get_or}
use Rattle.spec_file.specs.Bytes.{Bytes, part, number, all_zero}
use Rattle.spec_file.specs.Image.{layout_of, slot, key_of}
use Rattle.spec_file.specs.Search.{met, search}
use Rattle.spec_file.specs.Questions.{lookup_number}
use Rattle.spec_file.specs.Inspect.{taken}
use Rattle.spec_range.specs.Ranges.{select}
use Rattle.spec_range.specs.Listed.{Wanted, Lists, OneFound, NoneFound, names_in, Among, NamesListed}
use Rattle.spec_range.proofs.CasesRanges.{range-definitions}

module _ (img lowest highest : Bytes) where
  -- a slot of the table that is taken, and each byte of its key is at least the lowest and at most the highest
  pub wanted-says : (i : ℕ) → Wanted img lowest highest i
      → (i < (layout_of img).N) × (taken (layout_of img) img i ≡ true)
      × ((p : ℕ) → p < length (key_of (layout_of img) (slot (layout_of img) img i))
      → (get_or lowest p 0 ≤ get_or (key_of (layout_of img) (slot (layout_of img) img i)) p 0)
      × (get_or (key_of (layout_of img) (slot (layout_of img) img i)) p 0 ≤ get_or highest p 0))
  wanted-says i w = (w.below, w.is-taken, w.lies)

  -- of the numbers in the list: only such slots, every such slot, none twice, rising; and the bytes after them
  pub lists-say : (list after : Bytes) (found : ℕ) → Lists img lowest highest list after found
      → let at : ℕ → ℕ = λ j. number (part after (4 * j) 4) in
      ((j : ℕ) → j < found → Wanted img lowest highest (at j))
      × ((i : ℕ) → Wanted img lowest highest i → (j : ℕ) × (j < found) × (at j ≡ i))
      × ((j k : ℕ) → j < found → k < found → at j ≡ at k → j ≡ k)
      × ((j k : ℕ) → j < k → k < found → at j < at k)
      × ((p : ℕ) → 4 * found ≤ p → get_or after p 0 ≡ get_or list p 0)
      × (length after ≡ length list)
  lists-say list after found l = (l.only, l.all, l.once, l.rising, l.stays, l.size)

  -- of the keys of those slots: only the book's names in the ranges, every one, none twice, and as many
  pub names-say : (names : List Bytes) (after : Bytes) (found : ℕ)
      → NamesListed img names lowest highest after found
      → let at : ℕ → Bytes = λ j. key_of (layout_of img) (slot (layout_of img) img (number (part after (4 * j) 4))) in
      (found ≡ length (names_in lowest highest names))
      × ((j : ℕ) → j < found → Among (at j) (names_in lowest highest names))
      × ((name : Bytes) → Among name (names_in lowest highest names) → (j : ℕ) × (j < found) × (at j ≡ name))
      × ((j k : ℕ) → j < found → k < found → at j ≡ at k → j ≡ k)
  names-say names after found l = (l.number_is, l.only, l.all, l.once)

-- one slot, the search's, which lookup accepts; or none, where lookup answers 14, or 7 for zeros
pub one-says : (img name list : Bytes) (i : ℕ) → OneFound img name list i
    → ((select img name name list).found ≡ 1) × (number (part (select img name name list).list 0 4) ≡ i)
    × (search (layout_of img) img name ≡ met i) × (lookup_number img name ≡ 0)
one-says img name list i f = (f.found-is, f.slot_is, f.search-ends, f.looked-up)

pub none-says : (img name list : Bytes) → NoneFound img name list
    → ((select img name name list).found ≡ 0) × ((select img name name list).list ≡ list)
    × ((lookup_number img name ≡ 14) ⊎ ((lookup_number img name ≡ 7) × (all_zero name ≡ true)))
none-says img name list f = (f.found-is, f.list-is, f.looked-up)

-- of "A1", "B2", "A3" those that begin with "A", and all
pub names-computed : (names_in (65 ∷ 0 ∷ []) (65 ∷ 255 ∷ []) ((65 ∷ 49 ∷ []) ∷ (66 ∷ 50 ∷ []) ∷ (65 ∷ 51 ∷ []) ∷ [])
    ≡ (65 ∷ 49 ∷ []) ∷ (65 ∷ 51 ∷ []) ∷ [])
    × (names_in (0 ∷ 0 ∷ []) (255 ∷ 255 ∷ []) ((65 ∷ 49 ∷ []) ∷ (66 ∷ 50 ∷ []) ∷ [])
    ≡ (65 ∷ 49 ∷ []) ∷ (66 ∷ 50 ∷ []) ∷ [])
unfolding range-definitions names_in
names-computed = (refl, refl)
