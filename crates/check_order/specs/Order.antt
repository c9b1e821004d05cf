-- Stretches start i .. stop i in the order of their starts, as a list of keys has them.
--     end_before      where the stretch of the key before key k ends
--     Behind         the first m keys' slots start in the window lo .. hi, each behind the end of the one before it
--     InOrder        no two that start below `at` meet, and none of them ends past `next`
--     OrderIn        so the stretches in an image
-- Assumes nothing.
use Rattle.std.specs.Prelude.{ℕ, zero, suc, ◌≤◌, ◌<◌, ◌≡◌, List}
use Rattle.spec_file.specs.Bytes.{Bytes}
use Rattle.header_layout.specs.declared.shape.Shape.{Shape}
use Rattle.message_stretch.specs.Checked.{start_in, end_in}
use Rattle.starts_list.specs.Starts.{listed_at}

-- at first `next`
unfoldable pub end_before : (ℕ → ℕ) → ℕ → List ℕ → ℕ → ℕ
end_before stop next keys zero = next
end_before stop next keys (suc k) = stop (listed_at keys k)

abbrev pub Behind : (ℕ → ℕ) → (ℕ → ℕ) → ℕ → ℕ → ℕ → ℕ → List ℕ → ℕ → Type 0
Behind start stop n lo hi next keys m =
    (k : ℕ) → k < m → (listed_at keys k < n) × (lo ≤ start (listed_at keys k)) × (start (listed_at keys k) < hi)
    × (end_before stop next keys k ≤ start (listed_at keys k))

pub record InOrder (start stop : ℕ → ℕ) (n at next : ℕ) : Type 0 where
  pub apart : (i j : ℕ) → i < n → j < n → (i ≡ j → ⊥) → start i < at → start j < at → start i < stop j
      → start j < stop i → ⊥
  pub ends : (i : ℕ) → i < n → start i < at → stop i ≤ next

abbrev pub OrderIn : Bytes → Shape → ℕ → ℕ → Type 0
OrderIn img s at next = InOrder (start_in img) (end_in img) s.slots at next
