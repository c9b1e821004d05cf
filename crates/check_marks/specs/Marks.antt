-- Marks, 64 to a word: place q is bit q % 64 of word q / 64.
--     Claimed m m' from to met      a place from `from` up to `to` was marked in m; or none was, and in m' they all are
-- Assumes nothing.
use Rattle.std.specs.Prelude.{◌≡◌, Bool, true, false, List, ◌⊎◌, ℕ, ◌/◌, ◌%◌, ◌^◌, ◌≤◌, ◌<◌, get_or}

-- a map of marks, as its words
abbrev pub Map : Type 0
Map = List ℕ

unfoldable pub bit : ℕ → ℕ → ℕ
bit x j = x / 2 ^ j % 2

unfoldable pub marked : Map → ℕ → ℕ
marked m q = bit (get_or m (q / 64) 0) (q % 64)

pub record Claimed (m m' : Map) (from to : ℕ) (met : Bool) : Type 0 where
  pub hit : met ≡ true → (q : ℕ) × (from ≤ q) × (q < to) × (marked m q ≡ 1)
  pub free : met ≡ false → (q : ℕ) → from ≤ q → q < to → marked m q ≡ 0
  pub inside : met ≡ false → (q : ℕ) → from ≤ q → q < to → marked m' q ≡ 1
  pub outside : met ≡ false → (q : ℕ) → (q < from) ⊎ (to ≤ q) → marked m' q ≡ marked m q
