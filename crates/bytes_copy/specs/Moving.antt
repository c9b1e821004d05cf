-- A copy on its way within one list, from the front: of the n bytes from `from` on to `to`.
--     Runs s from to n      the two runs lie in s and do not meet
--     Moving s r from to n p      r is s with the first p bytes copied; nothing changed but the n bytes from `to` on
-- Assumes nothing.
use Rattle.std.specs.Prelude.{ℕ, ◌+◌, ◌≤◌, ◌<◌, ◌⊎◌, ◌≡◌, length, get_or}
use Rattle.spec_file.specs.Bytes.{Bytes}

abbrev pub Runs : Bytes → ℕ → ℕ → ℕ → Type 0
Runs s from to n = ((from + n ≤ to) ⊎ (to + n ≤ from)) × (from + n ≤ length s) × (to + n ≤ length s)

pub record Moving (s r : Bytes) (from to n p : ℕ) : Type 0 where
  pub long : length r ≡ length s
  pub front : (k : ℕ) → k < p → get_or r (to + k) 0 ≡ get_or s (from + k) 0
  pub rest : (k : ℕ) → (k < to) ⊎ (to + n ≤ k) → get_or r k 0 ≡ get_or s k 0
