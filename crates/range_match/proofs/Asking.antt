-- A byte in its range, by one comparison.
--     one-test      what is left of it above the lowest, wrapped, is at most what the range is wide
-- Assumes nothing.
use Rattle.std.proofs.Common.{◌≡◌, ℕ, ◌+◌, ◌-◌, ◌%◌, ◌<◌, ◌≤◌, leb, sym, ◌∙◌, arith, le-leb}
use borrow.Author.Tests.{lt-leb}
use Rattle.law_file.proofs.Tests.{by_bool, by_le}
use Rattle.spec_range.specs.Ranges.{in_range}
use Rattle.law_range.proofs.Ranges.{range-facts, facts-range}

pub one-test : (lowest highest byte r : ℕ) → lowest ≤ highest → highest < 256 → r < 256
    → (r + lowest) % 256 ≡ byte → leb r (highest - lowest) ≡ in_range lowest highest byte
one-test lowest highest byte r l h k e =
    by_le r (highest - lowest)
    (λ y. le-leb r (highest - lowest) y ∙ sym (facts-range lowest highest byte (omega arith) (omega arith)))
    (λ n.
    lt-leb r (highest - lowest) n
    ∙ sym (by_bool (in_range lowest highest byte)
    (λ y. absurd (omega (arith, range-facts lowest highest byte y)))
    (λ z. z)))
