-- The positions of a key that are asked: a range from 0 to 255 takes every byte, and need not be looked at.
--     Ordered lowest highest               no lowest byte is above its highest
--     Free lowest highest a e              the ranges from position a up to e take every byte
--     AskedIn lowest highest first end     so do all but those from first up to end; and the ranges are ordered
-- Assumes nothing.
use Rattle.std.specs.Prelude.{◌≡◌, ℕ, ◌<◌, ◌≤◌, length, slice_index}
use Rattle.spec_file.specs.Bytes.{Bytes}

abbrev pub Ordered : Bytes → Bytes → Type 0
Ordered lowest highest = (p : ℕ) → p < length lowest → slice_index lowest p ≤ slice_index highest p

abbrev pub Free : Bytes → Bytes → ℕ → ℕ → Type 0
Free lowest highest a e = (p : ℕ) → a ≤ p → p < e → (slice_index lowest p ≡ 0) × (slice_index highest p ≡ 255)

pub record AskedIn (lowest highest : Bytes) (first end : ℕ) : Type 0 where
  pub ranges : Ordered lowest highest
  pub begins : first ≤ end
  pub within : end ≤ length lowest
  pub before : Free lowest highest 0 first
  pub after : Free lowest highest end (length lowest)
