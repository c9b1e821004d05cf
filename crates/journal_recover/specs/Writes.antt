-- Write number k alone, its new bytes from `from` on.
--     block_at, next_from, write_at      of a marked journal: stretch k, or behind the last the mark taken away
--     write_number                     of an update: content, mark, and what the marked journal asks for
--     Reads, Numbered                 what each asks of image and journal
-- Assumes nothing.
use Rattle.std.specs.Prelude.{◌≡◌, ℕ, ◌+◌, ◌-◌, ◌*◌, ◌^◌, ◌≤◌, ◌<◌, cond, length, ltb, eqb}
use Rattle.spec_file.specs.Bytes.{Bytes, part}
use Rattle.spec_file.specs.Image.{field}
use Rattle.spec_changes.specs.Changes.{runs}
use Rattle.spec_changes.specs.Journal.{Block, Write, to_image, to_journal, set_mark, content, marked}

abbrev pub block_at : Bytes → ℕ → ℕ → Block
block_at j k from = record { place = field j (4 + 8 * k); bytes = part j from (field j (8 + 8 * k)) }

abbrev pub next_from : Bytes → ℕ → ℕ → ℕ
next_from j k from = from + field j (8 + 8 * k)

abbrev pub write_at : Bytes → ℕ → ℕ → ℕ → Write
write_at j pairs k from = cond (ltb k pairs) (to_image (block_at j k from)) (set_mark 0 j)

-- pair k can be read, its stretch lies in the image, and its bytes before the mark
pub record Reads (L : ℕ) (j : Bytes) (k from : ℕ) : Type 0 where
  pub pair : 12 + 8 * k ≤ length j
  pub inside : field j (4 + 8 * k) + field j (8 + 8 * k) ≤ L
  pub room : from + field j (8 + 8 * k) + 1 ≤ length j

-- write number k of an update
abbrev pub write_number : Bytes → Bytes → Bytes → ℕ → ℕ → ℕ → Write
write_number img new j pairs k from =
    cond (eqb k 0) (to_journal (record { place = 0; bytes = content (runs 0 img new) new }))
    (cond (eqb k 1) (set_mark marked j) (write_at j pairs (k - 2) from))

-- and what it asks: first room for the content, then of each stretch what it asks alone
pub record Numbered (img new j : Bytes) (pairs k from : ℕ) : Type 0 where
  pub some : 1 ≤ length j
  pub first : k ≡ 0
      → (length img ≡ length new) × (length img < 2 ^ 32) × (pairs ≡ length (runs 0 img new))
      × (length (content (runs 0 img new) new) ≤ length j)
  pub reads : 2 ≤ k → k - 2 < pairs → Reads (length img) j (k - 2) from
