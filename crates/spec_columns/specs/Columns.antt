-- Document 02, Job 10: "Our raw readings are records of W bytes, and office tools work on columns."
--     width_of stored         W of the records that are stored
--     whole_records W m       whether m bytes are records of W bytes, W from 1 to 64
--     whole_columns stored    whether what is stored are the columns of such records
--     columns W recs         what is stored of the records
--     records stored         the records that are read
-- Of n records, byte j of record r stands at r * W + j of the record bytes and at 1 + j * n + r of the stored ones.
-- Assumes nothing.
use Rattle.std.specs.Prelude.{ℕ, zero, suc, ◌+◌, ◌-◌, ◌*◌, ◌/◌, ◌%◌, Bool, ◌&&◌, [], ◌∷◌, ◌++◌, length, get_or, leb, eqb}
use Rattle.spec_file.specs.Bytes.{Bytes}

-- ---- the width

-- "W from 1 to 64"
abbrev pub most_width : ℕ
most_width = 64

-- "Reading takes W from the first stored byte, 0 if none"
unfoldable pub width_of : Bytes → ℕ
width_of stored = get_or stored 0 0

-- "A width out of range, record bytes not a multiple of W, .. is answered 19"
unfoldable pub whole_records : ℕ → ℕ → Bool
whole_records W m = leb 1 W && leb W most_width && eqb (m % W) 0

-- the same of what is stored: its width, and what stands behind it
unfoldable pub whole_columns : Bytes → Bool
whole_columns stored = whole_records (width_of stored) (length stored - 1)

-- ---- lists by their places

-- f 0, f 1, .., of n bytes
unfoldable pub tabulate : ℕ → (ℕ → ℕ) → Bytes
tabulate zero f = []
tabulate (suc n) f = f 0 ∷ tabulate n (λ i. f (suc i))

-- f 0, f 1, .., of n lists, one behind the other
unfoldable pub concatenate : ℕ → (ℕ → Bytes) → Bytes
concatenate zero f = []
concatenate (suc n) f = f 0 ++ concatenate n (λ i. f (suc i))

-- ---- columns and records

-- byte j of each of n records
unfoldable pub column : ℕ → ℕ → Bytes → ℕ → Bytes
column W n recs j = tabulate n (λ r. get_or recs (r * W + j) 0)

-- "one byte W followed by the first byte of every record, then the second bytes, and so on"
unfoldable pub columns : ℕ → Bytes → Bytes
columns W recs = W ∷ concatenate W (column W (length recs / W) recs)

-- record r of n: byte r of each column
unfoldable pub record_at : ℕ → ℕ → Bytes → ℕ → Bytes
record_at W n stored r = tabulate W (λ j. get_or stored (1 + j * n + r) 0)

-- "fills a lent slice with the records"
unfoldable pub records : Bytes → Bytes
records stored =
    let W : ℕ = width_of stored in
    let n : ℕ = (length stored - 1) / W in
    concatenate n (record_at W n stored)
