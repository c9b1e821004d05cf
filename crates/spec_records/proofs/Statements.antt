-- What the records that contracts cite say, field by field: an edit of a field falls here.
-- Assumes nothing.
use mathlib.Core.Path.{◌≡◌}
use Prim.Native.Nat.{ℕ}
use lib.ListN.{length}
use Rattle.spec_file.specs.Bytes.{Bytes}
use Rattle.spec_records.specs.Records.{store_records, read_records, filled_records, Stores, Reads}

pub stores-say : {img key recs after : Bytes} {W n : ℕ} → Stores img key recs W after n
    → (n ≡ (store_records img key recs W).answer.number) × (after ≡ (store_records img key recs W).after)
stores-say s = (s.number, s.image)

pub reads_say : {img key out filled : Bytes} {n m : ℕ} → Reads img key out filled n m
    → (n ≡ (read_records img key (length out)).answer.number)
    × (m ≡ (read_records img key (length out)).answer.amount)
    × (filled ≡ filled_records img key out)
reads_say r = (r.number, r.count, r.slice)
