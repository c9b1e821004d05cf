-- What filling a slice from stored bytes answers and leaves: 19 and the slice as it was, or the records from its start.
-- Assumes nothing.
use Rattle.std.specs.Prelude.{◌≡◌, ℕ, [], ◌∷◌, length}
use Rattle.spec_file.specs.Bytes.{Bytes, store}
use Rattle.spec_file.specs.Questions.{ask, first_no}
use Rattle.spec_file.specs.Calls.{settled}
use Rattle.spec_columns.specs.Columns.{records}
use Rattle.spec_records.specs.Records.{readable, records_answer}

pub record Fills (stored out filled : Bytes) (n m : ℕ) : Type 0 where
  pub number : n ≡ first_no (ask 19 (readable stored (length out)) ∷ [])
  pub count : m ≡ (records_answer n stored).amount
  pub slice : filled ≡ settled n out (store out 0 (records stored))
