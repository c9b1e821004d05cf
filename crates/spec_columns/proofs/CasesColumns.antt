-- Document 02, Job 10: cases of records and columns, by computation.
--     column-definitions     unfolding it unfolds all that they compute with
-- Assumes nothing.
use Prim.Native.Nat.{ℕ}
use mathlib.Core.Bool.{Bool, true, false}
use mathlib.Core.List.{List, [], ◌∷◌}
use mathlib.Core.Path.{◌≡◌, refl}
use Rattle.spec_file.specs.Bytes.{Bytes, zeros}
use Rattle.spec_columns.specs.Columns.{width_of, whole_records, whole_columns, tabulate, concatenate, column, columns, record_at, records}

unfoldable pub column-definitions : ℕ
unfolding zeros width_of whole_records whole_columns tabulate concatenate column columns record_at records
column-definitions = 0

-- ---- what is stored

-- two records of 3 bytes, 10 11 12 and 20 21 22
abbrev pub two : Bytes
two = 10 ∷ 11 ∷ 12 ∷ 20 ∷ 21 ∷ 22 ∷ []

abbrev pub two_stored : Bytes
two_stored = 3 ∷ 10 ∷ 20 ∷ 11 ∷ 21 ∷ 12 ∷ 22 ∷ []

pub two-stored : columns 3 two ≡ two_stored
unfolding column-definitions
two-stored = refl

-- records of one byte stand as they came
pub width_one : columns 1 (10 ∷ 11 ∷ 12 ∷ []) ≡ 1 ∷ 10 ∷ 11 ∷ 12 ∷ []
unfolding column-definitions
width_one = refl

-- "one byte W followed by ..": of no record nothing follows
pub none-stored : columns 5 [] ≡ 5 ∷ []
unfolding column-definitions
none-stored = refl

-- the largest width: one record of 64 bytes stands as it came
pub widest-stored : columns 64 (zeros 64) ≡ 64 ∷ zeros 64
unfolding column-definitions
widest-stored = refl

-- ---- what is read

pub two-read : records two_stored ≡ two
unfolding column-definitions
two-read = refl

pub width-one-read : records (1 ∷ 10 ∷ 11 ∷ 12 ∷ []) ≡ 10 ∷ 11 ∷ 12 ∷ []
unfolding column-definitions
width-one-read = refl

pub none_read : records (5 ∷ []) ≡ []
unfolding column-definitions
none_read = refl

-- "W from the first stored byte, 0 if none"
pub width_read : width_of two_stored ≡ 3
unfolding column-definitions
width_read = refl

pub width-of-none : width_of [] ≡ 0
unfolding column-definitions
width-of-none = refl

-- ---- what is answered 19: widths 1, 2, 64, 0 and 65, with bytes of whole records; 5 bytes of records of 2

abbrev pub tests : List Bool
tests =
    whole_records 1 5 ∷ whole_records 2 6 ∷ whole_records 2 0 ∷ whole_records 64 128 ∷ whole_records 0 0
    ∷ whole_records 65 130 ∷ whole_records 2 5 ∷ []

pub records-tested : tests ≡ true ∷ true ∷ true ∷ true ∷ false ∷ false ∷ false ∷ []
unfolding column-definitions
records-tested = refl

-- nothing stored, a width with no record, two records, a byte too few; width 0, and width 65 with a record
abbrev pub stored_tests : List Bool
stored_tests =
    whole_columns [] ∷ whole_columns (5 ∷ []) ∷ whole_columns two_stored ∷ whole_columns (3 ∷ 10 ∷ 20 ∷ [])
    ∷ whole_columns (0 ∷ []) ∷ whole_columns (65 ∷ zeros 65) ∷ []

pub columns-tested : stored_tests ≡ false ∷ true ∷ true ∷ false ∷ false ∷ false ∷ []
unfolding column-definitions
columns-tested = refl
