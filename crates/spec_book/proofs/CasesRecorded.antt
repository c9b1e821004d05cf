-- Document 02, Job 10, of the book: records by column in a list of calls, by computation. The file's answers to the
-- same list stand in crates/spec_cases/proofs/CasesMore.antt.
-- Assumes nothing.
use mathlib.Core.Path.{◌≡◌, refl}
use Prim.Native.Nat.{ℕ}
use mathlib.Core.Bool.{false}
use mathlib.Core.List.{List, [], ◌∷◌}
use Rattle.spec_file.specs.Bytes.{zeros}
use Rattle.spec_file.specs.Calls.{Answer}
use Rattle.spec_file.specs.Lists.{adding, looking, counting, answers}
use Rattle.spec_file.proofs.CasesBase.{done, refused, shows, counts, one, point}
use Rattle.spec_columns.proofs.CasesColumns.{two, two_stored}
use Rattle.spec_records.proofs.CasesRecords.{record-definitions, reads}
use Rattle.spec_book.specs.Steps.{Step, calling, compacting, storing, reading}
use Rattle.spec_book.specs.Book.{new_book, book_store, read_found, book_read}
use Rattle.spec_book.specs.Reopened.{terms_of}
use Rattle.spec_book.specs.Told.{book_step}
use Rattle.spec_book.proofs.CasesTrimmed.{trim-definitions}

unfoldable pub recorded-definitions : ℕ
unfolding trim-definitions record-definitions book_store read_found book_read book_step
recorded-definitions = 0

-- Two records of 3 bytes are stored for a new point, and read: all of them, or 19 where the slice is a byte too short.
-- "The book compares stored bytes": lookup shows the width and the columns, also after a compaction. "puts 19 as the
-- file does", after 7 and before 10, where the one slot is taken; 14 for a point that is not there. No record is the
-- width alone; what was appended to it is read with it. "on reading by its text": 19 for a text that is no columns, for
-- an empty one, and for none.
abbrev pub records_calls : List Step
records_calls =
    reading one 9 ∷ storing (0 ∷ []) two 4 ∷ storing one two 4 ∷ storing one two 3 ∷ reading one 6 ∷ reading one 5
    ∷ reading (0 ∷ []) 9 ∷ calling (looking one) ∷ storing (2 ∷ []) two 4 ∷ storing (2 ∷ []) two 3 ∷ reading (2 ∷ []) 9
    ∷ compacting ∷ reading one 6 ∷ storing one [] 2 ∷ reading one 0 ∷ calling (adding one (7 ∷ 8 ∷ []) 3)
    ∷ reading one 2 ∷ storing one (zeros 65) 65 ∷ calling (adding one (80 ∷ []) 2) ∷ reading one 9
    ∷ calling (adding one [] 2) ∷ reading one 9 ∷ calling (adding one [] 4) ∷ reading one 9 ∷ calling counting ∷ []

abbrev pub records_answers : List Answer
records_answers =
    refused 14 ∷ refused 7 ∷ refused 19 ∷ done ∷ reads two ∷ refused 19
    ∷ refused 7 ∷ shows 7 two_stored ∷ refused 19 ∷ refused 10 ∷ refused 14
    ∷ done ∷ reads two ∷ done ∷ reads [] ∷ done
    ∷ reads (7 ∷ 8 ∷ []) ∷ refused 19 ∷ done ∷ refused 19
    ∷ done ∷ refused 19 ∷ done ∷ refused 19 ∷ counts 1 ∷ []

pub records-book : answers (book_step false) records_calls (new_book (terms_of 8192 1 1)) ≡ records_answers
unfolding recorded-definitions
records-book = refl
