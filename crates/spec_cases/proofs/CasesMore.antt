-- More lists of calls, of file and book side by side, by computation.
--     Both       the answers that a new file and a new book give, and the space and bytes that are taken
-- Assumes nothing.
use mathlib.Core.Path.{◌≡◌, refl}
use Prim.Native.Nat.{ℕ}
use mathlib.Core.Bool.{true, false}
use mathlib.Core.List.{List, [], ◌∷◌, ◌++◌}
use mathlib.Core.Option.{none, some}
use Rattle.spec_file.specs.Bytes.{Bytes, zeros}
use Rattle.spec_file.specs.Calls.{Answer, create}
use Rattle.spec_file.specs.Lists.{Call, adding, deleting, looking, counting, answers}
use Rattle.spec_file.proofs.CasesBase.{inspect-definitions, headed, after, told, filed, Files, one, two, point, done, refused, shows, shows-none, counts}
use Rattle.spec_file.proofs.CasesOthers.{others}
use Rattle.spec_book.specs.Book.{Entry, new_book}
use Rattle.spec_book.specs.Reopened.{terms_of, book_of, entries_from, entry_at}
use Rattle.spec_book.proofs.CasesBook.{booked, Books, Find, file_texts, book_texts}
use Rattle.spec_book.proofs.CasesReopened.{others_book}
use Rattle.spec_book.specs.Steps.{changed, listed_outcome, journaled_outcome, dated_outcome, perform_on}
use Rattle.spec_book.proofs.CasesForms.{form-definitions, forms_calls, forms_answers, journal_calls, journal_answers}
use Rattle.spec_book.proofs.CasesRecorded.{recorded-definitions, records_calls, records_answers}
use Rattle.spec_book.proofs.CasesDated.{dating-definitions, dated_calls, dated_answers}
use Rattle.spec_epoch.proofs.CasesEpochs.{epoch-definitions}
use Rattle.spec_compaction.proofs.CasesCompact.{compact-definitions}
use Rattle.spec_changes.proofs.CasesChanges.{changes, journals}

abbrev pub Both : ℕ → ℕ → List Call → List Answer → ℕ → Bytes → Type 0
Both L N calls expected n bytes = Files L N calls expected n bytes × Books L N calls expected n

-- ---- calls

-- "Add, key absent" in modes 2 and 3: as in mode 1. Append of no data "changes nothing". The later of two points is
-- deleted, the other is as it was.
pub other-modes : Both 8192 4
    (adding one (80 ∷ []) 2 ∷ adding two (81 ∷ 82 ∷ []) 3 ∷ point 1 ∷ looking two ∷ counting ∷ deleting two
    ∷ looking one ∷ looking two ∷ [])
    (done ∷ done ∷ done ∷ shows 2 (81 ∷ 82 ∷ []) ∷ counts 2 ∷ done ∷ shows 1 (80 ∷ []) ∷ refused 14 ∷ [])
    11 (97 ∷ 0 ∷ 0 ∷ 1 ∷ 80 ∷ 100 ∷ 0 ∷ 0 ∷ 2 ∷ 81 ∷ 82 ∷ [])
unfolding filed headed booked
other-modes = (refl, refl)

-- Without a message a point holds 0 bytes: one byte takes new space, by replace and by append.
pub no-text-yet : Both 8192 4
    (point 1 ∷ adding one (80 ∷ []) 2 ∷ looking one ∷ point 2 ∷ adding two (81 ∷ []) 3 ∷ looking two ∷ [])
    (done ∷ done ∷ shows 1 (80 ∷ []) ∷ done ∷ done ∷ shows 1 (81 ∷ []) ∷ [])
    10 (97 ∷ 0 ∷ 0 ∷ 1 ∷ 80 ∷ 97 ∷ 0 ∷ 0 ∷ 1 ∷ 81 ∷ [])
unfolding filed headed booked
no-text-yet = (refl, refl)

-- Present in mode 1: 9. Modes 0 and 5: 8. A name of no or of two bytes: 7, before 8; lookup and delete ask 7 too.
pub refused-adds : Both 4096 4
    (point 1 ∷ adding one [] 1 ∷ adding one [] 0 ∷ adding two [] 5 ∷ adding [] [] 1 ∷ adding (1 ∷ 2 ∷ []) [] 5
    ∷ looking (1 ∷ 2 ∷ []) ∷ deleting [] ∷ counting ∷ [])
    (done ∷ refused 9 ∷ refused 8 ∷ refused 8 ∷ refused 7 ∷ refused 7 ∷ refused 7 ∷ refused 7 ∷ counts 1 ∷ [])
    0 []
unfolding filed headed booked
refused-adds = (refl, refl)

-- names of K = 2 bytes; one of 1 byte gives 7
abbrev pub names : List Call
names =
    adding (1 ∷ 2 ∷ []) (80 ∷ []) 1 ∷ adding (1 ∷ 3 ∷ []) (81 ∷ []) 1 ∷ adding one [] 3 ∷ deleting one ∷ looking one
    ∷ deleting (1 ∷ 2 ∷ []) ∷ looking (1 ∷ 2 ∷ []) ∷ looking (1 ∷ 3 ∷ []) ∷ counting ∷ []

abbrev pub names_answers : List Answer
names_answers =
    done ∷ done ∷ refused 7 ∷ refused 7 ∷ refused 7 ∷ done ∷ refused 14 ∷ shows 1 (81 ∷ []) ∷ counts 1 ∷ []

pub names-of-two : (filed names (create (zeros 8192) 2 3 7).after
    ≡ names_answers ++ (shows 10 (100 ∷ 0 ∷ 0 ∷ 1 ∷ 80 ∷ 97 ∷ 0 ∷ 0 ∷ 1 ∷ 81 ∷ []) ∷ []))
    × (booked names (new_book (terms_of 8192 2 3)) ≡ names_answers ++ (shows 10 [] ∷ []))
unfolding filed booked
names-of-two = (refl, refl)

-- byte 1 without a message: found, with no text; byte 2 absent; and names that no file has
pub find_none : Find 4096 (point 1 ∷ []) (one ∷ two ∷ (0 ∷ []) ∷ [] ∷ (1 ∷ 0 ∷ []) ∷ [])
    (some none ∷ none ∷ none ∷ none ∷ none ∷ [])
unfolding file_texts book_texts after headed
find_none = (refl, refl)

-- ---- document 02, Job 4, "An empty note is a note"

-- In place of "PQ": "written there as active, with the rest of the old bytes zeroed", and "mode 2 with empty data sets
-- held = 0": one byte then takes new space, and the note's header becomes "d".
pub notes-in-place : Both 8192 4
    (adding one (80 ∷ 81 ∷ []) 1 ∷ adding one [] 2 ∷ looking one ∷ adding one (82 ∷ []) 2 ∷ looking one ∷ [])
    (done ∷ done ∷ shows 0 [] ∷ done ∷ shows 1 (82 ∷ []) ∷ [])
    11 (100 ∷ 0 ∷ 0 ∷ 0 ∷ 0 ∷ 0 ∷ 97 ∷ 0 ∷ 0 ∷ 1 ∷ 82 ∷ [])
unfolding filed headed booked
notes-in-place = (refl, refl)

-- "Mode 3 with empty data is unchanged." Behind a note stand the new bytes, in new space.
pub notes-appended : Both 8192 4
    (adding one [] 1 ∷ adding one [] 3 ∷ looking one ∷ adding one (80 ∷ []) 3 ∷ looking one ∷ [])
    (done ∷ done ∷ shows 0 [] ∷ done ∷ shows 1 (80 ∷ []) ∷ [])
    9 (100 ∷ 0 ∷ 0 ∷ 0 ∷ 97 ∷ 0 ∷ 0 ∷ 1 ∷ 80 ∷ [])
unfolding filed headed booked
notes-appended = (refl, refl)

-- "where empty data takes new space the book puts 13 and U grows by 4": behind 4,088 bytes one note finds room, of R =
-- 4,096, and a second does not; in place it needs none, and mode 3 stores none.
abbrev pub to_the_end : List Call
to_the_end =
    adding one (zeros 4088) 1 ∷ adding two [] 1 ∷ adding (3 ∷ []) [] 1 ∷ adding one [] 2 ∷ adding (3 ∷ []) [] 3 ∷ []

pub notes-room : told to_the_end (headed 1 4 8192) ≡ 0 ∷ 0 ∷ 13 ∷ 0 ∷ 0 ∷ []
unfolding told headed
notes-room = refl

pub notes-room-book : booked to_the_end (new_book (terms_of 8192 1 4))
    ≡ done ∷ done ∷ refused 13 ∷ done ∷ done ∷ shows 4096 [] ∷ []
unfolding booked
notes-room-book = refl

-- a note and no message are two things
pub notes-found : Find 8192 (adding one [] 1 ∷ point 2 ∷ []) (one ∷ two ∷ (3 ∷ []) ∷ [])
    (some (some []) ∷ some none ∷ none ∷ [])
unfolding file_texts book_texts after headed
notes-found = (refl, refl)

-- the entries read off a file: byte 1 with a note in slot 3, byte 2 with a withdrawn "P" in slot 0, byte 3 without an
-- offset in slot 1
unfoldable pub three : Bytes
unfolding after headed
three = after (adding one [] 1 ∷ adding two (80 ∷ []) 1 ∷ adding two [] 4 ∷ point 3 ∷ []) (headed 1 4 8192)

pub notes-read : (book_of three).entries
    ≡ record { name = two; text = none; held = 1; offset? = true }
    ∷ record { name = 3 ∷ []; text = none; held = 0; offset? = false }
    ∷ record { name = one; text = some []; held = 0; offset? = true } ∷ []
unfolding inspect-definitions book_of entries_from entry_at three
notes-read = refl

-- ---- a file of another program

-- Byte 1 shows no text; two bytes for it take no space. Byte 3 is appended to in new space. The table is full, until
-- byte 2 is deleted. The gaps stay as they were.
abbrev pub others_calls : List Call
others_calls =
    looking one ∷ looking two ∷ adding one (85 ∷ 86 ∷ []) 2 ∷ adding (3 ∷ []) (87 ∷ []) 3 ∷ looking (3 ∷ []) ∷ point 9
    ∷ deleting two ∷ looking two ∷ adding (9 ∷ []) (88 ∷ []) 1 ∷ looking one ∷ counting ∷ []

abbrev pub others_answers : List Answer
others_answers =
    shows-none ∷ shows 2 (80 ∷ 81 ∷ []) ∷ done ∷ done ∷ shows 2 (84 ∷ 87 ∷ []) ∷ refused 10 ∷ done ∷ refused 14 ∷ done
    ∷ shows 2 (85 ∷ 86 ∷ []) ∷ counts 3 ∷ []

pub others-answers : (filed others_calls others
    ≡ others_answers ++ (shows 35
    (9 ∷ 9 ∷ 9 ∷ 100 ∷ 0 ∷ 0 ∷ 2 ∷ 80 ∷ 81 ∷ 9 ∷ 9 ∷ 97 ∷ 0 ∷ 0 ∷ 2 ∷ 85 ∷ 86 ∷ 9 ∷ 100 ∷ 0 ∷ 0 ∷ 1 ∷ 84 ∷ 9
    ∷ 97 ∷ 0 ∷ 0 ∷ 2 ∷ 84 ∷ 87 ∷ 97 ∷ 0 ∷ 0 ∷ 1 ∷ 88 ∷ []) ∷ []))
    × (booked others_calls others_book ≡ others_answers ++ (shows 35 [] ∷ []))
unfolding filed booked others
others-answers = (refl, refl)

-- ---- document 02, Job 8: the forms in a list of calls

pub forms-file : answers perform_on forms_calls (headed 1 4 8192) ≡ forms_answers
unfolding compact-definitions form-definitions changes changed listed_outcome perform_on headed
forms-file = refl

-- ---- Job 9

pub journaled-file : answers perform_on journal_calls (headed 1 4 8192) ≡ journal_answers
unfolding compact-definitions form-definitions journals changed journaled_outcome perform_on headed
journaled-file = refl

-- ---- records by column

-- the file's answers to the book's list, in a file of one slot
pub records-file : answers perform_on records_calls (headed 1 1 8192) ≡ records_answers
unfolding recorded-definitions compact-definitions headed
records-file = refl

-- ---- document 02, Job 14: the choice by epoch in a list of calls

pub dated-file : answers perform_on dated_calls (headed 5 8 8192) ≡ dated_answers
unfolding dating-definitions epoch-definitions headed perform_on dated_outcome
dated-file = refl
