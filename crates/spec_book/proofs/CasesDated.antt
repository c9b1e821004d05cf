-- Document 02, Job 14, of the book: its own choice in a list of calls, by computation; and what a file tells. The
-- file's answers to the same list stand in crates/spec_cases/proofs/CasesMore.antt.
-- Assumes nothing.
use mathlib.Core.Path.{◌≡◌, refl}
use Prim.Native.Nat.{ℕ}
use mathlib.Core.Bool.{false}
use mathlib.Core.List.{List, [], ◌∷◌}
use mathlib.Core.Option.{none, some}
use Rattle.spec_file.specs.Bytes.{Bytes}
use Rattle.spec_file.specs.Calls.{Answer}
use Rattle.spec_file.specs.Lists.{adding, deleting, answers}
use Rattle.spec_file.proofs.CasesBase.{done, refused}
use Rattle.spec_epoch.specs.Epochs.{epoch_of, dated_key, dated_by, key_dated, prism_allowed}
use Rattle.spec_epoch.proofs.CasesEpochs.{epoch-definitions, weekly}
use Rattle.spec_book.specs.Steps.{Step, calling, dating, dated_outcome, perform_on}
use Rattle.spec_book.specs.Book.{new_book, later_entry, latest_entry, dated_found, book_at_epoch}
use Rattle.spec_book.specs.Told.{book_step}
use Rattle.spec_book.specs.Reopened.{terms_of}
use Rattle.spec_book.proofs.CasesBook.{book-definitions}

unfoldable pub dating-definitions : ℕ
unfolding book-definitions
    epoch_of dated_key dated_by key_dated prism_allowed later_entry latest_entry dated_found book_at_epoch book_step
dating-definitions = 0

-- an epoch and a text, or none
abbrev pub tells : ℕ → Bytes → Answer
tells e t = record { number = 0; amount = 1; text = some t; epoch = e }

abbrev pub tells_none : ℕ → Answer
tells_none e = record { number = 0; amount = 0; text = none; epoch = e }

abbrev pub tells-note : ℕ → Answer
tells-note e = record { number = 0; amount = 0; text = some []; epoch = e }

-- Prism 7 gets epochs 3, 9, 1 and 2 in turn, of which 9 has an empty note and 1 no message, and prism 8 gets epoch 5.
-- "the largest epoch at most t", and not the last one added; "or 14 when none has one". A name of other than K − 4
-- bytes is answered 7. Epoch 9 is deleted.
abbrev pub dated_calls : List Step
dated_calls =
    calling (adding (7 ∷ 0 ∷ 0 ∷ 0 ∷ 3 ∷ []) (80 ∷ []) 1) ∷ calling (adding (7 ∷ 0 ∷ 0 ∷ 0 ∷ 9 ∷ []) [] 1)
    ∷ calling (adding (7 ∷ 0 ∷ 0 ∷ 0 ∷ 1 ∷ []) [] 3) ∷ calling (adding (7 ∷ 0 ∷ 0 ∷ 0 ∷ 2 ∷ []) (81 ∷ []) 1)
    ∷ calling (adding (8 ∷ 0 ∷ 0 ∷ 0 ∷ 5 ∷ []) (82 ∷ []) 1)
    ∷ dating (7 ∷ []) 0 ∷ dating (7 ∷ []) 1 ∷ dating (7 ∷ []) 2 ∷ dating (7 ∷ []) 8 ∷ dating (7 ∷ []) 9
    ∷ dating (8 ∷ []) 4 ∷ dating (8 ∷ []) 300 ∷ dating (9 ∷ []) 300 ∷ dating [] 300 ∷ dating (7 ∷ 0 ∷ []) 300
    ∷ calling (deleting (7 ∷ 0 ∷ 0 ∷ 0 ∷ 9 ∷ [])) ∷ dating (7 ∷ []) 300 ∷ []

abbrev pub dated_answers : List Answer
dated_answers =
    done ∷ done ∷ done ∷ done ∷ done ∷ refused 14 ∷ tells_none 1 ∷ tells 2 (81 ∷ []) ∷ tells 3 (80 ∷ []) ∷ tells-note 9
    ∷ refused 14 ∷ tells 5 (82 ∷ []) ∷ refused 14 ∷ refused 7 ∷ refused 7 ∷ done ∷ tells 3 (80 ∷ []) ∷ []

pub dated-book : answers (book_step false) dated_calls (new_book (terms_of 8192 5 8)) ≡ dated_answers
unfolding dating-definitions
dated-book = refl

-- "A file with K below 5 is answered 23, .. then a name without K − 4 bytes 7"
pub short-book : answers (book_step false) (dating [] 0 ∷ dating (7 ∷ []) 0 ∷ []) (new_book (terms_of 8192 4 8))
    ≡ refused 23 ∷ refused 23 ∷ []
unfolding dating-definitions
short-book = refl

-- a file's answer has number, length, text and epoch, and it changes no byte
pub dated-told : ((perform_on (dating (7 ∷ 1 ∷ []) 300) weekly).answer ≡ tells 256 (81 ∷ []))
    × ((perform_on (dating (7 ∷ 1 ∷ []) 300) weekly).after ≡ weekly)
unfolding perform_on dated_outcome epoch-definitions weekly
dated-told = (refl, refl)
