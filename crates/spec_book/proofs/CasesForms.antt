-- Document 02, Jobs 8 and 9, of the book: the forms in a list of calls, by computation. The file's answers to the same
-- list stand in crates/spec_cases/proofs/CasesMore.antt.
-- Assumes nothing.
use mathlib.Core.Path.{◌≡◌, refl}
use Prim.Native.Nat.{ℕ}
use mathlib.Core.Bool.{true, false}
use mathlib.Core.List.{List, [], ◌∷◌}
use Rattle.spec_file.specs.Bytes.{zeros}
use Rattle.spec_file.specs.Calls.{Answer}
use Rattle.spec_file.specs.Lists.{looking, counting, answers}
use Rattle.spec_file.proofs.CasesBase.{one, done, refused, shows, counts}
use Rattle.spec_changes.specs.Changes.{list_allowed, work_allowed}
use Rattle.spec_book.specs.Steps.{Step, calling, listing, journaling, adds, deletes, compacts}
use Rattle.spec_book.specs.Told.{book_changed, image_length, told_number, book_step, Told, book_told}
use Rattle.spec_book.proofs.CasesTrimmed.{trim-definitions, start}

unfoldable pub form-definitions : ℕ
unfolding trim-definitions list_allowed work_allowed book_changed image_length told_number book_step book_told
form-definitions = 0

-- "A list slice below 8 bytes, or a working slice below L, is answered 16, before question 1": also before 7. Else a
-- form is the plain call; L is 8,192.
abbrev pub forms_calls : List Step
forms_calls =
    listing (adds one (80 ∷ []) 1) 8191 (zeros 8) ∷ listing (adds one (80 ∷ []) 1) 8192 (zeros 7)
    ∷ listing (adds [] [] 1) 8191 (zeros 8) ∷ listing (adds one (80 ∷ []) 1) 8192 (zeros 8)
    ∷ listing (adds one (81 ∷ []) 1) 8192 (zeros 8) ∷ calling (looking one)
    ∷ listing (deletes one) 8192 (zeros 7) ∷ listing (deletes one) 8192 (zeros 8)
    ∷ listing compacts 0 (zeros 8) ∷ listing compacts 8192 (zeros 8) ∷ calling counting ∷ []

abbrev pub forms_answers : List Answer
forms_answers =
    refused 16 ∷ refused 16 ∷ refused 16 ∷ done ∷ refused 9 ∷ shows 1 (80 ∷ []) ∷ refused 16 ∷ done ∷ refused 16
    ∷ done ∷ counts 0 ∷ []

-- none of them is answered 17
unfoldable pub untold : List Step → List Told
untold [] = []
untold (c ∷ cs) = record { step = c; seventeen = false } ∷ untold cs

pub forms-book : answers book_told (untold forms_calls) start ≡ forms_answers
unfolding form-definitions untold start
forms-book = refl

-- "17 after all other questions": told of it, the book answers it only where its own questions let the call through; 16
-- and 9 come before it. "it answers that and changes nothing".
abbrev pub journal_calls : List Step
journal_calls =
    journaling (adds one (80 ∷ []) 1) 8192 (zeros 8) ∷ journaling (adds one (80 ∷ []) 1) 8191 (zeros 90)
    ∷ journaling (adds one (80 ∷ []) 1) 8192 (zeros 90) ∷ journaling (adds one (81 ∷ []) 1) 8192 []
    ∷ journaling (deletes one) 8192 (zeros 10) ∷ calling (looking one) ∷ calling counting ∷ []

abbrev pub journal_answers : List Answer
journal_answers =
    refused 17 ∷ refused 16 ∷ done ∷ refused 9 ∷ refused 17 ∷ shows 1 (80 ∷ []) ∷ counts 1 ∷ []

pub told-book : answers book_told
    (record { step = journaling (adds one (80 ∷ []) 1) 8192 (zeros 8); seventeen = true }
    ∷ record { step = journaling (adds one (80 ∷ []) 1) 8191 (zeros 90); seventeen = true }
    ∷ record { step = journaling (adds one (80 ∷ []) 1) 8192 (zeros 90); seventeen = false }
    ∷ record { step = journaling (adds one (81 ∷ []) 1) 8192 []; seventeen = true }
    ∷ record { step = journaling (deletes one) 8192 (zeros 10); seventeen = true }
    ∷ record { step = calling (looking one); seventeen = true }
    ∷ record { step = calling counting; seventeen = true } ∷ [])
    start
    ≡ journal_answers
unfolding form-definitions start
told-book = refl
