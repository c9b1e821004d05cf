-- Demand 3 on one image, as one statement about the list as a whole: `Demand3`, word for word as it stood before
-- growth. Its proof stands in crates/law_alone; this file can be read without it.
--     state_text              what the file finds under a name
--     Permitted               what a list may hold, step by step along its run
--     Agrees, Demand3         file and book on a list; demand 3, from every start
--     AgreementOfForms, AgreementFrom      named cases: on one image; of plain calls
-- Assumes nothing.
use Rattle.std.specs.Prelude.{◌≡◌, Bool, true, false, List, [], ◌∷◌}
use Rattle.std.proofs.Math.Option.{Option}
use Rattle.spec_file.specs.Bytes.{Bytes}
use Rattle.spec_file.specs.Lists.{answers, state_after}
use Rattle.spec_book.specs.Book.{Book}
use Rattle.spec_book.specs.Demand.{file_text, book_text}
use Rattle.spec_alone.specs.Steps.{Step, calling, compacting, listing, journaling, storing, reading, converting, dating, perform_on, State, alone, perform}
use Rattle.spec_alone.specs.Told.{book_step, told_by, book_told}
use Rattle.spec_alone.specs.Reopened.{Starts}

unfoldable pub state_text : State → Bytes → Option (Option Bytes)
state_text (alone img) name = file_text img name

-- ---- what a list may hold

-- one image takes every step
unfoldable pub permits : Step → State → Bool
permits c (alone img) = true

unfoldable pub Permitted : List Step → State → Type 0
Permitted [] s = Unit {0}
Permitted (c ∷ cs) s = (permits c s ≡ true) × Permitted cs (perform c s).after

-- ---- the statement

-- On a list of calls the file's answers are the book's, in order; and after the list the file finds exactly the book's
-- points with the book's texts. Of the file the book is told nothing but which calls were answered 17.
unfoldable pub Agrees : State → Book → List Step → Type 0
Agrees s b steps =
    (answers perform steps s ≡ answers book_told (told_by steps s) b)
    × ((name : Bytes)
    → state_text (state_after perform steps s) name ≡ book_text (state_after book_told (told_by steps s) b) name)

-- Demand 3: from every accepted create and from every sound image, for every list of calls, refused ones included
unfoldable pub Demand3 : Type 0
Demand3 = (s : State) (b : Book) → Starts s b → (steps : List Step) → Permitted steps s → Agrees s b steps

-- ---- cases of it

-- on one image, which takes every step: with the forms of Jobs 8 and 9
unfoldable pub AgreementOfForms : Type 0
AgreementOfForms = (img : Bytes) (b : Book) → Starts (alone img) b → (steps : List Step) → Agrees (alone img) b steps

-- a step in no form: the book is told nothing of it
unfoldable pub is_plain : Step → Bool
is_plain (calling c) = true
is_plain compacting = true
is_plain (listing c work list) = false
is_plain (journaling c work j) = false
is_plain (storing name recs W) = true
is_plain (reading name room) = true
is_plain (converting L) = true
is_plain (dating name t) = true

unfoldable pub AllPlain : List Step → Type 0
AllPlain [] = Unit {0}
AllPlain (c ∷ cs) = (is_plain c ≡ true) × AllPlain cs

-- Job 3: "Every list of calls on such an image then agrees with it", and on a new one, with Job 2's compaction, Job
-- 10's records, Job 11's converter and Job 14's choice by epoch
unfoldable pub AgreementFrom : Type 0
AgreementFrom =
    (img : Bytes) (b : Book) → Starts (alone img) b → (steps : List Step) → AllPlain steps
    → (answers perform_on steps img ≡ answers (book_step false) steps b)
    × ((name : Bytes)
    → file_text (state_after perform_on steps img) name ≡ book_text (state_after (book_step false) steps b) name)
