-- Demand 3, the theorem over lists of calls, as one statement about the list as a whole: `Demand3`. Its proof stands
-- in another crate; this file can be read without it.
--     state_text, book_text     what the file finds, and what the book has, under a name
--     Permitted               what a list may hold, step by step along its run
--     Agrees, Demand3         file and book on a list; demand 3, from every start
--     GrowthAgreement     a named case: calls, then a start, then the calls after it
--     AgreementOfForms, AgreementFrom, Agreement      named cases: on one image; of plain calls; document 01's own
-- Assumes nothing.
use Rattle.std.specs.Prelude.{ℕ, ◌≡◌, Bool, true, false, cond, ◌&&◌, ◌||◌, List, [], ◌∷◌, ◌++◌, length}
use Rattle.std.proofs.Math.Option.{Option, none, some}
use Rattle.spec_file.specs.Bytes.{Bytes}
use Rattle.spec_file.specs.Image.{layout_of}
use Rattle.spec_file.specs.Create.{slots_asked}
use Rattle.spec_file.specs.Search.{search, is_met}
use Rattle.spec_file.specs.Questions.{name_allowed}
use Rattle.spec_file.specs.Calls.{create, lookup}
use Rattle.spec_file.specs.Lists.{Call, call, answers, state_after}
use Rattle.spec_book.specs.Steps.{Step, calling, compacting, listing, journaling, storing, reading, converting, perform_on, State, alone, growing, second_of, perform, dating, starting}
use Rattle.spec_book.specs.Book.{Book, Entry, new_book, find, book_call}
use Rattle.spec_book.specs.Told.{book_step, told_by, book_told}
use Rattle.spec_book.specs.Reopened.{terms_of, Starts}
use Rattle.spec_moves.specs.Moves.{Pair}
use Rattle.spec_growth.specs.Growth.{old_key, old_probe, holder}

-- "The file finds a point when its name has K bytes, not all zero, and the search meets it; its message is what lookup
-- shows." A point that is found has a text, or none.
unfoldable pub file_text : Bytes → Bytes → Option (Option Bytes)
file_text img name =
    let g = layout_of img in
    cond (name_allowed g.K name && is_met (search g img name)) (some (lookup img name).answer.text) none

-- during growth: "Lookups search old, then new"
unfoldable pub pair_text : Pair → Bytes → Option (Option Bytes)
pair_text p name =
    let h = layout_of p.new in
    cond (name_allowed (old_key p) name && (is_met (old_probe p name) || is_met (search h p.new name)))
    (some (lookup (holder p name) name).answer.text) none

unfoldable pub state_text : State → Bytes → Option (Option Bytes)
state_text (alone img) name = file_text img name
state_text (growing p) name = pair_text p name

-- the text of the book's entry of that name, if it has one
unfoldable pub text_of : Option Entry → Option (Option Bytes)
text_of none = none
text_of (some e) = some e.text

unfoldable pub book_text : Book → Bytes → Option (Option Bytes)
book_text b name = text_of (find name b.entries)

-- ---- what a list may hold

-- Job 12: "until then a list holds no compaction, conversion or further start"; "Jobs 7 to 9 stay outside growth"
unfoldable pub held_in_growth : Step → Bool
held_in_growth (calling c) = true
held_in_growth compacting = false
held_in_growth (listing c work list) = false
held_in_growth (journaling c work j) = false
held_in_growth (storing name recs W) = true
held_in_growth (reading name room) = true
held_in_growth (converting L) = false
held_in_growth (dating name t) = true
held_in_growth (starting new) = false

-- one image takes every step
unfoldable pub permits : Step → State → Bool
permits c (alone img) = true
permits c (growing p) = held_in_growth c

unfoldable pub Permitted : List Step → State → Type 0
Permitted [] s = Unit {0}
Permitted (c ∷ cs) s = (permits c s ≡ true) × Permitted cs (perform c s).after

-- ---- the statement

-- On a list of calls the file's answers are the book's, in order; and after the list the file finds exactly the book's
-- points with the book's texts. Of the file the book is told nothing but which calls were answered 17.
unfoldable pub Agrees : State → Book → List Step → Type 0
Agrees s b steps =
    (answers perform steps s ≡ answers book_told (told_by steps s) b)
    × ((name : Bytes)
    → state_text (state_after perform steps s) name ≡ book_text (state_after book_told (told_by steps s) b) name)

-- Demand 3: from every accepted create and from every sound image, for every list of calls, refused ones included
unfoldable pub Demand3 : Type 0
Demand3 = (s : State) (b : Book) → Starts s b → (steps : List Step) → Permitted steps s → Agrees s b steps

-- ---- cases of it

-- all steps of a list pass a test
unfoldable pub AllAre : (Step → Bool) → List Step → Type 0
AllAre p [] = Unit {0}
AllAre p (c ∷ cs) = (p c ≡ true) × AllAre p cs

-- no start: the list stays on one image
unfoldable pub no_start : Step → Bool
no_start c = none_of (second_of c)
  where
    none_of : Option Bytes → Bool
    none_of none = true
    none_of (some new) = false

-- on one image, which takes every step: with the forms of Jobs 8 and 9
unfoldable pub AgreementOfForms : Type 0
AgreementOfForms =
    (img : Bytes) (b : Book) → Starts (alone img) b → (steps : List Step) → AllAre no_start steps
    → Agrees (alone img) b steps

-- Job 12: "Lists of calls that contain the start and any number of these calls agree with it": steps on one image, the
-- start, and then any number of growth's calls, whether or not the last point has moved before they end
unfoldable pub GrowthAgreement : Type 0
GrowthAgreement =
    (img : Bytes) (b : Book) → Starts (alone img) b
    → (before after : List Step) (new : Bytes) → AllAre no_start before → AllAre held_in_growth after
    → Agrees (alone img) b (before ++ (starting new ∷ after))

-- a step in no form, and no start: the book is told nothing of it
unfoldable pub is_plain : Step → Bool
is_plain (calling c) = true
is_plain compacting = true
is_plain (listing c work list) = false
is_plain (journaling c work j) = false
is_plain (storing name recs W) = true
is_plain (reading name room) = true
is_plain (converting L) = true
is_plain (dating name t) = true
is_plain (starting new) = false

-- Job 3: "Every list of calls on such an image then agrees with it", and on a new one, with Job 2's compaction, Job
-- 10's records, Job 11's converter and Job 14's choice by epoch
unfoldable pub AgreementFrom : Type 0
AgreementFrom =
    (img : Bytes) (b : Book) → Starts (alone img) b → (steps : List Step) → AllAre is_plain steps
    → (answers perform_on steps img ≡ answers (book_step false) steps b)
    × ((name : Bytes)
    → file_text (state_after perform_on steps img) name ≡ book_text (state_after (book_step false) steps b) name)

-- Document 01's own: for every slice, K, N and seed that create accepts, and every list of add, delete, lookup and
-- count calls
unfoldable pub Agreement : Type 0
Agreement =
    (slice : Bytes) (K N seed : ℕ) → (create slice K N seed).answer.number ≡ 0
    → (calls : List Call)
    → let img : Bytes = (create slice K N seed).after in
    let b : Book = new_book (terms_of (length slice) K (slots_asked N)) in
    (answers call calls img ≡ answers book_call calls b)
    × ((name : Bytes) → file_text (state_after call calls img) name ≡ book_text (state_after book_call calls b) name)
