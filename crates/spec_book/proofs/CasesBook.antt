-- Cases of the plain control book, by computation: document 01's proved table, lists of calls that a file answers
-- alike, small cases, what file and book find, and what `Agreement` says.
--     book-definitions   unfolding it unfolds all that the book computes with, and the file's calls
--     booked, Books      the answers of a list of calls, and behind them U
-- Assumes nothing.
use mathlib.Core.Path.{◌≡◌, refl}
use Prim.Native.Nat.{ℕ}
use mathlib.Core.List.{List, [], ◌∷◌, ◌++◌}
use mathlib.Core.Option.{Option, none, some}
use Rattle.spec_file.specs.Bytes.{Bytes, zeros}
use Rattle.spec_file.specs.Calls.{Answer, create}
use Rattle.spec_file.specs.Lists.{Call, adding, deleting, looking, counting, call, answers, state_after}
use Rattle.spec_file.proofs.CasesBase.{definitions, headed, after, numbers, one, two, done, refused, shows, shows-none, counts}
use Rattle.spec_file.proofs.Cases.{five, by_three, by-four}
use Rattle.spec_file.proofs.CasesCalls.{life_calls, life_answers, no_messages_calls, no_messages_answers, full_calls, full_answers}
use Rattle.spec_book.specs.Steps.{perform_on, alone_after, perform}
use Rattle.spec_book.specs.Book.{Terms, Book, new_book, find, without, with_entry, step_of, room_asks, entered, noting, bare, placed, add_absent, replace, append, withdrawn, add_present, add_found, guarded, book_add, delete_found, book_delete, lookup_found, book_lookup, book_count, book_call}
use Rattle.spec_book.specs.Reopened.{terms_of}
use Rattle.spec_book.specs.Demand.{file_text, state_text, text_of, book_text, Agreement}

unfoldable pub book-definitions : ℕ
unfolding definitions
    new_book find without with_entry step_of room_asks entered noting bare placed add_absent replace append withdrawn
    add_present add_found guarded
    book_add delete_found book_delete lookup_found book_lookup book_count book_call perform_on alone_after perform
    file_text state_text text_of book_text terms_of Agreement
book-definitions = 0

unfoldable pub booked : List Call → Book → List Answer
unfolding book-definitions
booked [] b = shows b.used [] ∷ []
booked (c ∷ calls) b = (book_call c b).answer ∷ booked calls (book_call c b).after

-- a new book for L bytes and N slots gives these answers to the calls, and then U is so much
abbrev pub Books : ℕ → ℕ → List Call → List Answer → ℕ → Type 0
Books L N calls expected n = booked calls (new_book (terms_of L 1 N)) ≡ expected ++ (shows n [] ∷ [])

-- ---- document 01's proved table

-- "R = 4,096: 4,092 bytes fit, 4,093 give 13."
pub book-4092 : booked (adding one (zeros 4092) 1 ∷ []) (new_book (terms_of 8192 1 4)) ≡ done ∷ shows 4096 [] ∷ []
unfolding booked
book-4092 = refl

pub book-4093 : booked (adding one (zeros 4093) 1 ∷ []) (new_book (terms_of 8192 1 4)) ≡ refused 13 ∷ shows 0 [] ∷ []
unfolding booked
book-4093 = refl

-- "Replacing 5 bytes by 3, then 4: U is 9, 9, 17."
pub used-5 : Books 8192 4 (five ∷ []) (done ∷ []) 9
unfolding booked
used-5 = refl

pub used-3 : Books 8192 4 (five ∷ by_three ∷ []) (done ∷ done ∷ []) 9
unfolding booked
used-3 = refl

pub used-4 : Books 8192 4 (five ∷ by_three ∷ by-four ∷ []) (done ∷ done ∷ done ∷ []) 17
unfolding booked
used-4 = refl

-- ---- lists of calls that a file answers alike

pub life-book : Books 8192 4 life_calls life_answers 15
unfolding booked
life-book = refl

pub no-messages-book : Books 4096 4 no_messages_calls no_messages_answers 0
unfolding booked
no-messages-book = refl

pub full-book : Books 4096 1 full_calls full_answers 0
unfolding booked
full-book = refl

-- ---- the book's small cases

-- Replaced by fewer bytes, then by more: the new text alone.
pub book-replaced : booked
    (five ∷ looking one ∷ by_three ∷ looking one ∷ by-four ∷ looking one ∷ [])
    (new_book (terms_of 8192 1 4))
    ≡ done ∷ shows 5 (1 ∷ 2 ∷ 3 ∷ 4 ∷ 5 ∷ []) ∷ done ∷ shows 3 (6 ∷ 7 ∷ 8 ∷ []) ∷ done ∷ shows 4 (6 ∷ 7 ∷ 8 ∷ 9 ∷ [])
    ∷ shows 17 [] ∷ []
unfolding booked
book-replaced = refl

-- "Mode 3 with m = 0 changes nothing. Otherwise .. the text gets the data behind it and held = t."
pub book-appended : booked
    (adding one (80 ∷ []) 1 ∷ adding one [] 3 ∷ looking one ∷ adding one (81 ∷ 82 ∷ []) 3 ∷ looking one
    ∷ adding one (83 ∷ 84 ∷ 85 ∷ []) 2 ∷ looking one ∷ [])
    (new_book (terms_of 8192 1 4))
    ≡ done ∷ done ∷ shows 1 (80 ∷ []) ∷ done ∷ shows 3 (80 ∷ 81 ∷ 82 ∷ []) ∷ done ∷ shows 3 (83 ∷ 84 ∷ 85 ∷ [])
    ∷ shows 12 [] ∷ []
unfolding booked
book-appended = refl

-- 02: "mode 4 makes the text none and keeps held": as many bytes take no space, more do. Its data is ignored.
pub book-emptied : booked
    (adding one (1 ∷ 2 ∷ 3 ∷ []) 1 ∷ adding one (9 ∷ []) 4 ∷ looking one ∷ adding one (4 ∷ 5 ∷ 6 ∷ []) 2 ∷ looking one
    ∷ adding one (7 ∷ 8 ∷ 9 ∷ 10 ∷ []) 2 ∷ looking one ∷ [])
    (new_book (terms_of 8192 1 4))
    ≡ done ∷ done ∷ shows-none ∷ done ∷ shows 3 (4 ∷ 5 ∷ 6 ∷ []) ∷ done ∷ shows 4 (7 ∷ 8 ∷ 9 ∷ 10 ∷ [])
    ∷ shows 15 [] ∷ []
unfolding booked
book-emptied = refl

-- Withdrawn, then appended to: the new bytes only, in new space.
pub book-emptied-appended : booked
    (adding one (80 ∷ 81 ∷ []) 1 ∷ adding one [] 4 ∷ adding one (82 ∷ []) 3 ∷ looking one ∷ [])
    (new_book (terms_of 8192 1 4))
    ≡ done ∷ done ∷ done ∷ shows 1 (82 ∷ []) ∷ shows 11 [] ∷ []
unfolding booked
book-emptied-appended = refl

-- Refilled by fewer bytes a point holds fewer, and as many as at first take new space: "Mode 2 with m at most held sets
-- the text and held = m."
pub book-refilled-shorter : booked
    (adding one (1 ∷ 2 ∷ 3 ∷ []) 1 ∷ adding one [] 4 ∷ adding one (4 ∷ 5 ∷ []) 2 ∷ looking one
    ∷ adding one (6 ∷ 7 ∷ 8 ∷ []) 2 ∷ looking one ∷ [])
    (new_book (terms_of 8192 1 4))
    ≡ done ∷ done ∷ done ∷ shows 2 (4 ∷ 5 ∷ []) ∷ done ∷ shows 3 (6 ∷ 7 ∷ 8 ∷ []) ∷ shows 14 [] ∷ []
unfolding booked
book-refilled-shorter = refl

-- "Delete: 14 if absent, else the entry goes; U stays." The other text is as it was; added anew, the point shows its
-- new text.
pub book-deleted : booked
    (adding one (80 ∷ []) 1 ∷ adding two (81 ∷ 82 ∷ []) 1 ∷ counting ∷ deleting one ∷ looking one ∷ counting
    ∷ deleting one ∷ looking two ∷ adding one (83 ∷ []) 1 ∷ looking one ∷ counting ∷ [])
    (new_book (terms_of 8192 1 4))
    ≡ done ∷ done ∷ counts 2 ∷ done ∷ refused 14 ∷ counts 1 ∷ refused 14 ∷ shows 2 (81 ∷ 82 ∷ []) ∷ done
    ∷ shows 1 (83 ∷ []) ∷ counts 2 ∷ shows 16 [] ∷ []
unfolding booked
book-deleted = refl

-- ---- the book's terms

-- "N and K are as created; R = L − D": with K = 4 and N = 257, D is 8,192; a header has 4 bytes, a text at most
-- 16,777,215.
pub book-terms : terms_of 12288 4 257 ≡ record { K = 4; N = 257; R = 4096; head = 4; most = 16777215 }
unfolding book-definitions
book-terms = refl

-- What `Agreement` says of a file of 40,960 bytes that was created with K = 2, N = 0 and seed 7: it and a book with N =
-- 5,507 and R = 4,096 give the same answers, and find the same texts.
abbrev pub asked-none : Terms
asked-none = record { K = 2; N = 5507; R = 4096; head = 4; most = 16777215 }

pub agreement-says : Agreement → (calls : List Call)
    → (answers call calls (create (zeros 40960) 2 0 7).after ≡ answers book_call calls (new_book asked-none))
    × ((name : Bytes) → file_text (state_after call calls (create (zeros 40960) 2 0 7).after) name
    ≡ book_text (state_after book_call calls (new_book asked-none)) name)
unfolding book-definitions
agreement-says h calls = h (zeros 40960) 2 0 7 refl calls

-- ---- refused calls

-- R = 4,096, of which 2,000 bytes take 2,004. Then 2,088 bytes are the most that find new space: by replace; by append
-- with the 2,000 that stand there, "t = text length + m takes m's place in 12, 13 and the growth of U". Then no byte
-- fits.
pub book-room : booked
    (adding one (zeros 2000) 1 ∷ adding one (zeros 2089) 2 ∷ adding one (zeros 89) 3 ∷ adding two (zeros 2089) 1
    ∷ adding one (zeros 88) 3 ∷ adding two (80 ∷ []) 1 ∷ counting ∷ [])
    (new_book (terms_of 8192 1 4))
    ≡ done ∷ refused 13 ∷ refused 13 ∷ refused 13 ∷ done ∷ refused 13 ∷ counts 1 ∷ shows 4096 [] ∷ []
unfolding booked
book-room = refl

-- Question 12 with 3 for the largest length: 4 bytes give 12, before 13; 3 bytes give 13 where there is no room.
abbrev pub short_texts : Book
short_texts = record { terms = record { K = 1; N = 4; R = 9; head = 4; most = 3 }; entries = []; used = 0 }

pub book-12 : booked
    (adding one (1 ∷ 2 ∷ 3 ∷ 4 ∷ []) 1 ∷ adding one (1 ∷ 2 ∷ 3 ∷ []) 1 ∷ adding one (4 ∷ []) 3
    ∷ adding one (1 ∷ 2 ∷ 3 ∷ 4 ∷ []) 2 ∷ adding two (1 ∷ 2 ∷ 3 ∷ []) 1 ∷ [])
    short_texts
    ≡ refused 12 ∷ done ∷ refused 12 ∷ refused 12 ∷ refused 13 ∷ shows 7 [] ∷ []
unfolding booked
book-12 = refl

-- ---- what the file and the book find

-- "The file finds a point when its name has K bytes, not all zero, and the search meets it; its message is what lookup
-- shows."
unfoldable pub file_texts : List Bytes → Bytes → List (Option (Option Bytes))
unfolding book-definitions
file_texts [] img = []
file_texts (name ∷ names) img = file_text img name ∷ file_texts names img

unfoldable pub book_texts : List Bytes → Book → List (Option (Option Bytes))
unfolding book-definitions
book_texts [] b = []
book_texts (name ∷ names) b = book_text b name ∷ book_texts names b

-- after a list of calls the file and the book find these texts under these names
abbrev pub Find : ℕ → List Call → List Bytes → List (Option (Option Bytes)) → Type 0
Find L calls names texts =
    (file_texts names (after calls (headed 1 4 L)) ≡ texts)
    × (book_texts names (state_after book_call calls (new_book (terms_of L 1 4))) ≡ texts)

-- byte 1 with "P"
pub find-text : Find 8192 (adding one (80 ∷ []) 1 ∷ []) (one ∷ []) (some (some (80 ∷ [])) ∷ [])
unfolding file_texts book_texts after headed
find-text = (refl, refl)
