-- Document 02, Job 2, of the book: its answers to the lists of crates/spec_compaction/proofs/CasesCompact.antt, and
-- more. Assumes nothing.
use mathlib.Core.Path.{◌≡◌, refl}
use mathlib.Core.Bool.{true, false}
use mathlib.Core.List.{[], ◌∷◌, ◌++◌}
use mathlib.Core.Option.{none, some}
use Prim.Native.Nat.{ℕ}
use Rattle.spec_file.specs.Bytes.{zeros}
use Rattle.spec_file.specs.Lists.{adding, deleting, state_after}
use Rattle.spec_file.proofs.CasesBase.{one, two, done, refused, shows}
use Rattle.spec_compaction.proofs.CasesCompact.{order_before, order_after, order_answers, mixed_before, mixed_after, mixed_answers}
use Rattle.spec_book.specs.Book.{Book, new_book, book_call, trimmed, trimmed_all, space_for, space_for_all, compacted_book, book_compact}
use Rattle.spec_book.specs.Reopened.{terms_of}
use Rattle.spec_book.proofs.CasesBook.{book-definitions, booked}
use Rattle.spec_book.proofs.CasesReopened.{others_book}

unfoldable pub trim-definitions : ℕ
unfolding book-definitions trimmed trimmed_all space_for space_for_all compacted_book book_compact
trim-definitions = 0

-- a new book for 8,192 bytes and 4 slots
unfoldable pub start : Book
unfolding trim-definitions
start = new_book (terms_of 8192 1 4)

-- ---- calls, a compaction, and calls

pub order-book : booked order_after (book_compact (state_after book_call order_before start)).after
    ≡ order_answers ++ (shows 22 [] ∷ [])
unfolding trim-definitions booked start
order-book = refl

pub mixed-book : booked mixed_after (book_compact (state_after book_call mixed_before start)).after
    ≡ mixed_answers ++ (shows 17 [] ∷ [])
unfolding trim-definitions booked start
mixed-book = refl

-- "freed space is used again": of R = 4,096 no byte is left beside 4,092; deleted and compacted, they fit again
pub again-book : booked (adding two (zeros 4092) 1 ∷ adding one [] 1 ∷ [])
    (book_compact (state_after book_call (adding one (zeros 4092) 1 ∷ deleting one ∷ []) start)).after
    ≡ done ∷ refused 13 ∷ shows 4096 [] ∷ []
unfolding trim-definitions booked start
again-book = refl

-- ---- a file of another program

-- held is the text's length, an offset stands where a text does, and U is 4 + 1 and 4 + 2
pub others-trimmed : ((compacted_book others_book).entries
    ≡ record { name = one; text = none; held = 0; offset? = false }
    ∷ record { name = 3 ∷ []; text = some (84 ∷ []); held = 1; offset? = true }
    ∷ record { name = two; text = some (80 ∷ 81 ∷ []); held = 2; offset? = true } ∷ [])
    × ((compacted_book others_book).used ≡ 11)
unfolding trim-definitions
others-trimmed = (refl, refl)
