-- The books read off images that no call of ours made (crates/spec_file/proofs/CasesOthers.antt), and what
-- `AgreementFrom` says. Assumes nothing.
use mathlib.Core.Path.{◌≡◌, refl}
use Prim.Native.Nat.{ℕ, ◌<◌}
use mathlib.Core.List.{List, [], ◌∷◌}
use mathlib.Core.Option.{none, some}
use mathlib.Core.Logic.{inr}
use mathlib.Core.Bool.{true, false}
use lib.ListN.{get_or}
use Rattle.spec_file.specs.Bytes.{Bytes}
use Rattle.spec_file.specs.Lists.{answers, state_after}
use Rattle.spec_file.specs.Inspect.{check, sound}
use Rattle.spec_file.proofs.CasesBase.{inspect-definitions, one, two}
use Rattle.spec_file.proofs.CasesOthers.{others, left}
use Rattle.spec_book.specs.Steps.{Step, perform_on}
use Rattle.spec_book.specs.Book.{Book}
use Rattle.spec_book.specs.Told.{book_step}
use Rattle.spec_book.specs.Reopened.{entry_at, entries_from, book_of, Starts, Reopened}
use Rattle.spec_book.specs.Demand.{file_text, book_text, AllAre, is_plain, AgreementFrom}
use Rattle.spec_book.proofs.CasesBook.{book-definitions}

-- unfolding it unfolds all that reads a book off an image
unfoldable pub reading : ℕ
unfolding inspect-definitions entry_at entries_from book_of
reading = 0

-- "entries from taken slots, text from active messages, held from the length at the offset, U = X − D"
abbrev pub others_book : Book
others_book =
    record {
      terms = record { K = 1; N = 3; R = 4096; head = 4; most = 16777215 };
      entries =
          record { name = one; text = none; held = 2; offset? = true }
          ∷ record { name = 3 ∷ []; text = some (84 ∷ []); held = 1; offset? = true }
          ∷ record { name = two; text = some (80 ∷ 81 ∷ []); held = 2; offset? = true } ∷ [];
      used = 24;
    }

pub others-book : book_of others ≡ others_book
unfolding reading others
others-book = refl

pub left-book : book_of left
    ≡ record {
      terms = record { K = 1; N = 4; R = 0; head = 4; most = 16777215 };
      entries = record { name = one; text = none; held = 0; offset? = false } ∷ [];
      used = 0;
    }
unfolding reading left
left-book = refl

-- ---- the statement

-- What `AgreementFrom` says of an image that the check calls sound: it and the book read off it give the same answers,
-- and find the same texts.
pub reopened-says : AgreementFrom → (img : Bytes) → ((i : ℕ) → get_or img i 0 < 256) → check img ≡ sound
    → (steps : List Step) → AllAre is_plain steps
    → (answers perform_on steps img ≡ answers (book_step false) steps (book_of img))
    × ((name : Bytes)
    → file_text (state_after perform_on steps img) name ≡ book_text (state_after (book_step false) steps (book_of img)) name)
unfolding book-definitions Starts AgreementFrom
reopened-says h img bytes checked steps plain =
    h img (book_of img) (inr (record { bytes = bytes; checked = checked; book-is = refl })) steps plain
