-- Document 02, Job 11, of the book: its step for the converter, by computation; and its questions' order. The file's
-- answers to the same list stand in crates/spec_cases/proofs/CasesWider.antt.
--     converted_calls     a list that goes to 2.0 and back
-- Assumes nothing.
use mathlib.Core.Path.{◌≡◌, refl}
use Prim.Native.Nat.{ℕ}
use mathlib.Core.Bool.{true, false}
use mathlib.Core.List.{List, [], ◌∷◌}
use mathlib.Core.Option.{none, some}
use Rattle.spec_file.specs.Bytes.{zeros}
use Rattle.spec_file.specs.Questions.{ask, first_no, size_allowed}
use Rattle.spec_file.specs.Calls.{Answer, plain}
use Rattle.spec_file.specs.Lists.{adding, looking, counting, answers, state_after}
use Rattle.spec_file.proofs.CasesBase.{one, two, done, refused, shows, counts}
use Rattle.spec_book.specs.Steps.{Step, calling, compacting, converting}
use Rattle.spec_book.specs.Book.{Book, new_book, step_of, other_terms, converted_book, text_fits, texts_fit, convert_asks, book_convert}
use Rattle.spec_book.specs.Told.{book_step}
use Rattle.spec_book.specs.Reopened.{terms_of}
use Rattle.spec_book.proofs.CasesBook.{booked}
use Rattle.spec_book.proofs.CasesReopened.{others_book}
use Rattle.spec_book.proofs.CasesTrimmed.{trim-definitions, start}

unfoldable pub converting-definitions : ℕ
unfolding trim-definitions other_terms converted_book text_fits texts_fit convert_asks book_convert book_step
converting-definitions = 0

-- ---- one step

-- "the book takes its compaction step with the other header size and the target's R", and question 12's other bound:
-- held is the text's length, an offset stands where a text does, and U is 5 + 1 and 5 + 2
abbrev pub wide_book : Book
wide_book =
    record {
      terms = record { K = 1; N = 3; R = 8192; head = 5; most = 1073741823 };
      entries =
          record { name = one; text = none; held = 0; offset? = false }
          ∷ record { name = 3 ∷ []; text = some (84 ∷ []); held = 1; offset? = true }
          ∷ record { name = two; text = some (80 ∷ 81 ∷ []); held = 2; offset? = true } ∷ [];
      used = 13;
    }

pub others-wide : book_convert others_book 12288 ≡ record { after = wide_book; answer = plain 0 }
unfolding converting-definitions
others-wide = refl

-- and back
pub others-back : (other_terms wide_book.terms 8192 ≡ others_book.terms) × ((converted_book wide_book 8192).used ≡ 11)
unfolding converting-definitions
others-back = (refl, refl)

-- R = 8,192 of the target: 8,187 bytes fit behind a header of 5, 8,188 give 13
pub wide_room : booked (adding one (zeros 8188) 1 ∷ adding one (zeros 8187) 1 ∷ []) (book_convert start 12288).after
    ≡ refused 13 ∷ done ∷ shows 8192 [] ∷ []
unfolding converting-definitions booked start
wide_room = refl

-- ---- refused: "puts the target's 1, 20 and 13 as the file does", and changes nothing

-- no texts, but a table whose D is 8,192
pub below-data : (book_convert (new_book (terms_of 8192 1 500)) 4096).answer ≡ refused 13
unfolding converting-definitions
below-data = refl

pub refused-book : (book_convert others_book 12289 ≡ record { after = others_book; answer = plain 1 })
    × (book_convert others_book 4096 ≡ record { after = others_book; answer = plain 13 })
unfolding converting-definitions
refused-book = (refl, refl)

-- of texts of 1 and of 2 bytes, and none
pub texts-fit : (texts_fit 2 others_book.entries ≡ true) × (texts_fit 1 others_book.entries ≡ false)
unfolding converting-definitions
texts-fit = (refl, refl)

-- 20 before 13, of texts that no case can compute with
pub book-20 : (b : Book) (L : ℕ) → size_allowed L ≡ true
    → texts_fit (other_terms b.terms L).most b.entries ≡ false
    → book_convert b L ≡ record { after = b; answer = plain 20 }
unfolding book_convert convert_asks step_of first_no ask
book-20 b L s t = rw (s, t) refl

-- ---- a list

-- "Lists of calls may contain it and go on in the target": "PQ" withdrawn and "R"; the converter refused, and accepted;
-- then the withdrawn point has no space to write in again, and takes 5 bytes. "ST" takes 5 + 2, and a compaction gives
-- back the 5 + 1 of "R". Back again U is 4 and 4 + 2.
abbrev pub converted_calls : List Step
converted_calls =
    calling (adding one (80 ∷ 81 ∷ []) 1) ∷ calling (adding two (82 ∷ []) 1) ∷ calling (adding one [] 4)
    ∷ converting 5000 ∷ converting 4096 ∷ calling (looking two) ∷ converting 12288
    ∷ calling (adding one [] 2) ∷ calling (adding two (83 ∷ 84 ∷ []) 2) ∷ compacting ∷ converting 8192
    ∷ calling (looking one) ∷ calling (looking two) ∷ calling counting ∷ []

abbrev pub converted_answers : List Answer
converted_answers =
    done ∷ done ∷ done ∷ refused 1 ∷ refused 13 ∷ shows 1 (82 ∷ []) ∷ done ∷ done ∷ done ∷ done ∷ done ∷ shows 0 []
    ∷ shows 2 (83 ∷ 84 ∷ []) ∷ counts 2 ∷ []

pub converted-book : answers (book_step false) converted_calls start ≡ converted_answers
unfolding converting-definitions start
converted-book = refl

-- U before the compaction, and at the end
abbrev widened : List Step
widened =
    calling (adding one (80 ∷ 81 ∷ []) 1) ∷ calling (adding two (82 ∷ []) 1) ∷ calling (adding one [] 4)
    ∷ converting 12288 ∷ calling (adding one [] 2) ∷ calling (adding two (83 ∷ 84 ∷ []) 2) ∷ []

pub converted-used : ((state_after (book_step false) widened start).used ≡ 18)
    × ((state_after (book_step false) converted_calls start).used ≡ 10)
unfolding converting-definitions start
converted-used = (refl, refl)
