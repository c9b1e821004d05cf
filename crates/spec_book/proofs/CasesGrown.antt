-- Document 02, Job 12, of the book: its step at an accepted start, by computation, and the 21 that it puts. What lists
-- with growth answer, file and book, stands in crates/spec_cases/proofs/CasesGrowing.antt.
--     larger N L        an image without points, K = 1
-- Assumes nothing.
use mathlib.Core.Path.{◌≡◌, refl}
use Prim.Native.Nat.{ℕ}
use mathlib.Core.Bool.{true, false}
use mathlib.Core.List.{List, [], ◌∷◌}
use mathlib.Core.Option.{none, some}
use Rattle.spec_file.specs.Bytes.{Bytes, store, zeros}
use Rattle.spec_file.specs.Limits.{points_field, free_field, version_field}
use Rattle.spec_file.specs.Image.{set_field}
use Rattle.spec_file.specs.Calls.{plain}
use Rattle.spec_file.specs.Lists.{adding}
use Rattle.spec_file.proofs.CasesBase.{inspect-definitions, headed, after, one, two}
use Rattle.spec_compaction.proofs.CasesCompact.{compact-definitions}
use Rattle.spec_moves.specs.Moves.{Pair, active_at, active_from, active_space, same_kind, unused, second_fits, grow_number, lowest_slot}
use Rattle.spec_book.specs.Steps.{Step, starting, perform_on, State, alone, growing, left_in, pair_state, second_of, goes_on, alone_after, perform}
use Rattle.spec_book.specs.Book.{Book, new_book, grown_terms, grown_book, second_allowed, book_start}
use Rattle.spec_book.specs.Reopened.{terms_of}
use Rattle.spec_book.proofs.CasesReopened.{others_book}
use Rattle.spec_book.proofs.CasesTrimmed.{trim-definitions}

unfoldable pub starting-definitions : ℕ
unfolding compact-definitions trim-definitions
    active_at active_from active_space same_kind unused second_fits grow_number lowest_slot
    grown_terms grown_book second_allowed book_start
    perform_on left_in pair_state second_of goes_on alone_after perform
starting-definitions = 0

abbrev larger : ℕ → ℕ → Bytes
larger N L = headed 1 N L

-- ---- one step

-- "takes its compaction step at an accepted start, with the new N and R": held is the text's length, an offset stands
-- where a text does, and U is 4 + 1 and 4 + 2
abbrev pub book_grown : Book
book_grown =
    record {
      terms = record { K = 1; N = 5; R = 8192; head = 4; most = 16777215 };
      entries =
          record { name = one; text = none; held = 0; offset? = false }
          ∷ record { name = 3 ∷ []; text = some (84 ∷ []); held = 1; offset? = true }
          ∷ record { name = two; text = some (80 ∷ 81 ∷ []); held = 2; offset? = true } ∷ [];
      used = 11;
    }

pub others-grown : book_start others_book (larger 5 12288) ≡ record { after = book_grown; answer = plain 0 }
unfolding starting-definitions headed
others-grown = refl

-- "or whose R is below the compacted U": R = U is not
pub room-equal : (book_start (new_book (terms_of 8192 1 3)) (larger 5 4096)).answer ≡ plain 0
unfolding starting-definitions headed
room-equal = refl

-- ---- refused with 21, and nothing changes: the same N; another K; R below U; a point; X above D; a wider header; a
-- slice that is no image
abbrev refuses : Bytes → Type 0
refuses new = book_start others_book new ≡ record { after = others_book; answer = plain 21 }

pub start-refused : refuses (larger 3 8192) × refuses (headed 2 5 8192) × refuses (larger 5 4096)
    × refuses (set_field (larger 5 8192) points_field 1) × refuses (set_field (larger 5 8192) free_field 4097)
    × refuses (store (larger 5 8192) version_field (2 ∷ 0 ∷ 0 ∷ [])) × refuses []
unfolding starting-definitions headed
start-refused = (refl, refl, refl, refl, refl, refl, refl)

-- ---- the state after a start

abbrev single : Bytes
single = after (adding one (80 ∷ []) 1 ∷ []) (headed 1 2 8192)

-- growth begins where the old image has a point; else it is finished with at once; a refused start begins nothing
pub start-begins : ((perform (starting (larger 3 8192)) (alone single)).after
    ≡ growing (record { old = single; new = larger 3 8192 }))
    × ((perform (starting (larger 3 4096)) (alone (headed 1 2 4096))).after ≡ alone (larger 3 4096))
    × ((perform (starting (larger 2 4096)) (alone single)).after ≡ alone single)
unfolding starting-definitions headed after
start-begins = (refl, refl, refl)
