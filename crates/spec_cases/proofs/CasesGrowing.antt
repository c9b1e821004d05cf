-- Document 02, Job 12, in lists: what file and book answer, by computation. K = 1, names of bytes below 32, which have
-- one home.
-- Assumes nothing.
use mathlib.Core.Path.{◌≡◌, refl}
use Prim.Native.Nat.{ℕ}
use mathlib.Core.Bool.{false}
use mathlib.Core.List.{List, [], ◌∷◌}
use mathlib.Core.Option.{none, some}
use Rattle.spec_file.specs.Bytes.{Bytes, zeros}
use Rattle.spec_file.specs.Limits.{points_field, free_field}
use Rattle.spec_file.specs.Image.{set_field}
use Rattle.spec_file.specs.Calls.{Answer}
use Rattle.spec_file.specs.Lists.{Call, adding, deleting, looking, counting, answers}
use Rattle.spec_file.proofs.CasesBase.{inspect-definitions, headed, one, two, point, done, refused, shows, counts}
use Rattle.spec_compaction.proofs.CasesCompact.{compact-definitions}
use Rattle.spec_columns.specs.Columns.{whole_records, columns}
use Rattle.spec_moves.specs.Moves.{Pair, active_at, active_from, active_space, same_kind, unused, second_fits, grow_number, move_text, move_mode, move_key, move_asks, moved_over, lowest_slot, moves}
use Rattle.spec_growth.specs.Growth.{second_known, pair_opened, pair_number, old_probe, named_number, named_moved, ready, both_points, reckoned_place, beside_asks, own_asks, first_of, in_turn, acted, settled_pair, added_pair, grow_add_number, grow_add, grow_delete_number, grow_delete, held_in_new, holder, grow_name_number, grow_lookup, grow_count}
use Rattle.spec_book.specs.Steps.{Step, calling, compacting, starting, perform_on, grow_call, perform_pair, State, alone, growing, left_in, pair_state, second_of, goes_on, alone_after, pair_after, perform}
use Rattle.spec_book.specs.Book.{Book, new_book, grown_terms, grown_book, second_allowed, book_start}
use Rattle.spec_book.specs.Told.{book_step}
use Rattle.spec_book.specs.Reopened.{terms_of}
use Rattle.spec_book.proofs.CasesTrimmed.{trim-definitions}

unfoldable pub growing-definitions : ℕ
unfolding compact-definitions trim-definitions
    active_at active_from active_space same_kind unused second_fits grow_number move_text move_mode move_key move_asks moved_over
    lowest_slot moves
    second_known pair_opened pair_number old_probe named_number named_moved ready both_points reckoned_place beside_asks own_asks
    first_of in_turn acted settled_pair added_pair grow_add_number grow_add grow_delete_number grow_delete held_in_new holder
    grow_name_number grow_lookup grow_count
    perform_on grow_call perform_pair left_in pair_state second_of goes_on alone_after pair_after perform
    grown_terms grown_book second_allowed book_start book_step
growing-definitions = 0

abbrev c : Call → Step
c x = calling x

-- file and book give these answers, from a new file of L bytes and N slots
abbrev Both : ℕ → ℕ → List Step → List Answer → Type 0
Both L N steps expected =
    (answers perform steps (alone (headed 1 N L)) ≡ expected)
    × (answers (book_step false) steps (new_book (terms_of L 1 N)) ≡ expected)

-- a full table, and growth; lookups and counts in it, refused calls, an add that ends it, a compaction, deletes
abbrev through_growth : List Step
through_growth =
    c (adding one (80 ∷ []) 1) ∷ c (adding two (81 ∷ 82 ∷ []) 1) ∷ c (point 3) ∷ starting (headed 1 4 8192)
    ∷ c (looking one) ∷ c (looking two) ∷ c (looking (3 ∷ [])) ∷ c counting ∷ c (adding one (83 ∷ []) 1)
    ∷ c (adding (3 ∷ []) [] 4) ∷ c (adding (3 ∷ []) (83 ∷ 84 ∷ []) 2) ∷ c (looking one) ∷ c counting ∷ compacting
    ∷ c (deleting one) ∷ c (deleting one) ∷ c (looking (3 ∷ [])) ∷ c counting ∷ []

pub through-growth : Both 8192 2 through_growth
    (done ∷ done ∷ refused 10 ∷ done ∷ shows 1 (80 ∷ []) ∷ shows 2 (81 ∷ 82 ∷ []) ∷ refused 14 ∷ counts 2 ∷ refused 9
    ∷ refused 14 ∷ done ∷ shows 1 (80 ∷ []) ∷ counts 3 ∷ done ∷ done ∷ refused 14 ∷ shows 2 (83 ∷ 84 ∷ [])
    ∷ counts 2 ∷ [])
unfolding growing-definitions headed
through-growth = (refl, refl)

-- a point that is deleted in growth was moved first: its space stays used
abbrev deleted_first : List Step
deleted_first =
    c (adding one (zeros 100) 1) ∷ starting (headed 1 3 8192) ∷ c (deleting one) ∷ c (adding one (zeros 4092) 1)
    ∷ c (adding one (zeros 3988) 1) ∷ c counting ∷ []

pub deleted-first : Both 8192 2 deleted_first (done ∷ done ∷ done ∷ refused 13 ∷ done ∷ counts 1 ∷ [])
unfolding growing-definitions headed
deleted-first = (refl, refl)

-- starts that are refused, and after a delete one with R = 0; then growth is over, and a further start may follow
abbrev starts : List Step
starts =
    c (adding one (zeros 100) 1) ∷ starting (headed 1 2 8192) ∷ starting (headed 2 3 8192) ∷ starting (headed 1 3 4096)
    ∷ starting (set_field (headed 1 3 8192) free_field 4097) ∷ starting (set_field (headed 1 3 8192) points_field 1)
    ∷ starting (set_field (headed 1 3 8192) free_field 9000) ∷ starting [] ∷ c (deleting one)
    ∷ starting (headed 1 3 4096) ∷ c counting ∷ compacting ∷ starting (headed 1 4 8192) ∷ []

pub starts-told : Both 8192 2 starts
    (done ∷ refused 21 ∷ refused 21 ∷ refused 21 ∷ refused 21 ∷ refused 21 ∷ refused 21 ∷ refused 21 ∷ done ∷ done
    ∷ counts 0 ∷ done ∷ done ∷ [])
unfolding growing-definitions headed
starts-told = (refl, refl)
