-- Document 02, Job 12: the calls during growth on pairs, by computation; most of them are damaged, for what holds of
-- sound ones in lists does not show which refusal comes first. Further ones are in crates/spec_cases.
--     growth-definitions     unfolding it unfolds all that the calls compute with
--     numbers_of p            what add in its four modes, delete and storing answer of the name 1; what lookup shows of
--                            it, and count; refusals: some of these
-- K = 1, and all names have one home.
-- Every edit computes all of them. So images are laid out from front to back, those without messages have 4,096 bytes,
-- and what is computed twice with is handed to a function, which computes it once.
-- Assumes nothing.
use mathlib.Core.Path.{◌≡◌, refl}
use Prim.Native.Nat.{ℕ, zero, suc, ◌+◌, ◌-◌, ◌*◌}
use mathlib.Core.List.{List, [], ◌∷◌, ◌++◌}
use mathlib.Core.Option.{none, some}
use lib.ListN.{length, get_or}
use Rattle.spec_file.specs.Bytes.{Bytes, part, store, digits, zeros}
use Rattle.spec_file.specs.Limits.{points_field, free_field, version_field}
use Rattle.spec_file.specs.Image.{field, set_field}
use Rattle.spec_file.specs.Create.{fresh_header}
use Rattle.spec_file.specs.Calls.{Answer, Outcome}
use Rattle.spec_file.proofs.CasesBase.{inspect-definitions, headed, one, two}
use Rattle.spec_compaction.proofs.CasesCompact.{compact-definitions}
use Rattle.spec_records.proofs.CasesRecords.{record-definitions}
use Rattle.spec_range.proofs.CasesRanges.{range-definitions}
use Rattle.spec_epoch.specs.Epochs.{Dated}
use Rattle.spec_epoch.proofs.CasesEpochs.{epoch-definitions}
use Rattle.spec_moves.specs.Moves.{Pair}
use Rattle.spec_moves.proofs.CasesMoves.{move-definitions, pair, counted, spread, laid, bare, single, bare_single, looks_like, both_look, points_of}
use Rattle.spec_growth.specs.Growth.{second_known, pair_opened, pair_number, old_probe, named_number, named_moved, ready, both_points, reckoned_place, beside_asks, own_asks, first_of, in_turn, acted, settled_pair, added_pair, grow_add_number, grow_add, grow_delete_number, grow_delete, grow_store_number, grow_store, held_in_new, holder, grow_name_number, grow_lookup, grow_lookup_start, grow_lookup_length, grow_lookup_in_new, grow_count, grow_read, grow_filled, PairSelection, grow_select_number, grow_select, dated_in_new, dated_holder, grow_dated_number, grow_at_epoch, grow_dated_in}

unfoldable pub growth-definitions : ℕ
unfolding move-definitions record-definitions range-definitions epoch-definitions
    second_known pair_opened pair_number old_probe named_number named_moved ready both_points reckoned_place beside_asks own_asks
    first_of in_turn acted settled_pair added_pair grow_add_number grow_add grow_delete_number grow_delete grow_store_number
    grow_store held_in_new holder grow_name_number grow_lookup grow_lookup_start grow_lookup_length grow_lookup_in_new grow_count
    grow_read grow_filled grow_select_number grow_select dated_in_new dated_holder grow_dated_number grow_at_epoch grow_dated_in
growth-definitions = 0

-- ---- what is looked at

unfoldable pub numbers_of : Pair → List ℕ
unfolding growth-definitions
numbers_of p =
    (grow_add p one (9 ∷ []) 1).answer.number ∷ (grow_add p one (9 ∷ []) 2).answer.number
    ∷ (grow_add p one [] 3).answer.number ∷ (grow_add p one [] 4).answer.number ∷ (grow_delete p one).answer.number
    ∷ (grow_store p one (9 ∷ []) 1).answer.number ∷ (grow_lookup p one).answer.amount ∷ (grow_count p).answer.amount ∷ []

-- the numbers of add in mode 1 and in mode 3 without data, of delete and of storing alone
unfoldable pub refusals : Pair → List ℕ
unfolding growth-definitions
refusals p =
    (grow_add p one (9 ∷ []) 1).answer.number ∷ (grow_add p one [] 3).answer.number ∷ (grow_delete p one).answer.number
    ∷ (grow_store p one (9 ∷ []) 1).answer.number ∷ []

-- ---- the named point's move

-- a sound pair: mode 1 is refused with 9, the others are not
pub sound-numbers : numbers_of (pair (single 2) (headed 1 3 8192)) ≡ 9 ∷ 0 ∷ 0 ∷ 0 ∷ 0 ∷ 0 ∷ 1 ∷ 1 ∷ []
unfolding numbers_of single headed
sound-numbers = refl

-- the name 1 with the text "QR", in slot 0 of 3
abbrev two_bytes : Bytes
two_bytes = laid 3 (1 ∷ 0 ∷ 0 ∷ 16 ∷ 0 ∷ []) (97 ∷ 0 ∷ 0 ∷ 2 ∷ 81 ∷ 82 ∷ []) 1 6

-- a name in both: the move's 9 in every mode, for delete and for storing; lookup shows the old one's message
abbrev both : Pair
both = pair (single 2) two_bytes

pub twice : numbers_of both ≡ 9 ∷ 9 ∷ 9 ∷ 9 ∷ 9 ∷ 9 ∷ 1 ∷ 2 ∷ []
unfolding numbers_of single laid headed
twice = refl

-- C = 0 in the old image: the move's 11 before mode 1's 9
pub uncounted : refusals (pair (bare_single 0) (headed 1 3 4096)) ≡ 11 ∷ 11 ∷ 11 ∷ 11 ∷ []
unfolding refusals bare_single headed
uncounted = refl

-- C = N in the new one: the move's 10 before mode 1's 9
pub filled : refusals (pair (bare_single 1) (set_field (headed 1 3 4096) points_field 3)) ≡ 10 ∷ 10 ∷ 10 ∷ 10 ∷ []
unfolding refusals bare_single headed
filled = refl

-- a point that is deleted is moved first: both images are without it, and its space in the new one is used
pub own-delete : both_look 2 3 (grow_delete (pair (single 2) (headed 1 3 8192)) one).after
    ≡ ((0 ∷ 5 ∷ []) ∷ zeros 10 ∷ (100 ∷ 0 ∷ 0 ∷ 1 ∷ 80 ∷ zeros 15) ∷ [])
    ∷ ((0 ∷ 5 ∷ []) ∷ zeros 15 ∷ (100 ∷ 0 ∷ 0 ∷ 1 ∷ 80 ∷ zeros 15) ∷ []) ∷ []
unfolding growth-definitions both_look single headed
own-delete = refl

-- ---- the order of the questions

-- 21 before 7, 8, 22 and 23; of a second image that is none, has another K, is of the other version, has no "B" at its
-- start, or has X above L
unfoldable pub refused_by : Pair → List ℕ
unfolding growth-definitions
refused_by p =
    (grow_add p [] [] 9).answer.number ∷ (grow_delete p []).answer.number ∷ (grow_store p [] [] 0).answer.number
    ∷ (grow_lookup p []).answer.number ∷ (grow_count p).answer.number ∷ (grow_read p [] 0).answer.number
    ∷ (grow_select p [] [] []).number ∷ (grow_at_epoch p [] 0).number ∷ []

abbrev all21 : List ℕ
all21 = 21 ∷ 21 ∷ 21 ∷ 21 ∷ 21 ∷ 21 ∷ 21 ∷ 21 ∷ []

pub second-unknown : (refused_by (pair (bare_single 1) []) ≡ all21)
    × (refused_by (pair (bare_single 1) (headed 2 3 4096)) ≡ all21)
    × (refused_by (pair (bare_single 1) (store (headed 1 3 4096) version_field (2 ∷ 0 ∷ 0 ∷ []))) ≡ all21)
unfolding refused_by bare_single headed
second-unknown = (refl, refl, refl)

pub second-damaged : (refused_by (pair (bare_single 1) (store (headed 1 3 4096) 0 (0 ∷ []))) ≡ all21)
    × (refused_by (pair (bare_single 1) (set_field (headed 1 3 4096) free_field 9000)) ≡ all21)
unfolding refused_by bare_single headed
second-damaged = (refl, refl)

-- "directly after 6": the old image's 6 before 21
pub six-first : (grow_count (pair (set_field (bare_single 1) free_field 9000) [])).answer.number ≡ 6
unfolding growth-definitions bare_single
six-first = refl

-- then 7, 8, 19, 22 and 23 before the named point's move, which of a pair with C = 0 is refused with 11
unfoldable pub asked_first : Pair → List ℕ
unfolding growth-definitions
asked_first p =
    (grow_add p [] [] 1).answer.number ∷ (grow_add p one [] 5).answer.number ∷ (grow_store p one [] 0).answer.number
    ∷ (grow_select p [] [] []).number ∷ (grow_at_epoch p (9 ∷ []) 0).number ∷ (grow_delete p one).answer.number ∷ []

pub before-the-move : asked_first (pair (bare_single 0) (headed 1 3 4096)) ≡ 7 ∷ 8 ∷ 19 ∷ 22 ∷ 23 ∷ 11 ∷ []
unfolding asked_first bare_single headed
before-the-move = refl

-- the pair lent the wrong way round is not seen: the later 21 asks for no larger table
pub swapped : (grow_add (pair (headed 1 3 4096) (bare_single 1)) two [] 3).answer.number ≡ 0
unfolding growth-definitions bare_single headed
swapped = refl

-- ---- the call's own questions

-- "a call's own 10 reckons with both C": 2 and 1 points, N = 3
pub own-ten : (grow_add (pair (bare 2 (2 ∷ 0 ∷ 0 ∷ 0 ∷ 0 ∷ 1 ∷ []) 2) (bare 3 (3 ∷ []) 1)) (4 ∷ []) [] 3).answer.number
    ≡ 10
unfolding growth-definitions bare
own-ten = refl

-- the call's own 11, of a message in the new image: after mode 1's 9; for delete and storing. Lookup puts it too, and
-- to the old image's message where that has the name, though the new image's is sound.
pub own-eleven : (refusals (pair (headed 1 2 4096) (store two_bytes 4096 (120 ∷ []))) ≡ 9 ∷ 11 ∷ 11 ∷ 11 ∷ [])
    × ((grow_lookup (pair (headed 1 2 4096) (store two_bytes 4096 (120 ∷ []))) one).answer.number ≡ 11)
    × ((grow_lookup (pair (store (single 2) 4096 (120 ∷ [])) two_bytes) one).answer.number ≡ 11)
unfolding refusals single laid headed
own-eleven = (refl, refl, refl)

-- "its 13 with U": 10 bytes in the old image; of the new one 3 bytes with their header are left beside them, and no
-- more
abbrev ten_bytes : Pair
ten_bytes =
    pair (laid 2 (0 ∷ 0 ∷ 0 ∷ 0 ∷ 0 ∷ 1 ∷ 0 ∷ 0 ∷ 16 ∷ 0 ∷ []) (97 ∷ 0 ∷ 0 ∷ 10 ∷ zeros 10) 1 14)
    (set_field (headed 1 3 8192) free_field 8171)

unfoldable pub beside_ten : Pair → List ℕ
unfolding growth-definitions
beside_ten p =
    (grow_add p two (zeros 3) 1).answer.number ∷ (grow_add p two (zeros 4) 1).answer.number
    ∷ (grow_delete p one).answer.number ∷ []

pub own-thirteen : beside_ten ten_bytes ≡ 0 ∷ 13 ∷ 0 ∷ []
unfolding beside_ten laid headed
own-thirteen = refl

-- The call's own 13 is put to the pair as the named move would leave it: two old points on one message of 1 byte. Once
-- point 1 has moved, the message is inactive; 12 bytes are left in the new image: 5 for the text that moved, 7 for a
-- header, the text and 2 bytes more.
abbrev pub shared : Pair
shared =
    pair (laid 2 (2 ∷ 0 ∷ 0 ∷ 16 ∷ 0 ∷ 1 ∷ 0 ∷ 0 ∷ 16 ∷ 0 ∷ []) (97 ∷ 0 ∷ 0 ∷ 1 ∷ 80 ∷ []) 2 5)
    (set_field (headed 1 3 8192) free_field 8180)

pub shared-moved : (grow_add shared one (1 ∷ 2 ∷ []) 3).answer.number ≡ 0
unfolding growth-definitions laid headed
shared-moved = refl

-- a refused call moves none: the pair stays
pub refused-moves-none : points_of (grow_add (pair (bare_single 1) (headed 1 3 4096)) one [] 1).after ≡ 1 ∷ 0 ∷ []
unfolding growth-definitions points_of bare_single headed
refused-moves-none = refl

-- ---- the calls that read

-- where the text stands that lookup shows: in the old image, in the new one; none of a point without a message
unfoldable pub looked_at : Pair → List Bytes → List (List ℕ)
unfolding growth-definitions
looked_at p [] = []
looked_at p (key ∷ more) =
    (grow_lookup_in_new p key ∷ grow_lookup_start p key ∷ grow_lookup_length p key ∷ []) ∷ looked_at p more

pub looked-in : looked_at
    (pair (single 2) (laid 3 (2 ∷ 0 ∷ 0 ∷ 16 ∷ 0 ∷ 3 ∷ []) (97 ∷ 0 ∷ 0 ∷ 2 ∷ 81 ∷ 82 ∷ []) 2 6))
    (one ∷ two ∷ (3 ∷ []) ∷ [])
    ≡ (0 ∷ 4100 ∷ 1 ∷ []) ∷ (1 ∷ 4100 ∷ 2 ∷ []) ∷ (0 ∷ 0 ∷ 0 ∷ []) ∷ []
unfolding looked_at single laid
looked-in = refl

-- records of one byte, in either image; bytes behind the answer stay, and a refused reading leaves the slice
unfoldable pub read_refused : Pair → List Bytes
unfolding growth-definitions
read_refused p = ((grow_read p one 4).answer.number ∷ []) ∷ grow_filled p one (5 ∷ 6 ∷ []) ∷ []

pub records-read : (grow_filled
    (pair (bare_single 1) (laid 3 (2 ∷ 0 ∷ 0 ∷ 16 ∷ 0 ∷ []) (97 ∷ 0 ∷ 0 ∷ 2 ∷ 1 ∷ 82 ∷ []) 1 6)) two
    (5 ∷ 6 ∷ [])
    ≡ 82 ∷ 6 ∷ [])
    × (read_refused (pair (single 2) (headed 1 3 4096)) ≡ (19 ∷ []) ∷ (5 ∷ 6 ∷ []) ∷ [])
unfolding growth-definitions read_refused bare_single single laid headed
records-read = (refl, refl)

-- "the old image's come first, and each image's number is answered"; "both N added": 20 bytes for 2 and 3 slots
unfoldable pub lent : ℕ → Bytes
lent zero = []
lent (suc n) = 7 ∷ lent n

-- name 1 in slot 1 of the old image, 2 and 3 in slots 0 and 1 of the new one
abbrev split : Pair
split = pair (bare_single 1) (bare 3 (2 ∷ 0 ∷ 0 ∷ 0 ∷ 0 ∷ 3 ∷ []) 2)

unfoldable pub found : PairSelection → List ℕ
found s = s.number ∷ s.old_found ∷ s.new_found ∷ []

unfoldable pub selections : Pair → List (List ℕ)
unfolding growth-definitions found lent
selections p =
    found (grow_select p (0 ∷ []) (255 ∷ []) (lent 20)) ∷ found (grow_select p (0 ∷ []) (255 ∷ []) (lent 19))
    ∷ found (grow_select p (2 ∷ []) (1 ∷ []) (lent 19)) ∷ []

pub selected-both : selections split ≡ (0 ∷ 1 ∷ 2 ∷ []) ∷ (16 ∷ 0 ∷ 0 ∷ []) ∷ (22 ∷ 0 ∷ 0 ∷ []) ∷ []
unfolding selections bare_single bare
selected-both = refl

-- the numbers themselves: slot 1 of the old image, then those of the new one, rising; the bytes behind them stay
pub selected-list : (grow_select split (0 ∷ []) (255 ∷ []) (lent 20)).list
    ≡ 0 ∷ 0 ∷ 0 ∷ 1 ∷ 0 ∷ 0 ∷ 0 ∷ 0 ∷ 0 ∷ 0 ∷ 0 ∷ 1 ∷ 7 ∷ 7 ∷ 7 ∷ 7 ∷ 7 ∷ 7 ∷ 7 ∷ 7 ∷ []
unfolding growth-definitions lent bare_single bare
selected-list = refl

-- ---- epochs: K = 5, a name of one byte and its epoch

-- an image whose slots hold entries of the prism 65 with these epochs, and messages of one byte from 4,096 on
unfoldable pub entries_of : ℕ → List ℕ → Bytes
entries_of o [] = []
entries_of o (e ∷ es) = (65 ∷ 0 ∷ 0 ∷ 0 ∷ e ∷ 0 ∷ 0 ∷ 16 ∷ o ∷ []) ++ entries_of (o + 5) es

unfoldable pub epochs_in : ℕ → List ℕ → Bytes
unfolding counted spread entries_of
epochs_in N es = spread (counted 5 N 0 10) (entries_of 0 es) (97 ∷ 0 ∷ 0 ∷ 1 ∷ 80 ∷ 97 ∷ 0 ∷ 0 ∷ 1 ∷ 80 ∷ [])

abbrev epochs : List ℕ → List ℕ → Pair
epochs a b = pair (epochs_in 2 a) (epochs_in 3 b)

-- which image, and what is shown of the entry, at each of these epochs
pub record Showing : Type 0 where
  pub second : ℕ
  pub dated : Dated

unfoldable pub shown_at : Pair → List ℕ → List Showing
unfolding growth-definitions
shown_at p [] = []
shown_at p (t ∷ more) =
    record { second = grow_dated_in p (65 ∷ []) t; dated = grow_at_epoch p (65 ∷ []) t } ∷ shown_at p more

abbrev showing : ℕ → Dated → Showing
showing second d = record { second = second; dated = d }

abbrev entry : ℕ → ℕ → Dated
entry e o = record { number = 0; epoch = e; start = o + 4; length = 1; text = some (80 ∷ []) }

abbrev no_entry : ℕ → Dated
no_entry n = record { number = n; epoch = 0; start = 0; length = 0; text = none }

-- the later one, in either image; "the old first at a tie"; a name of another length
pub dated-in : (shown_at (epochs (3 ∷ []) (5 ∷ [])) (9 ∷ 4 ∷ [])
    ≡ showing 1 (entry 5 4096) ∷ showing 0 (entry 3 4096) ∷ [])
    × (shown_at (epochs (3 ∷ 5 ∷ []) (5 ∷ [])) (9 ∷ []) ≡ showing 0 (entry 5 4101) ∷ [])
    × (grow_at_epoch (pair (headed 5 2 4096) (headed 5 3 4096)) [] 9 ≡ no_entry 7)
unfolding growth-definitions shown_at epochs_in headed
dated-in = (refl, refl, refl)
