-- Document 02, Job 12: the start of growth, and moves of points, by computation; most pairs are damaged, for what holds
-- of sound ones in lists does not show how many points move, which refusal comes first, or what the sum leaves out.
--     move-definitions     unfolding it unfolds all that a move computes with
--     move_number p         the number of the move of the point in slot 1
-- K = 1, and all names have one home.
-- Every edit computes all of them. So images are laid out from front to back, those without messages have 4,096 bytes,
-- and what is computed twice with is handed to a function, which computes it once.
-- Assumes nothing.
use mathlib.Core.Path.{◌≡◌, refl}
use Prim.Native.Nat.{ℕ, zero, suc, ◌+◌, ◌-◌, ◌*◌}
use mathlib.Core.List.{List, [], ◌∷◌, ◌++◌}
use lib.ListN.{length, get_or}
use Rattle.spec_file.specs.Bytes.{Bytes, part, store, zeros}
use Rattle.spec_file.specs.Limits.{points_field, free_field, version_field}
use Rattle.spec_file.specs.Image.{field, set_field}
use Rattle.spec_file.specs.Create.{fresh_header}
use Rattle.spec_file.specs.Questions.{first_no}
use Rattle.spec_file.proofs.CasesBase.{headed, one}
use Rattle.spec_compaction.proofs.CasesCompact.{compact-definitions}
use Rattle.spec_moves.specs.Moves.{Pair, active_at, active_from, active_space, same_kind, unused, second_fits, grow_number, move_text, move_mode, move_key, move_asks, moved_over, lowest_slot, moves, moves_each}

unfoldable pub move-definitions : ℕ
unfolding compact-definitions
    active_at active_from active_space same_kind unused second_fits grow_number move_text move_mode move_key move_asks moved_over
    lowest_slot moves
move-definitions = 0

abbrev pub pair : Bytes → Bytes → Pair
pair old new = record { old = old; new = new }

-- ---- images, laid out byte by byte

-- so many zeros, and these bytes behind them
unfoldable pub behind_zeros : ℕ → Bytes → Bytes
behind_zeros zero b = b
behind_zeros (suc n) b = 0 ∷ behind_zeros n b

-- create's header with these C and X − D
unfoldable pub counted : ℕ → ℕ → ℕ → ℕ → Bytes
unfolding move-definitions
counted K N points used = set_field (set_field (fresh_header K N) points_field points) free_field (4096 + used)

-- 8,192 bytes: its header, its table, its data
unfoldable pub spread : Bytes → Bytes → Bytes → Bytes
unfolding behind_zeros
spread header slots data' =
    header
    ++ behind_zeros 1988
    (slots ++ behind_zeros (2048 - length slots) (data' ++ behind_zeros (4096 - length data') []))

-- its table, its data, C and X − D
unfoldable pub laid : ℕ → Bytes → Bytes → ℕ → ℕ → Bytes
unfolding counted spread
laid N slots data' points used = spread (counted 1 N points used) slots data'

-- 4,096 bytes, without messages: its table and C
unfoldable pub bare : ℕ → Bytes → ℕ → Bytes
unfolding counted behind_zeros
bare N slots points = counted 1 N points 0 ++ behind_zeros 1988 (slots ++ behind_zeros (2048 - length slots) [])

-- the name 1 with the text "P", in slot 1 of 2
unfoldable pub single : ℕ → Bytes
unfolding laid
single N = laid N (0 ∷ 0 ∷ 0 ∷ 0 ∷ 0 ∷ 1 ∷ 0 ∷ 0 ∷ 16 ∷ 0 ∷ []) (97 ∷ 0 ∷ 0 ∷ 1 ∷ 80 ∷ []) 1 5

-- the name 1 without a message, in slot 1 of 2; C is handed over
unfoldable pub bare_single : ℕ → Bytes
unfolding bare
bare_single points = bare 2 (0 ∷ 0 ∷ 0 ∷ 0 ∷ 0 ∷ 1 ∷ []) points

-- ---- what is looked at

-- C, X − D, the table and the data
unfoldable pub looks_like : ℕ → Bytes → List Bytes
unfolding move-definitions
looks_like N img =
    (field img points_field ∷ (field img free_field - 4096) ∷ []) ∷ part img 2048 (5 * N) ∷ part img 4096 20 ∷ []

-- of both images of a pair
unfoldable pub both_look : ℕ → ℕ → Pair → List (List Bytes)
unfolding looks_like
both_look N M p = looks_like N p.old ∷ looks_like M p.new ∷ []

-- ---- the start

-- the same N; another K; a wrong C; X above L; no image; the other version. R = U is taken. X above D; R below U; 1.0.0
-- beside 1.0.2 is taken.
unfoldable pub starts : Bytes → List Bytes → List ℕ
unfolding move-definitions
starts old [] = []
starts old (new ∷ more) = grow_number old new ∷ starts old more

pub start-numbers : starts (headed 1 2 4096)
    (headed 1 2 4096 ∷ headed 2 3 4096 ∷ set_field (headed 1 3 4096) points_field 1
    ∷ set_field (headed 1 3 4096) free_field 9000 ∷ []
    ∷ store (headed 1 3 4096) version_field (2 ∷ 0 ∷ 0 ∷ []) ∷ headed 1 3 4096 ∷ [])
    ++ starts (single 2)
    (set_field (headed 1 3 8192) free_field 4097 ∷ headed 1 3 4096
    ∷ store (headed 1 3 8192) version_field (1 ∷ 0 ∷ 0 ∷ []) ∷ [])
    ≡ 21 ∷ 21 ∷ 21 ∷ 21 ∷ 21 ∷ 21 ∷ 0 ∷ 21 ∷ 21 ∷ 0 ∷ []
unfolding starts single headed
start-numbers = refl

-- a second image with a point, by its C; one with a point that C leaves out is not sound
pub start-empty : starts (headed 1 2 4096) (bare 3 one 1 ∷ bare 3 one 0 ∷ []) ≡ 21 ∷ 21 ∷ []
unfolding starts bare headed
start-empty = refl

-- "is answered 21, after 15"; 6 before both
pub start-order : grow_number (bare_single 2) [] ∷ grow_number (set_field (bare_single 1) free_field 9000) []
    ∷ grow_number (bare_single 1) [] ∷ []
    ≡ 15 ∷ 6 ∷ 21 ∷ []
unfolding move-definitions bare_single
start-order = refl

-- ---- the space of active messages

unfoldable pub spaces : List Bytes → List ℕ
unfolding move-definitions
spaces [] = []
spaces (img ∷ more) = active_space img ∷ spaces more

-- "header and length of each active message in the old that passes 11": one with a damaged letter, one withdrawn and
-- one that ends above X are left out of the sum
pub sum-leaves-out : spaces
    (store (single 2) 4096 (120 ∷ []) ∷ store (single 2) 4096 (100 ∷ []) ∷ store (single 2) 4098 (9 ∷ []) ∷ single 2
    ∷ [])
    ≡ 0 ∷ 0 ∷ 0 ∷ 5 ∷ []
unfolding spaces single
sum-leaves-out = refl

-- ---- a move's questions

unfoldable pub move_number : Pair → ℕ
unfolding move-definitions
move_number p = first_no (move_asks p 1)

-- a name in both images gives 9, also where the old one's has no message
pub twice : move_number (pair (bare_single 1) (bare 3 one 1)) ≡ 9
unfolding move_number bare_single bare
twice = refl

-- C = 0 in the old image: 11
pub uncounted : move_number (pair (bare_single 0) (headed 1 3 4096)) ≡ 11
unfolding move_number bare_single headed
uncounted = refl

-- its message fails 11
pub unsound : move_number (pair (store (single 2) 4096 (120 ∷ [])) (headed 1 3 4096)) ≡ 11
unfolding move_number single headed
unsound = refl

-- C = N in the new one: 10
pub filled : move_number (pair (bare_single 1) (set_field (headed 1 3 4096) points_field 3)) ≡ 10
unfolding move_number bare_single headed
filled = refl

-- no room in the new one for the text that is to move: 13
pub crowded : move_number (pair (single 2) (headed 1 3 4096)) ≡ 13
unfolding move_number single headed
crowded = refl

-- a name in both, and C = N: 9 before 10
pub nine-first : move_number (pair (bare_single 1) (bare 3 one 3)) ≡ 9
unfolding move_number bare_single bare
nine-first = refl

-- a name in both, and C = 0 in the old image: 11 before 9
pub eleven-first : move_number (pair (bare_single 0) (bare 3 one 1)) ≡ 11
unfolding move_number bare_single bare
eleven-first = refl

-- C = N in the new image, and no room there: 10 before 13
pub ten-first : move_number (pair (single 2) (set_field (headed 1 3 4096) points_field 3)) ≡ 10
unfolding move_number single headed
ten-first = refl

-- ---- what moves

-- an empty note that moves makes the new image 1.0.2, a point without a message does not
abbrev pub old_version : ℕ → Bytes
old_version L = store (headed 1 3 L) version_field (1 ∷ 0 ∷ 0 ∷ [])

abbrev pub empty_note : Bytes
empty_note = laid 2 (0 ∷ 0 ∷ 0 ∷ 0 ∷ 0 ∷ 1 ∷ 0 ∷ 0 ∷ 16 ∷ 0 ∷ []) (97 ∷ []) 1 4

pub note-moves : get_or (moved_over (pair empty_note (old_version 8192)) 1).new 7 0
    ∷ get_or (moved_over (pair (bare_single 1) (old_version 4096)) 1).new 7 0 ∷ []
    ≡ 2 ∷ 0 ∷ []
unfolding move-definitions bare_single laid headed
note-moves = refl

-- the lowest slot's message fails 11: nothing moves, the point in slot 3 neither
abbrev pub stuck : Pair
stuck =
    pair
    (laid 4 (2 ∷ 0 ∷ 0 ∷ 16 ∷ 5 ∷ (zeros 10 ++ (1 ∷ 0 ∷ 0 ∷ 16 ∷ 0 ∷ [])))
    (97 ∷ 0 ∷ 0 ∷ 1 ∷ 80 ∷ 120 ∷ 0 ∷ 0 ∷ 1 ∷ 81 ∷ []) 2 10)
    (headed 1 5 8192)

pub stuck-stays : both_look 4 5 (moves 2 stuck)
    ≡ ((2 ∷ 10 ∷ []) ∷ (2 ∷ 0 ∷ 0 ∷ 16 ∷ 5 ∷ zeros 10 ++ (1 ∷ 0 ∷ 0 ∷ 16 ∷ 0 ∷ []))
    ∷ (97 ∷ 0 ∷ 0 ∷ 1 ∷ 80 ∷ 120 ∷ 0 ∷ 0 ∷ 1 ∷ 81 ∷ zeros 10) ∷ [])
    ∷ ((0 ∷ 0 ∷ []) ∷ zeros 25 ∷ zeros 20 ∷ []) ∷ []
unfolding move-definitions both_look laid headed
stuck-stays = refl

-- Numbers, table and data of both images. Old 4 with 1, 2 and 3 in slots 3, 0 and 1. The moves take slots 0, 0 and 3,
-- for 3 closes up into 0: the new image is as after adds of 2, 3 and 1 in that order. In the old one the letters are
-- "d", C is 0 and the slots are empty.
abbrev pub three : Bytes
three =
    laid 4 (2 ∷ 0 ∷ 0 ∷ 16 ∷ 5 ∷ 3 ∷ 0 ∷ 0 ∷ 16 ∷ 10 ∷ 0 ∷ 0 ∷ 0 ∷ 0 ∷ 0 ∷ 1 ∷ 0 ∷ 0 ∷ 16 ∷ 0 ∷ [])
    (97 ∷ 0 ∷ 0 ∷ 1 ∷ 80 ∷ 97 ∷ 0 ∷ 0 ∷ 1 ∷ 81 ∷ 97 ∷ 0 ∷ 0 ∷ 1 ∷ 82 ∷ []) 3 15

pub bytes-moved : both_look 4 5 (moves 4 (pair three (headed 1 5 8192)))
    ≡ ((0 ∷ 15 ∷ []) ∷ zeros 20
    ∷ (100 ∷ 0 ∷ 0 ∷ 1 ∷ 80 ∷ 100 ∷ 0 ∷ 0 ∷ 1 ∷ 81 ∷ 100 ∷ 0 ∷ 0 ∷ 1 ∷ 82 ∷ 0 ∷ 0 ∷ 0 ∷ 0 ∷ 0 ∷ []) ∷ [])
    ∷ ((3 ∷ 15 ∷ [])
    ∷ (0 ∷ 0 ∷ 0 ∷ 0 ∷ 0 ∷ 2 ∷ 0 ∷ 0 ∷ 16 ∷ 0 ∷ 3 ∷ 0 ∷ 0 ∷ 16 ∷ 5 ∷ 1 ∷ 0 ∷ 0 ∷ 16 ∷ 10 ∷ 0 ∷ 0 ∷ 0 ∷ 0 ∷ 0 ∷ [])
    ∷ (97 ∷ 0 ∷ 0 ∷ 1 ∷ 81 ∷ 97 ∷ 0 ∷ 0 ∷ 1 ∷ 82 ∷ 97 ∷ 0 ∷ 0 ∷ 1 ∷ 80 ∷ 0 ∷ 0 ∷ 0 ∷ 0 ∷ 0 ∷ []) ∷ [])
    ∷ []
unfolding move-definitions both_look laid headed
bytes-moved = refl

-- ---- how many

-- points without a message in every other slot, so that none closes up
unfoldable pub every_other : ℕ → ℕ → Bytes
every_other zero name = []
every_other (suc n) name = 0 ∷ 0 ∷ 0 ∷ 0 ∷ 0 ∷ name ∷ 0 ∷ 0 ∷ 0 ∷ 0 ∷ every_other n (suc name)

unfoldable pub points_of : Pair → List ℕ
unfolding move-definitions
points_of p = field p.old points_field ∷ field p.new points_field ∷ []

-- of three points two move, one stays
pub two-of-three : points_of (moves 2 (pair (bare 6 (every_other 3 1) 3) (headed 1 7 4096))) ≡ 1 ∷ 2 ∷ []
unfolding move-definitions points_of every_other bare headed
two-of-three = refl

-- "8 times": a call on a pair of 11 points, of which 9 move with the one that it names, is computed in
-- crates/spec_cases
pub eight-times : moves_each ≡ 8
eight-times = refl
