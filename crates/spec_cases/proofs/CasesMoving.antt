-- Document 02, Job 12: further calls during growth on damaged pairs, by computation. K = 1, and all names have one
-- home.
-- Assumes nothing.
use mathlib.Core.Path.{◌≡◌, refl}
use Prim.Native.Nat.{ℕ}
use mathlib.Core.List.{List, [], ◌∷◌, ◌++◌}
use lib.ListN.{get_or}
use Rattle.spec_file.specs.Bytes.{Bytes, store, zeros}
use Rattle.spec_file.specs.Limits.{points_field, free_field}
use Rattle.spec_file.specs.Image.{set_field}
use Rattle.spec_file.specs.Calls.{Answer, Outcome}
use Rattle.spec_file.proofs.CasesBase.{headed, one, two}
use Rattle.spec_moves.specs.Moves.{Pair}
use Rattle.spec_moves.proofs.CasesMoves.{pair, laid, bare, single, bare_single, both_look, old_version, empty_note, stuck, three, every_other, points_of}
use Rattle.spec_growth.specs.Growth.{grow_add, grow_delete}
use Rattle.spec_growth.proofs.CasesGrowth.{growth-definitions, refusals, shared}

-- also where the old one's has no message
pub twice-bare : refusals (pair (bare_single 1) (bare 3 one 1)) ≡ 9 ∷ 9 ∷ 9 ∷ 9 ∷ []
unfolding refusals bare_single bare
twice-bare = refl

-- its message fails 11
pub unsound : refusals (pair (store (single 2) 4096 (120 ∷ [])) (headed 1 3 4096)) ≡ 11 ∷ 11 ∷ 11 ∷ 11 ∷ []
unfolding refusals single headed
unsound = refl

-- no room in the new one for the text that is to move: the move's 13
pub crowded : refusals (pair (single 2) (headed 1 3 4096)) ≡ 13 ∷ 13 ∷ 13 ∷ 13 ∷ []
unfolding refusals single headed
crowded = refl

-- a name in both, and C = N: the move's 9 before its 10
pub both-orders : (grow_delete (pair (bare_single 1) (bare 3 one 3)) one).answer.number ≡ 9
unfolding growth-definitions bare_single bare
both-orders = refl

-- a name in both, and C = 0 in the old image: the move's 11 before its 9
pub eleven-first : (grow_delete (pair (bare_single 0) (bare 3 one 1)) one).answer.number ≡ 11
unfolding growth-definitions bare_single bare
eleven-first = refl

-- C = N in the new image, and no room there: the move's 10 before its 13
pub ten-first : (grow_delete (pair (single 2) (set_field (headed 1 3 4096) points_field 3)) one).answer.number ≡ 10
unfolding growth-definitions single headed
ten-first = refl

-- "each active message in the old that passes 11": one with a damaged letter, one withdrawn and one that ends above X
-- are left out of the sum, so that the last 5 bytes take a header and one byte
unfoldable pub left_out : Bytes → List Bytes → List ℕ
unfolding growth-definitions
left_out new [] = []
left_out new (old ∷ more) = (grow_add (pair old new) two (9 ∷ []) 1).answer.number ∷ left_out new more

pub sum-leaves-out : left_out (set_field (headed 1 3 8192) free_field 8187)
    (store (single 2) 4096 (120 ∷ []) ∷ store (single 2) 4096 (100 ∷ []) ∷ store (single 2) 4098 (9 ∷ []) ∷ single 2
    ∷ [])
    ≡ 0 ∷ 0 ∷ 0 ∷ 13 ∷ []
unfolding left_out single headed
sum-leaves-out = refl

-- one byte more than `shared-moved` adds is refused
pub shared-full : (grow_add shared one (1 ∷ 2 ∷ 3 ∷ []) 3).answer.number ≡ 13
unfolding growth-definitions laid headed
shared-full = refl

pub stuck-stays : both_look 4 5 (grow_add stuck (3 ∷ []) (7 ∷ []) 1).after
    ≡ ((2 ∷ 10 ∷ []) ∷ (2 ∷ 0 ∷ 0 ∷ 16 ∷ 5 ∷ zeros 10 ++ (1 ∷ 0 ∷ 0 ∷ 16 ∷ 0 ∷ []))
    ∷ (97 ∷ 0 ∷ 0 ∷ 1 ∷ 80 ∷ 120 ∷ 0 ∷ 0 ∷ 1 ∷ 81 ∷ zeros 10) ∷ [])
    ∷ ((1 ∷ 5 ∷ []) ∷ (0 ∷ 0 ∷ 0 ∷ 0 ∷ 0 ∷ 3 ∷ 0 ∷ 0 ∷ 16 ∷ 0 ∷ zeros 15) ∷ (97 ∷ 0 ∷ 0 ∷ 1 ∷ 7 ∷ zeros 15) ∷ []) ∷ []
unfolding growth-definitions both_look laid headed
stuck-stays = refl

-- 11 points without a message in a table of 22, none beside another, so that none closes up; the one at home, in slot
-- 3, is named: 9 move, 2 stay
pub nine-move : points_of (grow_add (pair (bare 22 (every_other 11 1) 11) (headed 1 23 4096)) two [] 3).after ≡ 2 ∷ 9 ∷ []
unfolding growth-definitions points_of every_other bare headed
nine-move = refl

-- numbers, table and data of both images: old 4 with 1, 2 and 3 in slots 3, 0 and 1; a call adds 4, and all move
pub bytes-moved : both_look 4 5 (grow_add (pair three (headed 1 5 8192)) (4 ∷ []) (83 ∷ []) 1).after
    ≡ ((0 ∷ 15 ∷ []) ∷ zeros 20
    ∷ (100 ∷ 0 ∷ 0 ∷ 1 ∷ 80 ∷ 100 ∷ 0 ∷ 0 ∷ 1 ∷ 81 ∷ 100 ∷ 0 ∷ 0 ∷ 1 ∷ 82 ∷ 0 ∷ 0 ∷ 0 ∷ 0 ∷ 0 ∷ []) ∷ [])
    ∷ ((4 ∷ 20 ∷ [])
    ∷ (0 ∷ 0 ∷ 0 ∷ 0 ∷ 0 ∷ 4 ∷ 0 ∷ 0 ∷ 16 ∷ 0 ∷ 2 ∷ 0 ∷ 0 ∷ 16 ∷ 5 ∷ 3 ∷ 0 ∷ 0 ∷ 16 ∷ 10 ∷ 1 ∷ 0 ∷ 0 ∷ 16 ∷ 15 ∷ [])
    ∷ (97 ∷ 0 ∷ 0 ∷ 1 ∷ 83 ∷ 97 ∷ 0 ∷ 0 ∷ 1 ∷ 81 ∷ 97 ∷ 0 ∷ 0 ∷ 1 ∷ 82 ∷ 97 ∷ 0 ∷ 0 ∷ 1 ∷ 80 ∷ []) ∷ [])
    ∷ []
unfolding growth-definitions both_look laid headed
bytes-moved = refl

-- an empty note that moves makes the new image 1.0.2, a point without a message does not
pub note-moves : get_or (grow_add (pair empty_note (old_version 8192)) two [] 3).after.new 7 0
    ∷ get_or (grow_add (pair (bare_single 1) (old_version 4096)) two [] 3).after.new 7 0 ∷ []
    ≡ 2 ∷ 0 ∷ []
unfolding growth-definitions bare_single laid headed
note-moves = refl
