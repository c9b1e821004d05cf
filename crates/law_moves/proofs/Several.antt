-- So many moves, one at a time, on any bytes of both images.
--     moves-end         no move is left to make, or no point
--     moves-stop        a refused move ends them
--     moves-on          an accepted one, and the others from the pair that it leaves
-- Assumes nothing.
use mathlib.Core.Path.{◌≡◌, refl, sym, ap, ◌∙◌}
use Prim.Native.Nat.{ℕ, zero, suc, ◌-◌, ◌<◌}
use native.Mathlib.Omega.{arith}
use mathlib.Core.Option.{none, some}
use borrow.Author.Tests.{eq-eqb, ne_eqb}
use Rattle.spec_file.specs.Questions.{first_no}
use Rattle.spec_moves.specs.Moves.{Pair, move_asks, moved_over, lowest_slot, moves}

pub moves-none : (p : Pair) → moves 0 p ≡ p
unfolding moves
moves-none p = refl

pub moves-end : (n : ℕ) (p : Pair) → lowest_slot p.old ≡ none → moves n p ≡ p
unfolding moves
moves-end zero p e = refl
moves-end (suc n) p e = rw (e, moves) refl

pub moves-stop : (n : ℕ) (p : Pair) (i : ℕ) → lowest_slot p.old ≡ some i → (first_no (move_asks p i) ≡ 0 → ⊥)
    → moves n p ≡ p
unfolding moves
moves-stop zero p i e z = refl
moves-stop (suc n) p i e z = rw (e, moves, ne_eqb (first_no (move_asks p i)) 0 z) refl

pub moves-on : (n : ℕ) (p : Pair) (i : ℕ) → lowest_slot p.old ≡ some i → 0 < n → first_no (move_asks p i) ≡ 0
    → moves n p ≡ moves (n - 1) (moved_over p i)
unfolding moves
moves-on zero p i e l z = absurd (omega arith)
moves-on (suc n) p i e l z =
    let m : n ≡ suc n - 1 = omega arith in
    rw (e, moves, eq-eqb (first_no (move_asks p i)) 0 z) (ap (λ (k : ℕ). moves k (moved_over p i)) m)
