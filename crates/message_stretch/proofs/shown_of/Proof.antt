-- `message_stretch::shown_of` meets its contract. Assumes nothing.
use native.Mathlib.Omega.{arith}
use mathlib.Core.Path.{◌≡◌, sym, ◌∙◌, subst}
use Prim.Native.Nat.{ℕ, ◌<◌}
use borrow.Author.Rules.{rules}
use Rattle.message_stretch.specs.Checked.{start_in, end_in}
use Rattle.message_stretch.specs.Windows.{Piece}
use Rattle.message_stretch.proofs.Reading.{start-above, stretched}
use Rattle.message_stretch.proofs.Pieces.{within_in, within-at, piece-carried, piece-here, piece-none}
use Rattle.message_stretch.proofs.shown_of.Statement.{statement}
use Rattle.message_stretch.proofs.shown_of.Tie as tie

number-requires : tie.Need-number-requires
number-requires c κs = search rules

-- the carried slot's stretch goes on across lo
carried_here : (c : tie.Then-number-carried)
    → let S : tie.Start = c.before.before.before in
    let A = S.args in
    (start_in A.image.now A.i.0 < A.lo) × (A.lo < end_in A.image.now A.i.0)
carried_here c =
    let S = c in
    S.requires.3.crosses (sym c.number.ensures ∙ c.if-number-carried.true)

end-of-requires : tie.Need-end_of-requires
end-of-requires c κs =
    let S = c in
    let A = S.args in
    (S.requires.0, start-above A.image.now A.i.0 (omega (arith, (carried_here c).1)))

returns : tie.Need-returns-then-number-carried
returns c =
    let S = c in
    let A = S.args in
    let img = A.image.now in
    let s = start_in img A.i.0 in
    let t = end_in img A.i.0 in
    let w = carried_here c.before in
    subst (λ (e : ℕ). Piece s t A.lo A.hi A.lo e) (sym c.end_of.ensures)
    (piece-carried s t A.lo A.hi S.requires.2 w.0 w.1)

start-in-requires : tie.Need-start_in-from-requires
start-in-requires c κs =
    let S = c in
    (S.requires.0.opened, S.requires.0.low, S.requires.1)

returns-2 : tie.Need-returns-then-hi-from
returns-2 c =
    let E = c in
    let S = c in
    let A = S.args in
    let img = A.image.now in
    let s = start_in img A.i.0 in
    let N = c in
    piece-none s (end_in img A.i.0) A.lo A.hi S.requires.2
    (λ a b. omega (arith, c.start_in-from.ensures, within_in A.lo A.hi s a b, c.if-hi-from.true))
    (λ a b. E.if-number-carried.false (N.number.ensures ∙ S.requires.3.is a b))

end-of-requires-2 : tie.Need-end_of-requires-2
end-of-requires-2 c κs =
    let S = c in
    let A = S.args in
    let s = start_in A.image.now A.i.0 in
    let w = within-at A.lo A.hi s (omega (arith, c.start_in-from.ensures, c.if-hi-from.false)) in
    (S.requires.0, omega (arith, w.0, S.requires.1))

returns-3 : tie.Need-returns
returns-3 c =
    let S = c in
    let A = S.args in
    let img = A.image.now in
    let s = start_in img A.i.0 in
    let t = end_in img A.i.0 in
    let I = c.start_in-from in
    let w = within-at A.lo A.hi s (omega (arith, I.ensures, c.if-hi-from.false)) in
    let z : 0 < s = omega (arith, w.0, S.requires.1) in
    let is : s ≡ I.result = omega (arith, I.ensures, w.2) in
    subst (λ (e : ℕ). Piece s t A.lo A.hi I.result e) (sym c.end_of-2.ensures)
    (subst (λ (f : ℕ). Piece s t A.lo A.hi f t) is
    (piece-here s t A.lo A.hi S.requires.2 w.0 w.1
    (omega (arith, (stretched img A.shape A.i.0 S.requires.0 z).order))))

pub shown_of_spec : {M : Type 1} → statement M
shown_of_spec =
    tie.close
    (tie.spec
    number-requires
    end-of-requires
    returns
    start-in-requires
    returns-2
    end-of-requires-2
    returns-3)
