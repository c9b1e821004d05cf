-- `check_overlap::seen_apart` meets its contract: the bound is the number of slots. Assumes nothing.
use Prim.Native.Nat.{ℕ}
use native.Mathlib.Omega.{arith}
use mathlib.Core.Path.{◌≡◌, refl, sym, subst}
use mathlib.Core.Bool.{false}
use Rattle.spec_file.specs.Image.{layout_of}
use Rattle.law_file.proofs.Tests.{not-both}
use Rattle.message_stretch.specs.Checked.{Checked}
use Rattle.message_stretch.specs.Stretches.{first_meeting}
use borrow.Author.Rules.{rules}
use Rattle.check_overlap.proofs.seen_apart.Statement.{statement}
use Rattle.check_overlap.proofs.seen_apart.Tie as tie

returns : tie.Need-returns-then-bound-shape
returns c e = absurd (not-both false e refl)

-- the bound, which is not below the number of slots
every : (c : tie.Else-bound-shape)
    → let A = c.args in A.bound ≡ A.shape.slots
every c =
    let S = c in
    omega (arith, c.if-bound-shape.false, S.requires.0.low)

none-meet-requires : tie.Need-none_meet-requires
none-meet-requires c κs =
    let S = c in
    let A = S.args in
    let e : A.bound ≡ A.shape.slots = every c.before in
    (subst (Checked A.image.now A.shape) e S.requires.0, S.requires.1, S.requires.2)

same_length : tie.Need-shape_of-room
same_length c = search rules

returns-2 : tie.Need-returns
returns-2 c e =
    let P = c in
    let E = c.before.before.before.before in
    let A = E.args in
    let img = A.image.now in
    subst (λ (n : ℕ). n ≡ first_meeting (layout_of img) img n) (sym (every E)) (sym (P.none_meet.ensures e))

pub seen_apart_spec : {M : Type 1} → statement M
seen_apart_spec =
    tie.close
    (tie.spec
    returns
    none-meet-requires
    same_length
    returns-2)
