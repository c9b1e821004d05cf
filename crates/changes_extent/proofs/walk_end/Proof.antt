-- Slots are passed until a vacant one, or the first again: the distance to it falls. Assumes nothing.
use Prim.Native.Nat.{ℕ, ◌<◌}
use native.Mathlib.Omega.{arith}
use mathlib.Core.Path.{◌≡◌, sym, ap, ◌∙◌}
use borrow.Author.Rules.{rules}
use Rattle.spec_file.specs.Search.{dist}
use Rattle.law_file.proofs.Cyclic.{next-lt, dist-from-next}
use Rattle.changes_extent.proofs.walk_end.Statement.{statement}
use Rattle.changes_extent.proofs.walk_end.Tie as tie

abbrev invariant-loop : tie.invariant-loop-shape
invariant-loop image shape i slots j₀ j = j.0 < shape.slots

abbrev decreases-loop : tie.decreases-loop-shape
decreases-loop image shape i slots j₀ j = dist shape.slots j.0 i.0

abbrev start : tie.At-loop-shape invariant-loop decreases-loop → tie.Start invariant-loop decreases-loop
start L = L.before.before.before

next-requires : tie.Need-next-j-requires invariant-loop decreases-loop
next-requires c κs = c.requires.1

loop-holds : tie.Need-loop-shape-init invariant-loop decreases-loop
loop-holds c =
    let S = c in
    omega (arith, c.next-j.ensures, next-lt S.args.shape.slots S.args.i.0 S.requires.1)

number-requires : tie.Need-number-requires invariant-loop decreases-loop
number-requires c κs = search rules

number-requires-2 : tie.Need-number-requires-in-loop-shape invariant-loop decreases-loop
number-requires-2 c κs = search rules

is-vacant-requires : tie.Need-is_vacant-requires invariant-loop decreases-loop
is-vacant-requires c κs =
    let L = c.before.before.before in
    ((start L).requires.0, L.loop-shape.invariant)

returns : tie.Need-returns-then-is_vacant invariant-loop decreases-loop
returns c =
    let L = c in
    (L.loop-shape.invariant, λ z. sym c.is_vacant.ensures ∙ c.if-is_vacant.true)

next-requires-2 : tie.Need-next-j-requires-in-loop-shape invariant-loop decreases-loop
next-requires-2 c κs = c.loop-shape.invariant

-- the slot is not the first one
other : (I : tie.In-loop-shape invariant-loop decreases-loop)
    → let L : tie.At-loop-shape invariant-loop decreases-loop = I.before.before.before in
    L.loop-shape.j.0 ≡ (start L).args.i.0 → ⊥
other I e = I.loop-shape-test.true (I.number.ensures ∙ e ∙ sym I.number-in-loop-shape.ensures)

loop-less : tie.Need-loop-shape-smaller invariant-loop decreases-loop
loop-less c =
    let I = c.before.before.before in
    let L = c.before.before.before.before.before.before in
    let S = start L in
    let N = S.args.shape.slots in
    omega (
      arith,
      dist-from-next N L.loop-shape.j.0 S.args.i.0 L.loop-shape.invariant S.requires.1 (other I),
      ap (λ (k : ℕ). dist N k S.args.i.0) c.next-j-in-loop-shape.ensures,
    )

loop-again : tie.Need-loop-shape-preserved invariant-loop decreases-loop
loop-again c =
    let L = c.before.before.before.before.before.before in
    omega (arith, c.next-j-in-loop-shape.ensures, next-lt (start L).args.shape.slots L.loop-shape.j.0 L.loop-shape.invariant)

returns-2 : tie.Need-returns invariant-loop decreases-loop
returns-2 c =
    let L = c in
    let same = sym c.number.ensures ∙ c.loop-shape-test.false ∙ c.number-in-loop-shape.ensures in
    (L.loop-shape.invariant, λ z. absurd (z same))

pub walk_end_spec : {M : Type 1} → statement M
walk_end_spec =
    tie.close
    (tie.spec
    invariant-loop
    decreases-loop
    next-requires
    loop-holds
    number-requires
    number-requires-2
    is-vacant-requires
    returns
    next-requires-2
    loop-less
    loop-again
    returns-2)
