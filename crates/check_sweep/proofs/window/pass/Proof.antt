-- `check_sweep::window::pass` meets its contract: the places of the slots below i are marked, and no two share one.
-- Assumes nothing.
use Rattle.std.proofs.Common.{◌≡◌, ℕ, ◌+◌, ◌-◌, Bool, length, sym, refl, ◌∙◌, subst, arith}
use Rattle.spec_file.specs.Bytes.{Bytes}
use Rattle.check_marks.specs.Marks.{Claimed}
use Rattle.message_stretch.specs.Checked.{start_in, end_in, Readable}
use Rattle.message_stretch.specs.Windows.{Piece, Carried}
use Rattle.message_stretch.proofs.Reading.{checked-slot}
use Rattle.check_sweep.proofs.Passes.{Passing, clear-carried, passing-start, passing-over, passing-on}
use Rattle.check_sweep.proofs.Passes.{passing-met, passing-end}
use Rattle.check_sweep.proofs.window.pass.Statement.{statement}
use Rattle.check_sweep.proofs.window.pass.Tie as tie

abbrev invariant-loop : tie.invariant-loop-i
invariant-loop image shape map₀ lo hi best carried next₀ i₀ map next i =
    (length map ≡ length map₀) × Passing (start_in image) (end_in image) lo hi best map i next

abbrev decreases-loop : tie.decreases-loop-i
decreases-loop image shape map₀ lo hi best carried next₀ i₀ map next i = best - i

next-shown-requires : tie.Need-next_shown-i-requires invariant-loop decreases-loop
next-shown-requires c κs = (c.requires.0, omega arith)

loop-holds : tie.Need-loop-i-init invariant-loop decreases-loop
loop-holds c =
    let S = c in
    let A = S.args in
    let img = A.image.now in
    let n = c.next_shown-i in (
      refl,
      passing-over (start_in img) (end_in img) A.lo A.hi A.best A.map.now 0 A.best n.result
          (passing-start (start_in img) (end_in img) A.lo A.hi A.best A.map.now S.requires.2)
          n.ensures.0 n.ensures.1 n.ensures.2,
    )

-- where the function starts, seen from the loop's head
abbrev start : tie.At-loop-i invariant-loop decreases-loop → tie.Start invariant-loop decreases-loop
start L = L.before.before.before.before

new-requires : tie.Need-new-requires invariant-loop decreases-loop
new-requires c κs = tt

shown-of-requires : tie.Need-shown_of-shown-requires invariant-loop decreases-loop
shown-of-requires c κs =
    let S = start c.before.before in
    let A = S.args in
    let img = A.image.now in
    let W = S.requires.0 in
    let i = c.loop-i.i in
    let l = c.loop-i-test.true in
    let q : i ≡ c.new.result.0 = sym c.new.ensures in (
      subst (λ (n : ℕ). Readable img A.shape n) q (checked-slot img A.shape A.best W.checked i l),
      W.low,
      omega (arith, W.order),
      subst (λ (n : ℕ). Carried (start_in img n) (end_in img n) A.lo n A.carried) q
          (clear-carried (start_in img) (end_in img) A.lo A.best A.carried W.clear i l),
    )

-- what the window shows of slot i
piece : (c : tie.After-shown_of-shown invariant-loop decreases-loop)
    → let L : tie.At-loop-i invariant-loop decreases-loop = c.before.before.before in
    let S : tie.Start invariant-loop decreases-loop = start L in
    let img : Bytes = S.args.image.now in
    Piece (start_in img L.loop-i.i) (end_in img L.loop-i.i) S.args.lo S.args.hi
    c.shown_of-shown.result.from c.shown_of-shown.result.end
piece c =
    let A = (start c.before.before.before).args in
    let img = A.image.now in
    let r = c.shown_of-shown.result in
    subst (λ (n : ℕ). Piece (start_in img n) (end_in img n) A.lo A.hi r.from r.end)
    c.new.ensures c.shown_of-shown.ensures

sub-claim : tie.Need-overflow_sub-from invariant-loop decreases-loop
sub-claim c = (piece c.before).low

lesser-requires : tie.Need-lesser-requires invariant-loop decreases-loop
lesser-requires c κs = tt

sub-claim-2 : tie.Need-overflow_sub-lesser invariant-loop decreases-loop
sub-claim-2 c =
    let p = piece c.before.before in
    omega (arith, p.low, p.order, p.high, c.lesser.ensures)

claim-requires : tie.Need-claim-requires invariant-loop decreases-loop
claim-requires c κs =
    let p = piece c.before.before in
    let L = c.before.before.before.before.before in (
      omega (arith, p.low, p.order, p.high, c.lesser.ensures),
      omega (arith, c.lesser.ensures, (start L).requires.1, L.loop-i.invariant.0),
    )

same_length : tie.Need-shape_of-map-then-claim invariant-loop decreases-loop
same_length c =
    let C = c in
    C.claim.auto.map ∙ C.loop-i.invariant.0

-- how slot i's places were claimed
claimed : (c : tie.After-claim invariant-loop decreases-loop) (b : Bool) → c.claim.result ≡ b
    → let L : tie.At-loop-i invariant-loop decreases-loop = c.before.before.before.before.before.before in
    let S : tie.Start invariant-loop decreases-loop = start L in
    Claimed L.loop-i.map c.claim.new.map (c.shown_of-shown.result.from - S.args.lo)
    (c.lesser.result - S.args.lo) b
claimed c b e =
    let L = c.before.before.before.before.before.before in
    let lo = (start L).args.lo in
    let from = c.shown_of-shown.result.from in
    subst (λ (t : Bool). Claimed L.loop-i.map c.claim.new.map (from - lo) (c.lesser.result - lo) t) e
    c.claim.ensures

returns : tie.Need-returns-then-claim invariant-loop decreases-loop
returns c =
    let C = c.before.before.before in
    let P = c.before.before.before.before.before.before in
    let L = c.before.before.before.before.before.before.before.before.before in
    let S = start L in
    let A = S.args in
    let img = A.image.now in
    let r = P.shown_of-shown.result in
    passing-met (start_in img) (end_in img) A.lo A.hi A.best A.carried L.loop-i.map L.loop-i.i
    L.loop-i.next L.loop-i.invariant.1 P.loop-i-test.true r.from r.end
    (piece P) C.claim.new.map C.lesser.result C.lesser.ensures S.requires.0.clear
    (claimed C _ c.if-claim.true)

carried-on-requires : tie.Need-carried_on-next-requires invariant-loop decreases-loop
carried-on-requires c κs = tt

-- the turn of the loop, seen from its end
abbrev claim-at-end : tie.After-carried_on-next invariant-loop decreases-loop → tie.After-claim invariant-loop decreases-loop
claim-at-end c = c.before.before.before.before

abbrev turn : tie.After-carried_on-next invariant-loop decreases-loop → tie.In-loop-i invariant-loop decreases-loop
turn c = c.before.before.before.before.before.before.before.before.before

add-next-shown : tie.Need-overflow_add-i invariant-loop decreases-loop
add-next-shown c = omega (arith, (turn c).loop-i-test.true)

next-shown-requires-2 : tie.Need-next_shown-i-requires-in-loop-i invariant-loop decreases-loop
next-shown-requires-2 c κs =
    let S = start (turn c).before in
    (S.requires.0, omega (arith, (turn c).loop-i-test.true))

loop-less : tie.Need-loop-i-smaller invariant-loop decreases-loop
loop-less c = omega (arith, (turn c.before).loop-i-test.true, c.next_shown-i-in-loop-i.ensures.0)

loop-again : tie.Need-loop-i-preserved invariant-loop decreases-loop
loop-again c =
    let E = c.before in
    let C = claim-at-end E in
    let P = C.before.before.before in
    let L = P.before.before.before in
    let S = start L in
    let A = S.args in
    let img = A.image.now in
    let r = P.shown_of-shown.result in
    let n = c.next_shown-i-in-loop-i in (
      C.claim.auto.map ∙ L.loop-i.invariant.0,
      passing-over (start_in img) (end_in img) A.lo A.hi A.best C.claim.new.map (L.loop-i.i + 1)
          E.carried_on-next.result n.result
          (passing-on (start_in img) (end_in img) A.lo A.hi A.best A.carried L.loop-i.map L.loop-i.i
          L.loop-i.next L.loop-i.invariant.1 P.loop-i-test.true r.from r.end
          (piece P) C.claim.new.map C.lesser.result C.lesser.ensures S.requires.0.order
          (claimed C _ E.if-claim.false) E.carried_on-next.result E.carried_on-next.ensures)
          n.ensures.0 n.ensures.1 n.ensures.2,
    )

same-length-2 : tie.Need-shape_of-map invariant-loop decreases-loop
same-length-2 c = c.loop-i.invariant.0

returns-2 : tie.Need-returns invariant-loop decreases-loop
returns-2 c =
    let L = c.before in
    let S = start L in
    let A = S.args in
    let img = A.image.now in
    passing-end (start_in img) (end_in img) A.lo A.hi A.best A.carried L.loop-i.map L.loop-i.i
    L.loop-i.next S.requires.0.clear L.loop-i.invariant.1 c.loop-i-test.false

pub pass_spec : {M : Type 1} → statement M
pass_spec =
    tie.close
    (tie.spec
    invariant-loop
    decreases-loop
    next-shown-requires
    loop-holds
    new-requires
    shown-of-requires
    sub-claim
    lesser-requires
    sub-claim-2
    claim-requires
    same_length
    returns
    carried-on-requires
    add-next-shown
    next-shown-requires-2
    loop-less
    loop-again
    same-length-2
    returns-2)
