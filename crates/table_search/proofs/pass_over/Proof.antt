-- `table_search::pass_over` meets its contract: each slot passed over is one turn of the search. Assumes nothing.
use Prim.Native.Nat.{ℕ, ◌+◌, ◌-◌, ◌≤◌, ◌<◌}
use native.Mathlib.Omega.{arith}
use mathlib.Core.Path.{◌≡◌, sym, ap, ◌∙◌, subst}
use Rattle.spec_file.specs.Bytes.{Bytes}
use Rattle.spec_file.specs.Image.{layout_of}
use Rattle.spec_file.specs.Search.{next}
use Rattle.law_file.proofs.Cyclic.{next_up}
use Rattle.table_search.specs.Probes.{GoesOn}
use Rattle.table_search.specs.Slots.{key_in}
use Rattle.table_search.proofs.Headers.{header, layout-slots}
use Rattle.table_search.proofs.Turns.{goes_same, goes_over, read-on, stored-length, other-tail}
use Rattle.table_search.proofs.pass_over.Statement.{statement}
use Rattle.table_search.proofs.pass_over.Tie as tie

-- at slot i, the slots from the first one on passed over
abbrev Stands : Bytes → Bytes → ℕ → ℕ → ℕ → Type 0
Stands img key most first i = GoesOn (layout_of img) img key most first (most - (i - first)) i

abbrev invariant-loop : tie.invariant-loop-i
invariant-loop image shape key most size first wanted stop i₀ i =
    (first ≤ i) × (i ≤ stop) × (stop < shape.slots) × (stop - first ≤ most) × Stands image key most first i

abbrev decreases-loop : tie.decreases-loop-i
decreases-loop image shape key most size first wanted stop i₀ i = stop - i

-- the same, with each number as the code has it
stands-as : (img key : Bytes) (most first i : ℕ) → Stands img key most first i → (from left slot : ℕ)
    → first ≡ from → left ≡ most - (i - first) → slot ≡ i → GoesOn (layout_of img) img key most from left slot
stands-as img key most first i st from left slot e l s =
    let at_slot = subst (λ (j : ℕ). GoesOn (layout_of img) img key most first (most - (i - first)) j) (sym s) st in
    let so-many = subst (λ (m : ℕ). GoesOn (layout_of img) img key most first m slot) (sym l) at_slot in
    subst (λ (f : ℕ). GoesOn (layout_of img) img key most f left slot) e so-many

nearer : (stop i : ℕ) → i < stop → stop - (i + 1) < stop - i
nearer stop i h = omega arith

number-requires : tie.Need-number-first-requires invariant-loop decreases-loop
number-requires c κs = tt

returns : tie.Need-returns-then-key-size invariant-loop decreases-loop
returns c = (c.requires.1, goes_same _ _ _ _ _)

returns-2 : tie.Need-returns-then-size-lt4 invariant-loop decreases-loop
returns-2 c = (c.requires.1, goes_same _ _ _ _ _)

tail-requires : tie.Need-tail-wanted-requires invariant-loop decreases-loop
tail-requires c κs = omega arith

sub-lesser : tie.Need-overflow_sub-shape invariant-loop decreases-loop
sub-lesser c = omega (arith, c.requires.1)

sub-lesser-2 : tie.Need-overflow_sub-shape-2 invariant-loop decreases-loop
sub-lesser-2 c =
    let N = c in
    omega (arith, N.number-first.ensures, N.requires.1)

-- ---- from where the slots are numbered
abbrev numbered : tie.After-lesser invariant-loop decreases-loop → tie.After-number-first invariant-loop decreases-loop
numbered c = c.before.before.before.before.before

abbrev started : tie.After-number-first invariant-loop decreases-loop → tie.Start invariant-loop decreases-loop
started c = c.before.before.before

lesser-requires : tie.Need-lesser-requires invariant-loop decreases-loop
lesser-requires c κs = tt

add-stop : tie.Need-overflow_add-stop invariant-loop decreases-loop
add-stop c =
    let N = numbered c in
    let S = started N in
    omega (
      arith,
      c.lesser.ensures,
      N.number-first.ensures,
      S.requires.1,
      (header S.args.image.now S.args.shape S.requires.0).slots-high,
    )

loop-holds : tie.Need-loop-i-init invariant-loop decreases-loop
loop-holds c =
    let N = numbered c in
    let S = started N in
    let img = S.args.image.now in
    let f = N.number-first.result in
    let z : S.args.most - (f - f) ≡ S.args.most = omega arith in (
      omega arith,
      omega arith,
      omega (arith, c.lesser.ensures, N.number-first.ensures, S.requires.1),
      omega (arith, c.lesser.ensures),
      subst (λ (m : ℕ). GoesOn (layout_of img) img S.args.key.now S.args.most f m f) (sym z)
          (goes_same _ _ _ _ _),
    )

new-requires : tie.Need-new-requires invariant-loop decreases-loop
new-requires c κs = tt

key-of-requires : tie.Need-key_of-requires invariant-loop decreases-loop
key-of-requires c κs =
    let H = c in
    ((started (numbered c.before.before.before)).requires.0, omega (arith, c.new.ensures, H.loop-i.invariant))

tail-requires-2 : tie.Need-tail-block-requires invariant-loop decreases-loop
tail-requires-2 c κs =
    let H = c in
    let S = started (numbered c.before.before.before.before) in
    let img = S.args.image.now in
    let K = c.key_of in
    omega (
      arith,
      stored-length img S.args.shape S.requires.0 c.new.result.0
          (omega (arith, c.new.ensures, H.loop-i.invariant)) K.result.now K.ensures,
    )

turn-at-requires : tie.Need-turn_at-requires invariant-loop decreases-loop
turn-at-requires c κs =
    let H = c in
    (H.loop-i.invariant.0, omega (arith, H.loop-i.invariant))

returns-3 : tie.Need-returns-then-block-wanted invariant-loop decreases-loop
returns-3 c =
    let H = c in
    let N = numbered c.before.before.before.before.before.before.before in
    let S = started N in
    let t = c.turn_at in (
      omega (arith, t.ensures, H.loop-i.invariant),
      stands-as S.args.image.now S.args.key.now S.args.most N.number-first.result H.loop-i.i
          H.loop-i.invariant.4 S.args.from.0 t.result.left t.result.slot.0
          N.number-first.ensures t.ensures.1 t.ensures.0,
    )

add-i : tie.Need-overflow_add-i invariant-loop decreases-loop
add-i c =
    let H = c in
    let S = started (numbered c.before.before.before.before.before.before) in
    omega (
      arith,
      H.loop-i.invariant,
      (header S.args.image.now S.args.shape S.requires.0).slots-high,
    )

loop-less : tie.Need-loop-i-smaller invariant-loop decreases-loop
loop-less c = nearer _ _ c.loop-i-test.true

loop-again : tie.Need-loop-i-preserved invariant-loop decreases-loop
loop-again c =
    let H = c in
    let N = numbered c.before.before.before.before.before.before in
    let S = started N in
    let A = S.args in
    let img = A.image.now in
    let g = layout_of img in
    let i = H.loop-i.i in
    let f = N.number-first.result in
    let v = H.loop-i.invariant in
    let in' = c.loop-i-test.true in
    let T = c in
    let k = c.key_of in
    let n = layout-slots img A.shape S.requires.0.shape in
    let is = k.ensures ∙ ap (key_in img) c.new.ensures in
    let long = stored-length img A.shape S.requires.0 i (omega (arith, v)) k.result.now is in
    let other =
    other-tail k.result.now A.key.now c.tail-block.result T.tail-wanted.result
    (omega (arith, long, T.if-key-size.false)) c.tail-block.ensures T.tail-wanted.ensures c.if-block-wanted.false in
    let one = read-on g img A.key.now (A.most - (i - f)) i (omega (arith, v, in')) k.result.now is
    other.0 other.1 (sym (next_up g.N i (omega (arith, n, v, in')))) in
    let fewer : A.most - (i - f) - 1 ≡ A.most - (i + 1 - f) = omega (arith, v) in (
      omega (arith, v),
      omega (arith, in'),
      v.2,
      v.3,
      subst (λ (m : ℕ). GoesOn g img A.key.now A.most f m (i + 1)) fewer
          (goes_over g img A.key.now v.4 one),
    )

turn-at-requires-2 : tie.Need-turn_at-requires-2 invariant-loop decreases-loop
turn-at-requires-2 c κs = (c.loop-i.invariant.0, omega (arith, c.loop-i.invariant))

returns-4 : tie.Need-returns invariant-loop decreases-loop
returns-4 c =
    let H = c in
    let N = numbered c.before.before.before in
    let S = started N in
    let t = c.turn_at-2 in (
      omega (arith, t.ensures, H.loop-i.invariant),
      stands-as S.args.image.now S.args.key.now S.args.most N.number-first.result H.loop-i.i
          H.loop-i.invariant.4 S.args.from.0 t.result.left t.result.slot.0
          N.number-first.ensures t.ensures.1 t.ensures.0,
    )

pub pass_over_spec : {M : Type 1} → statement M
pass_over_spec =
    tie.close
    (tie.spec
    invariant-loop
    decreases-loop
    number-requires
    returns
    returns-2
    tail-requires
    sub-lesser
    sub-lesser-2
    lesser-requires
    add-stop
    loop-holds
    new-requires
    key-of-requires
    tail-requires-2
    turn-at-requires
    returns-3
    add-i
    loop-less
    loop-again
    turn-at-requires-2
    returns-4)
