-- `check_entries::ends_here` meets its contract: the search for the slot's key goes on from slot to slot, and meets the
-- key at the slot itself where it comes there. Assumes nothing.
use Prim.Native.Nat.{ℕ, ◌<◌}
use native.Mathlib.Omega.{arith}
use mathlib.Core.Path.{◌≡◌, refl, sym, ap, ◌∙◌}
use mathlib.Core.Bool.{Bool, true, false}
use borrow.Author.Tests.{eq-eqb, ne_eqb}
use Rattle.spec_file.specs.Bytes.{Bytes}
use Rattle.spec_file.specs.Image.{layout_of, home}
use Rattle.spec_file.specs.Search.{Probe, met, empty, exhausted, next, search}
use Rattle.spec_file.specs.Inspect.{ends_at}
use Rattle.law_file.proofs.Tests.{by-or, or_no}
use Rattle.law_file.proofs.Bytes.{same_refl}
use Rattle.law_file.proofs.Cyclic.{next-lt}
use Rattle.law_file.proofs.Probe.{home-lt}
use Rattle.table_search.specs.Probes.{GoesOn}
use Rattle.table_search.specs.Slots.{key_in}
use Rattle.table_search.proofs.Headers.{header, layout-slots}
use Rattle.table_search.proofs.Turns.{Searching, search-start, goes_over, read-on, ended-met, ended-empty, ended-exhausted}
use Rattle.check_entries.proofs.ends_here.Statement.{statement}
use Rattle.check_entries.proofs.ends_here.Tie as tie

abbrev invariant-loop : tie.invariant-loop-left
invariant-loop image shape i slots key at₀ left₀ at left =
    (at.0 < slots) × GoesOn (layout_of image) image key slots (home (layout_of image) key) left at.0

abbrev decreases-loop : tie.decreases-loop-left
decreases-loop image shape i slots key at₀ left₀ at left = left

key-of-requires : tie.Need-key_of-key-requires invariant-loop decreases-loop
key-of-requires c κs = c.requires

home-requires : tie.Need-home-at-requires invariant-loop decreases-loop
home-requires c κs = c.requires.0

loop-holds : tie.Need-loop-left-init invariant-loop decreases-loop
loop-holds c =
    let S = c in
    let img = S.args.image.now in
    let s = S.args.shape in
    let key = c.key_of-key.result.now in
    let n = layout-slots img s S.requires.0.shape in
    let b = header img s S.requires.0 in
    let at = c.home-at.ensures in (
      omega (arith, home-lt (layout_of img) key (omega arith)),
      search-start img key s S.requires.0 at,
    )

pass-over-requires : tie.Need-pass_over-turn-requires invariant-loop decreases-loop
pass-over-requires c κs =
    let S = c in
    (S.requires.0, c.loop-left.invariant.0)

-- ---- a turn of the loop, seen from where slots were passed over
abbrev start-at-passed : tie.After-pass_over-turn invariant-loop decreases-loop → tie.Start invariant-loop decreases-loop
start-at-passed c = c.before.before.before.before.before.before

abbrev keyed : tie.After-pass_over-turn invariant-loop decreases-loop → tie.After-key_of-key invariant-loop decreases-loop
keyed c = c.before.before.before.before

abbrev passed-at-here : tie.Then-number invariant-loop decreases-loop → tie.After-pass_over-turn invariant-loop decreases-loop
passed-at-here c = c.before.before.before.before.before.before

abbrev turned : tie.After-next-at invariant-loop decreases-loop → tie.Else-number invariant-loop decreases-loop
turned c = c.before.before.before.before.before

abbrev passed-at-there : tie.Else-number invariant-loop decreases-loop → tie.After-pass_over-turn invariant-loop decreases-loop
passed-at-there c = c.before.before.before.before.before.before

-- the search goes on at the slot that was not passed over
went : (c : tie.After-pass_over-turn invariant-loop decreases-loop)
    → let S : tie.Start invariant-loop decreases-loop = start-at-passed c in
    Searching S.args.image.now (keyed c).key_of-key.result.now S.args.shape S.requires.0
    c.pass_over-turn.result.left c.pass_over-turn.result.slot.0
went c = goes_over _ _ _ c.loop-left.invariant.1 c.pass_over-turn.ensures.1

-- how the search ended tells whether it ended at the slot
ends : (c : tie.After-pass_over-turn invariant-loop decreases-loop) (p : Probe) (b : Bool)
    → let S : tie.Start invariant-loop decreases-loop = start-at-passed c in
    let img : Bytes = S.args.image.now in
    p ≡ search (layout_of img) img (keyed c).key_of-key.result.now → ends_at p S.args.i.0 ≡ b
    → b ≡ ends_at (search (layout_of img) img (key_in img S.args.i.0)) S.args.i.0
ends c p b e h =
    let S = start-at-passed c in
    let img = S.args.image.now in
    sym h
    ∙ ap (λ (q : Probe). ends_at q S.args.i.0)
    (e ∙ ap (λ (k : Bytes). search (layout_of img) img k) (keyed c).key_of-key.ensures)

-- behind the two tests slots are left, and the slot is another one
some_left : (c : tie.Else-number invariant-loop decreases-loop) → 0 < (passed-at-there c).pass_over-turn.result.left
some_left c = omega (arith, c.if-turn-eq0.false)

elsewhere : (c : tie.Else-number invariant-loop decreases-loop)
    → (passed-at-there c).pass_over-turn.result.slot.0 ≡ (start-at-passed (passed-at-there c)).args.i.0 → ⊥
elsewhere c q = omega (arith, q, c.if-number.false, c.number-in-loop-left.ensures, c.number.ensures)

-- ---- the needs

returns : tie.Need-returns-then-turn-eq0 invariant-loop decreases-loop
unfolding ends_at
returns c =
    let P = c.before.before in
    let S = start-at-passed P in
    ends P exhausted false
    (ended-exhausted S.args.image.now (keyed P).key_of-key.result.now S.args.shape S.requires.0 (went P)
    c.if-turn-eq0.true).0
    refl

number-requires : tie.Need-number-requires invariant-loop decreases-loop
number-requires c κs = tt

number-requires-2 : tie.Need-number-requires-in-loop-left invariant-loop decreases-loop
number-requires-2 c κs = tt

returns-2 : tie.Need-returns-then-number invariant-loop decreases-loop
unfolding ends_at
returns-2 c =
    let P = passed-at-here c in
    let S = start-at-passed P in
    let img = S.args.image.now in
    let k = (keyed P).key_of-key in
    let here : P.pass_over-turn.result.slot.0 ≡ S.args.i.0 = omega arith in
    ends P (met P.pass_over-turn.result.slot.0) true
    (ended-met img k.result.now S.args.shape S.requires.0 (went P) (omega arith) k.result.now
    (k.ensures ∙ ap (key_in img) (sym here)) (same_refl k.result.now)).0
    (eq-eqb _ _ here)

key-of-requires-2 : tie.Need-key_of-stored-requires invariant-loop decreases-loop
key-of-requires-2 c κs =
    let P = passed-at-there c in
    ((start-at-passed P).requires.0, P.pass_over-turn.ensures.0)

same-bytes-requires : tie.Need-same_bytes-requires invariant-loop decreases-loop
same-bytes-requires c κs = tt

all-zero-requires : tie.Need-all_zero-requires invariant-loop decreases-loop
all-zero-requires c κs = tt

returns-3 : tie.Need-returns-then-same_bytes-all_zero invariant-loop decreases-loop
unfolding ends_at
returns-3 c =
    let K = c in
    let P = passed-at-there c.before.before.before.before in
    let S = start-at-passed P in
    let img = S.args.image.now in
    let t = P.pass_over-turn.result in
    let some' = some_left c.before.before.before.before in
    by-or _ _ c.if-same_bytes-all_zero.true
    (λ y.
    ends P (met t.slot.0) false
    (ended-met img (keyed P).key_of-key.result.now S.args.shape S.requires.0 (went P) some'
    K.key_of-stored.result.now K.key_of-stored.ensures (sym c.same_bytes.ensures ∙ y)).0
    (ne_eqb _ _ (elsewhere c.before.before.before.before)))
    (λ n z.
    ends P (empty t.slot.0) false
    (ended-empty img (keyed P).key_of-key.result.now S.args.shape S.requires.0 (went P) some'
    K.key_of-stored.result.now K.key_of-stored.ensures (sym c.same_bytes.ensures ∙ n)
    (sym c.all_zero.ensures ∙ z)).0
    refl)

next-requires : tie.Need-next-at-requires invariant-loop decreases-loop
next-requires c κs = (passed-at-there c.before.before.before.before).pass_over-turn.ensures.0

sub-left : tie.Need-overflow_sub-left invariant-loop decreases-loop
sub-left c = omega (arith, some_left (turned c.before))

loop-less : tie.Need-loop-left-smaller invariant-loop decreases-loop
loop-less c =
    let P = passed-at-there (turned c.before) in
    omega (arith, P.pass_over-turn.ensures.1.fewer, some_left (turned c.before))

loop-again : tie.Need-loop-left-preserved invariant-loop decreases-loop
loop-again c =
    let E = turned c.before in
    let Z = c in
    let K = c in
    let P = passed-at-there E in
    let S = start-at-passed P in
    let img = S.args.image.now in
    let s = S.args.shape in
    let t = P.pass_over-turn.result in
    let n = layout-slots img s S.requires.0.shape in
    let at = c.next-at.ensures in
    let no = or_no _ _ Z.if-same_bytes-all_zero.false in (
      omega (arith, next-lt s.slots t.slot.0 P.pass_over-turn.ensures.0),
      goes_over (layout_of img) img (keyed P).key_of-key.result.now (went P)
          (read-on (layout_of img) img (keyed P).key_of-key.result.now t.left t.slot.0 (some_left E)
          K.key_of-stored.result.now K.key_of-stored.ensures
          (sym Z.same_bytes.ensures ∙ no.0) (sym Z.all_zero.ensures ∙ no.1)
          (at ∙ ap (λ (m : ℕ). next m t.slot.0) (sym n))),
    )

returns-4 : tie.Need-returns invariant-loop decreases-loop
unfolding ends_at
returns-4 c =
    let L = c in
    let S = c in
    let img = S.args.image.now in
    let k = L.key_of-key in
    ap (λ (q : Probe). ends_at q S.args.i.0)
    ((ended-exhausted img k.result.now S.args.shape S.requires.0 L.loop-left.invariant.1 (omega arith)).0
    ∙ ap (λ (b : Bytes). search (layout_of img) img b) k.ensures)

pub ends_here_spec : {M : Type 1} → statement M
ends_here_spec =
    tie.close
    (tie.spec
    invariant-loop
    decreases-loop
    key-of-requires
    home-requires
    loop-holds
    pass-over-requires
    returns
    number-requires
    number-requires-2
    returns-2
    key-of-requires-2
    same-bytes-requires
    all-zero-requires
    returns-3
    next-requires
    sub-left
    loop-less
    loop-again
    returns-4)
