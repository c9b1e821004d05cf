-- `table_search::search` meets its contract: with `left` slots left to read, the search goes on from slot i, also over
-- the slots that it passes over. Assumes nothing.
use Prim.Native.Nat.{ℕ, ◌<◌}
use native.Mathlib.Omega.{arith}
use mathlib.Core.Path.{sym, ap, ◌∙◌}
use Rattle.spec_file.specs.Image.{layout_of, home}
use Rattle.spec_file.specs.Search.{next}
use Rattle.law_file.proofs.Cyclic.{next-lt}
use Rattle.law_file.proofs.Probe.{home-lt}
use Rattle.table_search.specs.Probes.{probe_of, GoesOn}
use Rattle.table_search.proofs.Headers.{header, layout-slots}
use Rattle.table_search.proofs.Turns.{Searching, search-start, goes_over, read-on, ended-met, ended-empty, ended-exhausted}
use Rattle.table_search.proofs.search.Statement.{statement}
use Rattle.table_search.proofs.search.Tie as tie

abbrev invariant-loop : tie.invariant-loop-left
invariant-loop image shape key slots i₀ left₀ i left =
    (i.0 < slots) × GoesOn (layout_of image) image key slots (home (layout_of image) key) left i.0

abbrev decreases-loop : tie.decreases-loop-left
decreases-loop image shape key slots i₀ left₀ i left = left

home-requires : tie.Need-home-i-requires invariant-loop decreases-loop
home-requires c κs = c.requires

loop-holds : tie.Need-loop-left-init invariant-loop decreases-loop
loop-holds c =
    let S = c in
    let img = S.args.image.now in
    let s = S.args.shape in
    let key = S.args.key.now in
    let n = layout-slots img s S.requires.shape in
    let b = header img s S.requires in
    let at = c.home-i.ensures in (
      omega (arith, home-lt (layout_of img) key (omega arith)),
      search-start img key s S.requires at,
    )

pass-over-requires : tie.Need-pass_over-turn-requires invariant-loop decreases-loop
pass-over-requires c κs =
    let S = c in
    (S.requires, c.loop-left.invariant.0)

-- ---- a turn of the loop: what is known where its slot's key is read
abbrev passed-at-key : tie.After-key_of-stored invariant-loop decreases-loop → tie.After-pass_over-turn invariant-loop decreases-loop
passed-at-key c = c.before.before.before.before.before

abbrev start-at-passed : tie.After-pass_over-turn invariant-loop decreases-loop → tie.Start invariant-loop decreases-loop
start-at-passed c = c.before.before.before.before.before.before

-- the search goes on at the slot that was not passed over
went : (c : tie.After-pass_over-turn invariant-loop decreases-loop)
    → let S : tie.Start invariant-loop decreases-loop = start-at-passed c in
    Searching S.args.image.now S.args.key.now S.args.shape S.requires
    c.pass_over-turn.result.left c.pass_over-turn.result.slot.0
went c = goes_over _ _ _ c.loop-left.invariant.1 c.pass_over-turn.ensures.1

-- ---- the needs
returns : tie.Need-returns-then-turn-eq0 invariant-loop decreases-loop
unfolding probe_of
returns c =
    let P = c.before.before in
    let S = start-at-passed P in
    ended-exhausted S.args.image.now S.args.key.now S.args.shape S.requires (went P) c.if-turn-eq0.true

sub_read : tie.Need-overflow_sub-read invariant-loop decreases-loop
sub_read c = (went c.before.before.before).fewer

add_read : tie.Need-overflow_add-read invariant-loop decreases-loop
add_read c =
    let S = start-at-passed c.before.before.before in
    omega (arith, (header S.args.image.now S.args.shape S.requires).slots-high)

key-of-requires : tie.Need-key_of-stored-requires invariant-loop decreases-loop
key-of-requires c κs =
    let P = c.before.before.before.before in
    ((start-at-passed P).requires, P.pass_over-turn.ensures.0)

same-bytes-requires : tie.Need-same_bytes-requires invariant-loop decreases-loop
same-bytes-requires c κs = tt

returns-2 : tie.Need-returns-then-same_bytes invariant-loop decreases-loop
unfolding probe_of
returns-2 c =
    let K = c.before.before in
    let P = passed-at-key K in
    let S = start-at-passed P in
    ended-met S.args.image.now S.args.key.now S.args.shape S.requires (went P) (omega arith)
    K.key_of-stored.result.now K.key_of-stored.ensures (sym c.same_bytes.ensures ∙ c.if-same_bytes.true)

all-zero-requires : tie.Need-all_zero-requires invariant-loop decreases-loop
all-zero-requires c κs = tt

returns-3 : tie.Need-returns-then-all_zero invariant-loop decreases-loop
unfolding probe_of
returns-3 c =
    let E = c in
    let K = c.before.before.before.before in
    let P = passed-at-key K in
    let S = start-at-passed P in
    ended-empty S.args.image.now S.args.key.now S.args.shape S.requires (went P)
    (omega (arith, K.if-turn-eq0.false)) K.key_of-stored.result.now K.key_of-stored.ensures
    (sym E.same_bytes.ensures ∙ E.if-same_bytes.false) (sym c.all_zero.ensures ∙ c.if-all_zero.true)

next-requires : tie.Need-next-i-requires invariant-loop decreases-loop
next-requires c κs =
    let K = c.before.before.before.before in
    (passed-at-key K).pass_over-turn.ensures.0

sub-left : tie.Need-overflow_sub-left invariant-loop decreases-loop
sub-left c = omega arith

loop-less : tie.Need-loop-left-smaller invariant-loop decreases-loop
loop-less c =
    let K = c.before.before.before.before.before.before in
    let P = passed-at-key K in
    omega (arith, P.pass_over-turn.ensures.1.fewer, K.if-turn-eq0.false)

loop-again : tie.Need-loop-left-preserved invariant-loop decreases-loop
loop-again c =
    let Z = c in
    let E = c in
    let K = c.before.before.before.before.before.before in
    let P = passed-at-key K in
    let S = start-at-passed P in
    let img = S.args.image.now in
    let key = S.args.key.now in
    let t = P.pass_over-turn.result in
    let s = S.args.shape in
    let n = layout-slots img s S.requires.shape in
    let at = c.next-i.ensures in (
      omega (arith, next-lt s.slots t.slot.0 P.pass_over-turn.ensures.0),
      goes_over (layout_of img) img key (went P)
          (read-on (layout_of img) img key t.left t.slot.0
          (omega (arith, K.if-turn-eq0.false)) K.key_of-stored.result.now K.key_of-stored.ensures
          (sym E.same_bytes.ensures ∙ E.if-same_bytes.false) (sym Z.all_zero.ensures ∙ Z.if-all_zero.false)
          (at ∙ ap (λ (m : ℕ). next m t.slot.0) (sym n))),
    )

returns-4 : tie.Need-returns invariant-loop decreases-loop
unfolding probe_of
returns-4 c =
    let L = c in
    let S = c in
    ended-exhausted S.args.image.now S.args.key.now S.args.shape S.requires L.loop-left.invariant.1 (omega arith)

pub search_spec : {M : Type 1} → statement M
search_spec =
    tie.close
    (tie.spec
    invariant-loop
    decreases-loop
    home-requires
    loop-holds
    pass-over-requires
    returns
    sub_read
    add_read
    key-of-requires
    same-bytes-requires
    returns-2
    all-zero-requires
    returns-3
    next-requires
    sub-left
    loop-less
    loop-again
    returns-4)
