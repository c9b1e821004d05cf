-- C of both is read where 1, 5, 6 and 21 are answered yes. Assumes nothing.
use native.Mathlib.Omega.{arith}
use mathlib.Core.Path.{◌≡◌, refl, sym, ap₂, ◌∙◌}
use Prim.Native.Nat.{ℕ, ◌+◌}
use mathlib.Core.List.{[]}
use borrow.Author.Rules.{rules}
use Rattle.spec_moves.specs.Moves.{Pair}
use Rattle.spec_growth.specs.Growth.{both_points, pair_number}
use Rattle.law_file.proofs.Opened.{opened-facts}
use Rattle.growth_open.proofs.Pairs.{PairOpen, pair-open}
use Rattle.call_grow_lookup.proofs.Holding.{counts-refused, counts}
use Rattle.call_grow_lookup.proofs.count_pair.Statement.{statement}
use Rattle.call_grow_lookup.proofs.count_pair.Tie as tie

-- the pair that is lent
abbrev pair : tie.Start → Pair
pair S = record { old = S.args.old.now; new = S.args.new.now }

abbrev start : tie.Else-number-ne0 → tie.Start
start c = c.before.before.before.before

accepted : (c : tie.Else-number-ne0) → pair_number (pair (start c)) [] ≡ 0
accepted c = sym c.pair_number-number.ensures ∙ c.if-number-ne0.false

is_open : (c : tie.Else-number-ne0) → PairOpen (pair (start c))
is_open c = pair-open (pair (start c)) (accepted c)

pair-number-requires : tie.Need-pair_number-number-requires
pair-number-requires c κs = search rules

returns : tie.Need-returns-then-number-ne0
returns c =
    counts-refused (pair c.before.before.before.before) _ c.pair_number-number.ensures c.if-number-ne0.true

read-u32-requires : tie.Need-read_u32-requires
read-u32-requires c κs = omega (arith, (opened-facts (pair (start c)).old (is_open c).first).size_low)

read-u32-requires-2 : tie.Need-read_u32-requires-2
read-u32-requires-2 c κs =
    let E = c.before in
    omega (arith, (opened-facts (pair (start E)).new (is_open E).second).size_low)

add-points : tie.Need-overflow_add-points
add-points c =
    let E = c.before.before in
    let f = opened-facts (pair (start E)).old (is_open E).first in
    let g = opened-facts (pair (start E)).new (is_open E).second in
    omega (
      arith,
      f.points,
      f.slots-high,
      g.points,
      g.slots-high,
      c.read_u32.ensures,
      c.read_u32-2.ensures,
    )

returns-2 : tie.Need-returns
returns-2 c =
    let E = c.before.before in
    counts (pair (start E)) _ _ refl (accepted E)
    (unfold both_points in ap₂ (λ (x y : ℕ). x + y) c.read_u32.ensures c.read_u32-2.ensures)

pub count_pair_spec : {M : Type 1} → statement M
count_pair_spec =
    tie.close
    (tie.spec
    pair-number-requires
    returns
    read-u32-requires
    read-u32-requires-2
    add-points
    returns-2)
