-- Each question in turn; then the search in the old image, and in the new one where it met nothing. Assumes nothing.
use mathlib.Core.Path.{◌≡◌, refl, sym, ap, ◌∙◌, subst}
use mathlib.Core.Bool.{true, false}
use mathlib.Core.List.{[]}
use native.Mathlib.Omega.{arith}
use borrow.Author.Rules.{rules}
use Rattle.spec_file.specs.Search.{is_met}
use Rattle.spec_file.specs.Questions.{name_allowed}
use Rattle.spec_moves.specs.Moves.{Pair}
use Rattle.spec_growth.specs.Growth.{old_key, pair_number}
use Rattle.header_layout.specs.Shapes.{Open}
use Rattle.table_search.specs.Probes.{probe_of, Within}
use Rattle.table_search.proofs.Taken.{named-no, named-yes, search-within}
use Rattle.growth_open.proofs.Pairs.{PairOpen, pair-open}
use Rattle.call_grow_lookup.proofs.Holding.{name-stop, name-7, locates-refused, locates-old, locates-new}
use Rattle.call_grow_lookup.proofs.locate_pair.Statement.{statement}
use Rattle.call_grow_lookup.proofs.locate_pair.Tie as tie

-- ---- the stages
abbrev pair : tie.Start → Pair
pair S = record { old = S.args.old.now; new = S.args.new.now }

abbrev start : tie.After-pair_number-number → tie.Start
start c = c.before.before.before.before

abbrev start-at-else1 : tie.Else-number-ne0 → tie.Start
start-at-else1 c = c.before.before.before.before.before

-- questions 1, 5, 6 and 21 are answered yes
accepted : (c : tie.Else-number-ne0) → pair_number (pair (start-at-else1 c)) [] ≡ 0
accepted c = sym c.pair_number-number.ensures ∙ c.if-number-ne0.false

both-open : (c : tie.Else-number-ne0) → PairOpen (pair (start-at-else1 c))
both-open c = pair-open (pair (start-at-else1 c)) (accepted c)

old-open : (c : tie.After-read_shape-shape) → Open (pair (start-at-else1 c.before)).old c.read_shape-shape.result
old-open c = record { accepted = (both-open c.before).first; shape = c.read_shape-shape.ensures }

-- so is 7
abbrev shape-at-else2 : tie.Else-not-name_allowed → tie.After-read_shape-shape
shape-at-else2 c = c.before.before

abbrev start-at-else2 : tie.Else-not-name_allowed → tie.Start
start-at-else2 c = c.before.before.before.before.before.before.before.before

allowed : (c : tie.Else-not-name_allowed) → name_allowed (old_key (pair (start-at-else2 c))) (start-at-else2 c).args.key.now ≡ true
allowed c =
    let R = (shape-at-else2 c).read_shape-shape in
    named-yes (start-at-else2 c).args.old.now (start-at-else2 c).args.key.now R.result R.ensures
    c.name_allowed.ensures c.if-not-name_allowed.false

-- the old image's search met nothing
abbrev search-at-else3 : tie.Else-is_met → tie.After-search-probed
search-at-else3 c = c.before.before

abbrev start-at-else3 : tie.Else-is_met → tie.Start
start-at-else3 c = c.before.before.before.before.before.before.before.before.before.before.before

new-open : (c : tie.After-read_shape-larger) → Open (pair (start-at-else3 c.before)).new c.read_shape-larger.result
new-open c =
    let E = shape-at-else2 (search-at-else3 c.before).before in
    record { accepted = (both-open E.before).second; shape = c.read_shape-larger.ensures }

-- ---- the needs
pair-number-requires : tie.Need-pair_number-number-requires
pair-number-requires c κs = search rules

nothing-requires : tie.Need-nothing-located-requires
nothing-requires c κs = search rules

returns : tie.Need-returns-then-number-ne0
returns c =
    let T = c in
    let N = T.pair_number-number in
    let A = start c.before.before in
    let n = c.nothing-located.ensures in
    let key = A.args.key.now in
    let stop = name-stop (pair A) key (λ z. T.if-number-ne0.true (N.ensures ∙ z)) in
    locates-refused (pair A) key _ (λ z. T.if-number-ne0.true (N.ensures ∙ sym stop ∙ z)) (n.0 ∙ N.ensures ∙ sym stop)
    n.1 n.2

read-shape-requires : tie.Need-read_shape-shape-requires
read-shape-requires c κs = (both-open c).first

name-allowed-requires : tie.Need-name_allowed-requires
name-allowed-requires c κs = search rules

nothing-requires-2 : tie.Need-nothing-located-requires-then-not-name_allowed
nothing-requires-2 c κs = search rules

returns-2 : tie.Need-returns-then-not-name_allowed
returns-2 c =
    let T = c in
    let P = c in
    let S = start-at-else1 c.before.before.before.before in
    let R = P.read_shape-shape in
    let n = c.nothing-located-then-not-name_allowed.ensures in
    let key = S.args.key.now in
    let stop =
    name-7 (pair S) key (accepted c.before.before.before.before)
    (named-no S.args.old.now key R.result R.ensures T.name_allowed.ensures T.if-not-name_allowed.true) in
    locates-refused (pair S) key _ (λ z. omega (arith, stop, z)) (n.0 ∙ sym stop) n.1 n.2

search-requires : tie.Need-search-probed-requires
search-requires c κs = old-open (shape-at-else2 c)

is-met-requires : tie.Need-is_met-requires
is-met-requires c κs = search rules

locate-found-requires : tie.Need-locate_found-located-requires
locate-found-requires c κs =
    let Q = c in
    let E = c.before.before.before in
    let S = start-at-else2 E in
    let o = old-open (shape-at-else2 E) in
    (o, subst (Within _) (sym Q.search-probed.ensures.0) (search-within S.args.old.now S.args.key.now _ o))

returns-3 : tie.Need-returns-then-is_met
returns-3 c =
    let T = c in
    let Q = c in
    let E = c.before.before.before.before in
    let S = start-at-else2 E in
    locates-old (pair S) S.args.key.now (accepted (shape-at-else2 E).before) (allowed E) _
    (probe_of Q.search-probed.result.found) Q.search-probed.ensures.0 (sym T.is_met.ensures ∙ T.if-is_met.true)
    c.locate_found-located.ensures refl

read-shape-requires-2 : tie.Need-read_shape-larger-requires
read-shape-requires-2 c κs = (both-open (shape-at-else2 (search-at-else3 c).before).before).second

search-requires-2 : tie.Need-search-sought-requires
search-requires-2 c κs = new-open c

locate-found-requires-2 : tie.Need-locate_found-located-requires-2
locate-found-requires-2 c κs =
    let S = start-at-else3 c.before.before in
    let o = new-open c.before in
    (o, subst (Within _) (sym c.search-sought.ensures.0) (search-within S.args.new.now S.args.key.now _ o))

returns-4 : tie.Need-returns
returns-4 c =
    let W = c in
    let T = c.before.before.before in
    let Q = search-at-else3 T in
    let E = Q.before in
    let S = start-at-else2 E in
    locates-new (pair S) S.args.key.now (accepted (shape-at-else2 E).before) (allowed E) _
    (probe_of W.search-sought.result.found)
    (ap is_met (sym Q.search-probed.ensures.0) ∙ sym T.is_met.ensures ∙ T.if-is_met.false)
    W.search-sought.ensures.0 c.locate_found-located-2.ensures refl

pub locate_pair_spec : {M : Type 1} → statement M
locate_pair_spec =
    tie.close
    (tie.spec
    pair-number-requires
    nothing-requires
    returns
    read-shape-requires
    name-allowed-requires
    nothing-requires-2
    returns-2
    search-requires
    is-met-requires
    locate-found-requires
    returns-3
    read-shape-requires-2
    search-requires-2
    locate-found-requires-2
    returns-4)
