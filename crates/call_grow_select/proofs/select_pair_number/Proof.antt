-- Questions 1, 5, 6 and 21, then 22 and 16: each that is passed over was answered yes. Assumes nothing.
use native.Mathlib.Omega.{arith}
use mathlib.Core.Path.{◌≡◌, sym, ap, ◌∙◌}
use Prim.Native.Nat.{ℕ, ◌+◌, ◌*◌}
use mathlib.Core.Bool.{Bool}
use mathlib.Core.List.{[]}
use borrow.Author.Rules.{rules}
use borrow.Author.Tests.{le-leb, lt-leb}
use Rattle.spec_file.specs.Image.{layout_of}
use Rattle.law_file.proofs.Tests.{was-no, was-yes}
use Rattle.spec_range.specs.Ranges.{ranges_allowed, list_holds}
use Rattle.spec_moves.specs.Moves.{Pair}
use Rattle.spec_growth.specs.Growth.{old_key, pair_number}
use Rattle.header_layout.specs.Shapes.{Open}
use Rattle.table_search.proofs.Headers.{header, layout-key, layout-slots}
use Rattle.growth_open.proofs.Pairs.{PairOpen, pair-open}
use Rattle.call_grow_select.proofs.Numbers.{grow-closed, grow-22, grow-16, grow-0}
use Rattle.call_grow_select.proofs.select_pair_number.Statement.{statement}
use Rattle.call_grow_select.proofs.select_pair_number.Tie as tie

-- ---- the stages
abbrev pair : tie.Start → Pair
pair S = record { old = S.args.old.now; new = S.args.new.now }

abbrev start : tie.Else-number-ne0 → tie.Start
start c = c.before.before.before.before.before.before

-- questions 1, 5, 6 and 21 are answered yes
accepted : (c : tie.Else-number-ne0) → pair_number (pair (start c)) [] ≡ 0
accepted c = sym c.pair_number-number.ensures ∙ c.if-number-ne0.false

both-open : (c : tie.Else-number-ne0) → PairOpen (pair (start c))
both-open c = pair-open (pair (start c)) (accepted c)

old-open : (c : tie.After-read_shape-shape) → Open (pair (start c.before)).old c.read_shape-shape.result
old-open c = record { accepted = (both-open c.before).first; shape = c.read_shape-shape.ensures }

-- the layout's numbers are the shape's
asks : (c : tie.After-read_shape-shape) {b : Bool}
    → let A = (start c.before).args in
    ranges_allowed c.read_shape-shape.result.keylen A.lowest.now A.highest.now ≡ b
    → ranges_allowed (old_key (pair (start c.before))) A.lowest.now A.highest.now ≡ b
asks c h =
    let A = (start c.before).args in
    ap (λ (k : ℕ). ranges_allowed k A.lowest.now A.highest.now)
    (layout-key A.old.now c.read_shape-shape.result c.read_shape-shape.ensures) ∙ h

abbrev shape-at-else2 : tie.Else-not-ranges_allowed → tie.After-read_shape-shape
shape-at-else2 c = c.before.before

abbrev start-at-else2 : tie.Else-not-ranges_allowed → tie.Start
start-at-else2 c = c.before.before.before.before.before.before.before.before.before

new-open : (c : tie.After-read_shape-larger) → Open (pair (start-at-else2 c.before)).new c.read_shape-larger.result
new-open c =
    record { accepted = (both-open (shape-at-else2 c.before).before).second; shape = c.read_shape-larger.ensures }

-- both N, and that they are small
abbrev slots : tie.After-read_shape-larger → ℕ
slots c = (shape-at-else2 c.before).read_shape-shape.result.slots + c.read_shape-larger.result.slots

slots-are : (c : tie.After-read_shape-larger)
    → (layout_of (pair (start-at-else2 c.before)).old).N + (layout_of (pair (start-at-else2 c.before)).new).N
    ≡ slots c
slots-are c =
    let A = (start-at-else2 c.before).args in
    let R = (shape-at-else2 c.before).read_shape-shape in
    omega (
      arith,
      layout-slots A.old.now R.result R.ensures,
      layout-slots A.new.now c.read_shape-larger.result c.read_shape-larger.ensures,
    )

-- ---- the needs
pair-number-requires : tie.Need-pair_number-number-requires
pair-number-requires c κs = search rules

returns : tie.Need-returns-then-number-ne0
returns c =
    let S = c.before.before.before.before.before.before in
    let e = c.pair_number-number.ensures in
    e ∙ sym (grow-closed (pair S) S.args.lowest.now S.args.highest.now S.args.size
    (λ z. c.if-number-ne0.true (e ∙ z)))

read-shape-requires : tie.Need-read_shape-shape-requires
read-shape-requires c κs = (both-open c).first

ranges-allowed-requires : tie.Need-ranges_allowed-requires
ranges-allowed-requires c κs = search rules

returns-2 : tie.Need-returns-then-not-ranges_allowed
returns-2 c =
    let P = c.before.before in
    let S = start c.before.before.before in
    sym
    (grow-22 (pair S) S.args.lowest.now S.args.highest.now S.args.size (accepted c.before.before.before)
    (asks P (was-no c.ranges_allowed.ensures c.if-not-ranges_allowed.true)))

read-shape-requires-2 : tie.Need-read_shape-larger-requires
read-shape-requires-2 c κs = (both-open (shape-at-else2 c).before).second

add-if3 : tie.Need-overflow_add-shape
add-if3 c =
    let Q = c.before.before in
    let P = shape-at-else2 c.before.before.before in
    let A = (start P.before).args in
    omega (
      arith,
      (header A.old.now P.read_shape-shape.result (old-open P)).slots-high,
      (header A.new.now Q.read_shape-larger.result (new-open Q)).slots-high,
    )

mul-if3 : tie.Need-overflow_mul-shape
mul-if3 c =
    let Q = c.before.before in
    let P = shape-at-else2 c.before.before.before in
    let A = (start P.before).args in
    omega (
      arith,
      (header A.old.now P.read_shape-shape.result (old-open P)).slots-high,
      (header A.new.now Q.read_shape-larger.result (new-open Q)).slots-high,
    )

returns-3 : tie.Need-returns-then-size-shape
returns-3 c =
    let Q = c.before.before.before in
    let E = c.before.before.before.before in
    let P = shape-at-else2 E in
    let S = start P.before in
    let N = (layout_of (pair S).old).N + (layout_of (pair S).new).N in
    sym
    (grow-16 (pair S) S.args.lowest.now S.args.highest.now S.args.size (accepted P.before)
    (asks P (was-yes E.ranges_allowed.ensures E.if-not-ranges_allowed.false))
    (unfold list_holds in lt-leb (4 * N) S.args.size (omega (arith, slots-are Q, c.if-size-shape.true))))

returns-4 : tie.Need-returns
returns-4 c =
    let Q = c.before.before.before in
    let E = c.before.before.before.before in
    let P = shape-at-else2 E in
    let S = start P.before in
    let N = (layout_of (pair S).old).N + (layout_of (pair S).new).N in
    sym
    (grow-0 (pair S) S.args.lowest.now S.args.highest.now S.args.size (accepted P.before)
    (asks P (was-yes E.ranges_allowed.ensures E.if-not-ranges_allowed.false))
    (unfold list_holds in le-leb (4 * N) S.args.size (omega (arith, slots-are Q, c.if-size-shape.false))))

pub select_pair_number_spec : {M : Type 1} → statement M
select_pair_number_spec =
    tie.close
    (tie.spec
    pair-number-requires
    returns
    read-shape-requires
    ranges-allowed-requires
    returns-2
    read-shape-requires-2
    add-if3
    mul-if3
    returns-3
    returns-4)
