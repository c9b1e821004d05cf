-- Questions 1, 5 and 6, then 22 and 16: each that is passed over was answered yes. Assumes nothing.
use native.Mathlib.Omega.{arith}
use mathlib.Core.Path.{◌≡◌, sym, ap, ◌∙◌}
use Prim.Native.Nat.{ℕ, ◌*◌}
use mathlib.Core.Bool.{Bool}
use borrow.Author.Rules.{rules}
use borrow.Author.Tests.{le-leb, lt-leb}
use Rattle.spec_file.specs.Image.{layout_of}
use Rattle.spec_file.specs.Questions.{open_number}
use Rattle.law_file.proofs.Opened.{opened-facts}
use Rattle.law_file.proofs.Tests.{was-no, was-yes}
use Rattle.spec_range.specs.Ranges.{ranges_allowed, list_holds}
use Rattle.law_range.proofs.Number.{select-closed, select-22, select-16, select-0}
use Rattle.header_layout.specs.Shapes.{Open}
use Rattle.table_search.proofs.Headers.{header, layout-key, layout-slots}
use Rattle.call_select.proofs.select_number.Statement.{statement}
use Rattle.call_select.proofs.select_number.Tie as tie

-- ---- the stages: the start, and the opening's number, seen from the shape
abbrev start : tie.After-read_shape-shape → tie.Start
start c = c.before.before.before.before.before.before

-- questions 1, 5 and 6 are answered yes
accepted : (c : tie.After-read_shape-shape) → open_number (start c).args.image.now ≡ 0
accepted c = sym c.open_number-opened.ensures ∙ c.if-opened-ne0.false

opened : (c : tie.After-read_shape-shape) → Open (start c).args.image.now c.read_shape-shape.result
opened c = record { accepted = accepted c; shape = c.read_shape-shape.ensures }

-- the layout's numbers are the shape's
asks : (c : tie.After-read_shape-shape) {b : Bool}
    → ranges_allowed c.read_shape-shape.result.keylen (start c).args.lowest.now (start c).args.highest.now ≡ b
    → ranges_allowed (layout_of (start c).args.image.now).K (start c).args.lowest.now (start c).args.highest.now
    ≡ b
asks c h =
    let A = (start c).args in
    ap (λ (k : ℕ). ranges_allowed k A.lowest.now A.highest.now)
    (layout-key A.image.now c.read_shape-shape.result c.read_shape-shape.ensures) ∙ h

slots : (c : tie.After-read_shape-shape) → (layout_of (start c).args.image.now).N ≡ c.read_shape-shape.result.slots
slots c = layout-slots (start c).args.image.now c.read_shape-shape.result c.read_shape-shape.ensures

open-number-requires : tie.Need-open_number-opened-requires
open-number-requires c κs = search rules

returns : tie.Need-returns-then-opened-ne0
returns c =
    let N = c in
    let A = N.args in
    let e = N.open_number-opened.ensures in
    e ∙ sym (select-closed A.image.now A.lowest.now A.highest.now A.size (λ z. c.if-opened-ne0.true (e ∙ z)))

read-shape-requires : tie.Need-read_shape-shape-requires
read-shape-requires c κs =
    sym c.open_number-opened.ensures ∙ c.if-opened-ne0.false

ranges-allowed-requires : tie.Need-ranges_allowed-requires
ranges-allowed-requires c κs = search rules

returns-2 : tie.Need-returns-then-not-ranges_allowed
returns-2 c =
    let P = c.before.before in
    let A = (start P).args in
    sym
    (select-22 A.image.now A.lowest.now A.highest.now A.size (accepted P)
    (asks P (was-no c.ranges_allowed.ensures c.if-not-ranges_allowed.true)))

mul-if3 : tie.Need-overflow_mul-shape
mul-if3 c =
    let P = c.before.before.before in
    omega (arith, (header (start P).args.image.now P.read_shape-shape.result (opened P)).slots-high)

returns-3 : tie.Need-returns-then-size-shape
returns-3 c =
    let R = c in
    let P = c.before.before.before.before in
    let A = (start P).args in
    sym
    (select-16 A.image.now A.lowest.now A.highest.now A.size (accepted P)
    (asks P (was-yes R.ranges_allowed.ensures c.if-not-ranges_allowed.false))
    (unfold list_holds in lt-leb (4 * (layout_of A.image.now).N) A.size (omega (arith, slots P, c.if-size-shape.true))))

returns-4 : tie.Need-returns
returns-4 c =
    let R = c in
    let P = c.before.before.before.before in
    let A = (start P).args in
    sym
    (select-0 A.image.now A.lowest.now A.highest.now A.size (accepted P)
    (asks P (was-yes R.ranges_allowed.ensures c.if-not-ranges_allowed.false))
    (unfold list_holds in le-leb (4 * (layout_of A.image.now).N) A.size (omega (arith, slots P, c.if-size-shape.false))))

pub select_number_spec : {M : Type 1} → statement M
select_number_spec =
    tie.close
    (tie.spec
    open-number-requires
    returns
    read-shape-requires
    ranges-allowed-requires
    returns-2
    mul-if3
    returns-3
    returns-4)
