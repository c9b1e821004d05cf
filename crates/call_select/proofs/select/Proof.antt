-- Questions 1, 5, 6, 22 and 16, then the list is filled. Assumes nothing.
use native.Mathlib.Omega.{arith}
use mathlib.Core.Path.{◌≡◌, sym, ◌∙◌}
use lib.ListN.{length}
use borrow.Author.Rules.{rules}
use Rattle.spec_range.specs.Ranges.{select_number}
use Rattle.law_file.proofs.Opened.{opened-facts}
use Rattle.header_layout.specs.Shapes.{Open}
use Rattle.table_search.proofs.Headers.{header, layout-key, layout-slots}
use Rattle.law_range.proofs.Number.{Accepted, select-accepted, select-refused, select-fills, select-number}
use Rattle.law_range.proofs.Selected.{selected-few}
use Rattle.call_select.proofs.select.Statement.{statement}
use Rattle.call_select.proofs.select.Tie as tie

-- ---- the stages: the start, and what an accepted call says
abbrev start : tie.Else-number-ne0 → tie.Start
start c = c.before.before.before.before.before.before

accepted : (c : tie.Else-number-ne0)
    → let A = (start c).args in
    select_number A.image.now A.lowest.now A.highest.now (length A.list.now) ≡ 0
accepted c = sym c.select_number-number.ensures ∙ c.if-number-ne0.false

granted : (c : tie.Else-number-ne0)
    → let A = (start c).args in
    Accepted A.image.now A.lowest.now A.highest.now (length A.list.now)
granted c =
    let A = (start c).args in
    select-accepted A.image.now A.lowest.now A.highest.now (length A.list.now) (accepted c)

abbrev else-at-shape : tie.After-read_shape → tie.Else-number-ne0
else-at-shape c = c.before.before

opened : (c : tie.After-read_shape) → Open (start (else-at-shape c)).args.image.now c.read_shape.result
opened c = record { accepted = (granted (else-at-shape c)).accepted; shape = c.read_shape.ensures }

-- ---- the needs
select-number-requires : tie.Need-select_number-number-requires
select-number-requires c κs = search rules

returns : tie.Need-returns-then-number-ne0
returns c =
    let N = c in
    let A = N.args in
    let e = N.select_number-number.ensures in
    let r = select-refused A.image.now A.lowest.now A.highest.now A.list.now
    (λ z. c.if-number-ne0.true (e ∙ z)) in (
      e ∙ sym (select-number A.image.now A.lowest.now A.highest.now A.list.now),
      (sym r.0, sym r.1),
    )

asked-positions-requires : tie.Need-asked_positions-asked-requires
asked-positions-requires c κs =
    let f = (granted c).ranges in
    (f.lowest-length ∙ sym f.highest-length, λ p l. f.ordered p (omega (arith, f.lowest-length)))

read-shape-requires : tie.Need-read_shape-requires
read-shape-requires c κs = (granted c.before).accepted

fill-list-requires : tie.Need-fill_list-requires
fill-list-requires c κs =
    let P = c.before in
    let E = else-at-shape P in
    let img = (start E).args.image.now in
    let s = P.read_shape.result in
    let f = granted E in
    let k = layout-key img s P.read_shape.ensures in (
      opened P,
      record {
        lowest-length = f.ranges.lowest-length ∙ k;
        highest-length = f.ranges.highest-length ∙ k;
        asked = P.asked_positions-asked.ensures;
      },
      omega (arith, f.room, layout-slots img s P.read_shape.ensures),
    )

cast-found : tie.Need-overflow_cast-found
cast-found c =
    let F = c in
    let P = c.before.before.before.before in
    let A = (start (else-at-shape P)).args in
    let img = A.image.now in
    omega (
      arith,
      F.fill_list.ensures.0,
      selected-few img A.lowest.now A.highest.now,
      (header img P.read_shape.result (opened P)).slots-high,
      layout-slots img P.read_shape.result P.read_shape.ensures,
    )

same_length : tie.Need-shape_of-list
same_length c = search rules

returns-2 : tie.Need-returns
returns-2 c =
    let F = c in
    let E = else-at-shape c.before.before.before.before in
    let A = (start E).args in
    let r = select-fills A.image.now A.lowest.now A.highest.now A.list.now (accepted E) in (
      sym (select-number A.image.now A.lowest.now A.highest.now A.list.now ∙ accepted E),
      (F.fill_list.ensures.0 ∙ sym r.0, F.fill_list.ensures.1 ∙ sym r.1),
    )

pub select_spec : {M : Type 1} → statement M
select_spec =
    tie.close
    (tie.spec
    select-number-requires
    returns
    asked-positions-requires
    read-shape-requires
    fill-list-requires
    cast-found
    same_length
    returns-2)
