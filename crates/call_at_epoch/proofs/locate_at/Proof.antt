-- `call_at_epoch::locate_at` meets its contract: questions 1, 5, 6, 23 and 7 in turn, then the choice. Assumes nothing.
use native.Mathlib.Omega.{arith}
use mathlib.Core.Path.{◌≡◌, sym, ◌∙◌}
use borrow.Author.Rules.{rules}
use Rattle.spec_file.specs.Bytes.{Bytes}
use Rattle.spec_file.specs.Questions.{open_number}
use Rattle.law_file.proofs.Opened.{opened-facts}
use Rattle.law_epoch.proofs.Answers.{number-closed, number-23, number-7}
use Rattle.header_layout.specs.Shapes.{Open}
use Rattle.table_search.specs.Probes.{probe_of}
use Rattle.table_search.proofs.Headers.{layout-slots}
use Rattle.call_at_epoch.proofs.Showing.{answer-refused, answer-on, chosen-within, key-short, key-long, name-other, name-is}
use Rattle.call_at_epoch.proofs.locate_at.Statement.{statement}
use Rattle.call_at_epoch.proofs.locate_at.Tie as tie

-- ---- what is known after questions 1, 5 and 6, and after the shape is read
abbrev started : tie.Else-number-ne0 → tie.Start
started c = c.before.before.before.before

abbrev img : tie.Else-number-ne0 → Bytes
img c = (started c).args.image.now

abbrev name : tie.Else-number-ne0 → Bytes
name c = (started c).args.name.now

is_open : (c : tie.Else-number-ne0) → open_number (img c) ≡ 0
is_open c = sym c.open_number-number.ensures ∙ c.if-number-ne0.false

-- ---- the needs
open-number-requires : tie.Need-open_number-number-requires
open-number-requires c κs = search rules

refused-requires : tie.Need-refused-requires
refused-requires c κs = search rules

returns : tie.Need-returns-then-number-ne0
returns c =
    let T = c in
    let o = T.open_number-number in
    let A = T.args in
    answer-refused A.image.now A.name.now A.t _ o.result
    (number-closed A.image.now A.name.now A.t (λ q. T.if-number-ne0.true (o.ensures ∙ q)) ∙ sym o.ensures)
    T.if-number-ne0.true c.refused.ensures

read-shape-requires : tie.Need-read_shape-shape-requires
read-shape-requires c κs = is_open c

refused-requires-2 : tie.Need-refused-requires-then-size-lt-LEAST_KEY
refused-requires-2 c κs = search rules

returns-2 : tie.Need-returns-then-size-lt-LEAST_KEY
returns-2 c =
    let R = c in
    let E = c.before.before.before in
    let t = (started E).args.t in
    answer-refused (img E) (name E) t _ 23
    (number-23 (img E) (name E) t (is_open E)
    (key-short (img E) (name E) R.read_shape-shape.result R.read_shape-shape.ensures c.if-size-lt-LEAST_KEY.true))
    (λ z. omega arith) c.refused-then-size-lt-LEAST_KEY.ensures

add-if3 : tie.Need-overflow_add-name
add-if3 c = search rules

refused-requires-3 : tie.Need-refused-requires-then-name-size
refused-requires-3 c κs = search rules

returns-3 : tie.Need-returns-then-name-size
returns-3 c =
    let L = c in
    let R = c in
    let E = c.before.before.before.before in
    let t = (started E).args.t in
    let s = R.read_shape-shape in
    answer-refused (img E) (name E) t _ 7
    (number-7 (img E) (name E) t (is_open E) (key-long (img E) (name E) s.result s.ensures L.if-size-lt-LEAST_KEY.false)
    (name-other (img E) (name E) s.result s.ensures L.if-size-lt-LEAST_KEY.false c.if-name-size.true))
    (λ z. omega arith) c.refused-then-name-size.ensures

is-opened : (c : tie.After-read_shape-shape) → Open (img c.before) c.read_shape-shape.result
is-opened c = record { accepted = is_open c.before; shape = c.read_shape-shape.ensures }

choose-requires : tie.Need-choose-requires
choose-requires c κs = record { opened = is-opened c.before.before; size = c.if-name-size.false }

show-requires : tie.Need-show-requires
show-requires c κs =
    let R = c.before.before.before in
    let E = c.before.before.before.before in
    let s = R.read_shape-shape in
    record {
      opened = is-opened R;
      within =
          chosen-within (img E) (name E) (started E).args.t s.result.slots
          (layout-slots (img E) s.result s.ensures) (probe_of c.choose.result.found)
          c.choose.ensures.found;
      kept = c.choose.ensures.kept;
    }

returns-4 : tie.Need-returns
returns-4 c =
    let H = c in
    let N = c in
    let L = c in
    let R = c in
    let E = c.before.before.before.before.before in
    let s = R.read_shape-shape in
    answer-on (img E) (name E) (started E).args.t _ (is_open E)
    (key-long (img E) (name E) s.result s.ensures L.if-size-lt-LEAST_KEY.false)
    (name-is (img E) (name E) s.result s.ensures N.if-name-size.false)
    (probe_of H.choose.result.found) H.choose.ensures.found c.show.ensures

pub locate_at_spec : {M : Type 1} → statement M
locate_at_spec =
    tie.close
    (tie.spec
    open-number-requires
    refused-requires
    returns
    read-shape-requires
    refused-requires-2
    returns-2
    add-if3
    refused-requires-3
    returns-3
    choose-requires
    show-requires
    returns-4)
