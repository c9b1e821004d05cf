-- Each question in turn; then the choice in both images, and what is shown of the later entry. Assumes nothing.
use native.Mathlib.Omega.{arith}
use mathlib.Core.Path.{◌≡◌, refl, sym, ap, ◌∙◌}
use Prim.Native.Nat.{◌≤◌}
use mathlib.Core.Bool.{true}
use mathlib.Core.List.{[]}
use borrow.Author.Rules.{rules}
use Rattle.spec_file.specs.Bytes.{Bytes}
use Rattle.spec_file.specs.Image.{layout_of}
use Rattle.spec_epoch.specs.Epochs.{key_dated, prism_allowed}
use Rattle.spec_moves.specs.Moves.{Pair}
use Rattle.spec_growth.specs.Growth.{old_key, pair_number, dated_in_new}
use Rattle.header_layout.specs.Shapes.{Open}
use Rattle.table_search.specs.Probes.{probe_of}
use Rattle.table_search.proofs.Headers.{layout-key, layout-slots}
use Rattle.growth_open.proofs.Pairs.{PairOpen, pair-open}
use Rattle.call_at_epoch.proofs.Showing.{key-short, key-long, name-other, name-is, chosen-within}
use Rattle.call_grow_at_epoch.proofs.Choosing.{dated-stop, dated-23, dated-7, later-is, dates-refused, dates-old, dates-new}
use Rattle.call_grow_at_epoch.proofs.locate_pair_at.Statement.{statement}
use Rattle.call_grow_at_epoch.proofs.locate_pair_at.Tie as tie

-- ---- the stages
abbrev pair : tie.Start → Pair
pair S = record { old = S.args.old.now; new = S.args.new.now }

abbrev start : tie.Else-number-ne0 → tie.Start
start c = c.before.before.before.before.before

abbrev name : tie.Else-number-ne0 → Bytes
name c = (start c).args.name.now

-- questions 1, 5, 6 and 21 are answered yes
accepted : (c : tie.Else-number-ne0) → pair_number (pair (start c)) [] ≡ 0
accepted c = sym c.pair_number-number.ensures ∙ c.if-number-ne0.false

both-open : (c : tie.Else-number-ne0) → PairOpen (pair (start c))
both-open c = pair-open (pair (start c)) (accepted c)

old-open : (c : tie.After-read_shape-shape) → Open (pair (start c.before)).old c.read_shape-shape.result
old-open c = record { accepted = (both-open c.before).first; shape = c.read_shape-shape.ensures }

-- so are 23 and 7
abbrev shape-at-else3 : tie.Else-name-size → tie.After-read_shape-shape
shape-at-else3 c = c.before.before

abbrev else1-at-else3 : tie.Else-name-size → tie.Else-number-ne0
else1-at-else3 c = c.before.before.before

dated : (c : tie.Else-name-size) → key_dated (old_key (pair (start (else1-at-else3 c)))) ≡ true
dated c =
    let E = else1-at-else3 c in
    let s = (shape-at-else3 c).read_shape-shape in
    key-long (pair (start E)).old (name E) s.result s.ensures c.if-size-lt-LEAST_KEY.false

allowed : (c : tie.Else-name-size) → prism_allowed (old_key (pair (start (else1-at-else3 c)))) (name (else1-at-else3 c)) ≡ true
allowed c =
    let E = else1-at-else3 c in
    let s = (shape-at-else3 c).read_shape-shape in
    name-is (pair (start E)).old (name E) s.result s.ensures c.if-name-size.false

new-open : (c : tie.After-read_shape-larger) → Open (pair (start (else1-at-else3 c.before))).new c.read_shape-larger.result
new-open c =
    record { accepted = (both-open (else1-at-else3 c.before)).second; shape = c.read_shape-larger.ensures }

-- both choices
abbrev shape2-at-choose2 : tie.After-choose-second → tie.After-read_shape-larger
shape2-at-choose2 c = c.before.before

abbrev else1-at-choose2 : tie.After-choose-second → tie.Else-number-ne0
else1-at-choose2 c = c.before.before.before.before.before.before

in-new : (c : tie.After-is_later)
    → let E = else1-at-choose2 c.before in
    c.is_later.result ≡ dated_in_new (pair (start E)) (name E) (start E).args.t
in-new c =
    let P = c.before in
    let E = else1-at-choose2 P in
    c.is_later.ensures
    ∙ later-is (pair (start E)) (name E) (start E).args.t _ _ P.choose-first.ensures P.choose-second.ensures

-- ---- the needs
pair-number-requires : tie.Need-pair_number-number-requires
pair-number-requires c κs = search rules

refused-requires : tie.Need-refused-dated-requires
refused-requires c κs = search rules

returns : tie.Need-returns-then-number-ne0
returns c =
    let T = c in
    let N = T.pair_number-number in
    let S = c.before.before.before.before.before.before in
    dates-refused (pair S) S.args.name.now S.args.t _ N.result
    (dated-stop (pair S) S.args.name.now (λ z. T.if-number-ne0.true (N.ensures ∙ z)) ∙ sym N.ensures)
    T.if-number-ne0.true c.refused-dated.ensures

read-shape-requires : tie.Need-read_shape-shape-requires
read-shape-requires c κs = (both-open c).first

refused-requires-2 : tie.Need-refused-dated-requires-then-size-lt-LEAST_KEY
refused-requires-2 c κs = search rules

returns-2 : tie.Need-returns-then-size-lt-LEAST_KEY
returns-2 c =
    let R = c in
    let E = c.before.before.before in
    let s = R.read_shape-shape in
    dates-refused (pair (start E)) (name E) (start E).args.t _ 23
    (dated-23 (pair (start E)) (name E) (accepted E)
    (key-short (pair (start E)).old (name E) s.result s.ensures c.if-size-lt-LEAST_KEY.true))
    (λ z. omega arith) c.refused-dated-then-size-lt-LEAST_KEY.ensures

add-if3 : tie.Need-overflow_add-name
add-if3 c = search rules

refused-requires-3 : tie.Need-refused-dated-requires-then-name-size
refused-requires-3 c κs = search rules

returns-3 : tie.Need-returns-then-name-size
returns-3 c =
    let L = c in
    let R = c in
    let E = c.before.before.before.before in
    let s = R.read_shape-shape in
    let old = (pair (start E)).old in
    dates-refused (pair (start E)) (name E) (start E).args.t _ 7
    (dated-7 (pair (start E)) (name E) (accepted E) (key-long old (name E) s.result s.ensures L.if-size-lt-LEAST_KEY.false)
    (name-other old (name E) s.result s.ensures L.if-size-lt-LEAST_KEY.false c.if-name-size.true))
    (λ z. omega arith) c.refused-dated-then-name-size.ensures

read-shape-requires-2 : tie.Need-read_shape-larger-requires
read-shape-requires-2 c κs = (both-open (else1-at-else3 c)).second

choose-requires : tie.Need-choose-first-requires
choose-requires c κs = record { opened = old-open (shape-at-else3 c.before); size = c.if-name-size.false }

choose-requires-2 : tie.Need-choose-second-requires
choose-requires-2 c κs =
    let R = c.before in
    let F = c.before.before in
    let E = else1-at-else3 F in
    let s = (shape-at-else3 F).read_shape-shape in
    let S = pair (start E) in
    record {
      opened = new-open R;
      size =
          F.if-name-size.false ∙ sym (layout-key S.old s.result s.ensures) ∙ sym (both-open E).key-is
          ∙ layout-key S.new R.read_shape-larger.result R.read_shape-larger.ensures;
    }

is-later-requires : tie.Need-is_later-requires
is-later-requires c κs = search rules

show-requires : tie.Need-show-dated-requires
show-requires c κs =
    let P = c.before.before in
    let R = shape2-at-choose2 P in
    let E = else1-at-choose2 P in
    let s = R.read_shape-larger in
    record {
      opened = new-open R;
      within =
          chosen-within (pair (start E)).new (name E) (start E).args.t s.result.slots
          (layout-slots (pair (start E)).new s.result s.ensures) (probe_of P.choose-second.result.found)
          P.choose-second.ensures.found;
      kept = P.choose-second.ensures.kept;
    }

returns-4 : tie.Need-returns-then-is_later
returns-4 c =
    let T = c in
    let P = c.before.before.before in
    let F = (shape2-at-choose2 P).before in
    let E = else1-at-else3 F in
    dates-new (pair (start E)) (name E) (start E).args.t _ (accepted E) (dated F) (allowed F)
    (probe_of P.choose-second.result.found) (sym (in-new c.before.before) ∙ T.if-is_later.true) P.choose-second.ensures.found
    c.show-dated.ensures refl

show-requires-2 : tie.Need-show-dated-requires-2
show-requires-2 c κs =
    let P = c.before.before in
    let R = shape-at-else3 (shape2-at-choose2 P).before in
    let E = R.before in
    let s = R.read_shape-shape in
    let D = P.choose-first in
    record {
      opened = old-open R;
      within =
          chosen-within (pair (start E)).old (name E) (start E).args.t s.result.slots
          (layout-slots (pair (start E)).old s.result s.ensures) (probe_of D.result.found)
          D.ensures.found;
      kept = D.ensures.kept;
    }

returns-5 : tie.Need-returns
returns-5 c =
    let T = c in
    let P = c.before.before.before in
    let F = (shape2-at-choose2 P).before in
    let E = else1-at-else3 F in
    let D = P.choose-first in
    dates-old (pair (start E)) (name E) (start E).args.t _ (accepted E) (dated F) (allowed F)
    (probe_of D.result.found) (sym (in-new c.before.before) ∙ T.if-is_later.false) D.ensures.found
    c.show-dated-2.ensures refl

pub locate_pair_at_spec : {M : Type 1} → statement M
locate_pair_at_spec =
    tie.close
    (tie.spec
    pair-number-requires
    refused-requires
    returns
    read-shape-requires
    refused-requires-2
    returns-2
    add-if3
    refused-requires-3
    returns-3
    read-shape-requires-2
    choose-requires
    choose-requires-2
    is-later-requires
    show-requires
    returns-4
    show-requires-2
    returns-5)
