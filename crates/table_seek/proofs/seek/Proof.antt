-- Each question in turn, then the search. Assumes nothing.
use native.Mathlib.Omega.{arith}
use mathlib.Core.Path.{◌≡◌, sym, ◌∙◌, subst}
use mathlib.Core.Bool.{true}
use borrow.Author.Rules.{rules}
use Rattle.spec_file.specs.Image.{layout_of}
use Rattle.spec_file.specs.Questions.{name_allowed, open_number}
use Rattle.law_file.proofs.Sought.{seek-closed, seek-7, seek-8, seek-0}
use Rattle.table_search.proofs.Taken.{named-no, named-yes, search-within}
use Rattle.table_search.specs.Probes.{Within}
use Rattle.table_seek.specs.Seeks.{SoughtIs}
use Rattle.table_seek.proofs.seek.Statement.{statement}
use Rattle.table_seek.proofs.seek.Tie as tie

abbrev start-at-else1 : tie.Else-number-ne0 → tie.Start
start-at-else1 c = c.before.before.before.before

-- ---- what is known behind each question
opened : (c : tie.Else-number-ne0) → open_number (start-at-else1 c).args.image.now ≡ 0
opened c = sym c.open_number-number.ensures ∙ c.if-number-ne0.false

abbrev start-at-else2 : tie.Else-not-name_allowed → tie.Start
start-at-else2 c = c.before.before.before.before.before.before.before

named : (c : tie.Else-not-name_allowed)
    → name_allowed (layout_of (start-at-else2 c).args.image.now).K (start-at-else2 c).args.key.now ≡ true
named c =
    let R = c.read_shape-shape in
    named-yes (start-at-else2 c).args.image.now (start-at-else2 c).args.key.now R.result R.ensures
    c.name_allowed.ensures c.if-not-name_allowed.false

-- ---- the needs
open-number-requires : tie.Need-open_number-number-requires
open-number-requires c κs = search rules

abbrev start-at-then1 : tie.Then-number-ne0 → tie.Start
start-at-then1 c = c.before.before.before.before

returns : tie.Need-returns-then-number-ne0
unfolding SoughtIs
returns c =
    let A = (start-at-then1 c).args in
    let e = c.open_number-number.ensures in
    let n = c.if-number-ne0.true in
    (e ∙ sym (seek-closed A.image.now A.key.now A.known (λ z. n (e ∙ z))), n)

read-shape-requires : tie.Need-read_shape-shape-requires
read-shape-requires c κs = opened c

name-allowed-requires : tie.Need-name_allowed-requires
name-allowed-requires c κs = search rules

abbrev start-at-then2 : tie.Then-not-name_allowed → tie.Start
start-at-then2 c = c.before.before.before.before.before.before.before

returns-2 : tie.Need-returns-then-not-name_allowed
unfolding SoughtIs
returns-2 c =
    let A = (start-at-then2 c).args in
    let R = c.read_shape-shape in
    let no' =
    named-no A.image.now A.key.now R.result R.ensures c.name_allowed.ensures
    c.if-not-name_allowed.true in
    (sym (seek-7 A.image.now A.key.now A.known (opened c.before.before.before) no'), λ z. omega arith)

abbrev shared-slice-known-at-then3 : tie.Then-not-known → tie.After-shared_slice_known-1
shared-slice-known-at-then3 c = c.before.before.before.before.before.before.before

abbrev start-at-then3 : tie.Then-not-known → tie.Start
start-at-then3 c = c.before.before.before.before.before.before.before.before

abbrev else1-at-then3 : tie.Then-not-known → tie.Else-number-ne0
else1-at-then3 c = c.before.before.before.before

returns-3 : tie.Need-returns-then-not-known
unfolding SoughtIs
returns-3 c =
    let A = (start-at-then3 c).args in (
      sym (seek-8 A.image.now A.key.now A.known (opened (else1-at-then3 c)) (named c.before)
          c.if-not-known.true),
      λ z. omega arith,
    )

abbrev else1-at-else3 : tie.Else-not-known → tie.Else-number-ne0
else1-at-else3 c = c.before.before.before.before

search-requires : tie.Need-search-probed-requires
search-requires c κs =
    record { accepted = opened (else1-at-else3 c); shape = c.read_shape-shape.ensures }

abbrev shared-slice-known2-at-search : tie.After-search-probed → tie.After-shared_slice_known-2-1
shared-slice-known2-at-search c = c.before.before.before.before.before.before.before

abbrev start-at-search : tie.After-search-probed → tie.Start
start-at-search c = c.before.before.before.before.before.before.before.before.before

abbrev else1-at-search : tie.After-search-probed → tie.Else-number-ne0
else1-at-search c = c.before.before.before.before.before

abbrev read-shape-at-search : tie.After-search-probed → tie.After-read_shape-shape
read-shape-at-search c = c.before.before.before.before

returns-4 : tie.Need-returns
unfolding SoughtIs
returns-4 c =
    let A = (start-at-search c).args in
    let o = opened (else1-at-search c) in
    record {
      asked =
          seek-0 A.image.now A.key.now A.known o (named c.before.before)
          c.if-not-known.false;
      opened = record { accepted = o; shape = (read-shape-at-search c).read_shape-shape.ensures };
      ended = c.search-probed.ensures.0;
      within =
          subst (Within _) (sym c.search-probed.ensures.0)
          (search-within A.image.now A.key.now _
          (record { accepted = o; shape = (read-shape-at-search c).read_shape-shape.ensures }));
      counted = c.search-probed.ensures.1;
    }

pub seek_spec : {M : Type 1} → statement M
seek_spec =
    tie.close
    (tie.spec
    open-number-requires
    returns
    read-shape-requires
    name-allowed-requires
    returns-2
    returns-3
    search-requires
    returns-4)
