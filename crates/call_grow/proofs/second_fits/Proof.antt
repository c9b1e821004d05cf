-- Test by test: those that are passed over hold. Assumes nothing.
use native.Mathlib.Omega.{arith}
use mathlib.Core.Path.{◌≡◌, sym, ap, ap₂, ◌∙◌}
use Prim.Native.Nat.{ℕ, ◌-◌}
use mathlib.Core.Bool.{true}
use lib.ListN.{length}
use lib.Dec.{leb}
use borrow.Author.Rules.{rules}
use borrow.Author.Tests.{lt-ltb, le-ltb}
use Rattle.spec_file.specs.Bytes.{Bytes}
use Rattle.spec_file.specs.Image.{layout_of}
use Rattle.spec_file.specs.Messages.{retire}
use Rattle.spec_file.specs.Questions.{message_sound, open_number}
use Rattle.spec_moves.specs.Moves.{active_space, same_kind, unused}
use Rattle.law_file.proofs.Tests.{was-no, was-yes}
use Rattle.header_layout.specs.Shapes.{Open}
use Rattle.header_layout.proofs.Shaped.{shape-area}
use Rattle.table_search.proofs.Headers.{header, layout-slots}
use Rattle.call_grow.proofs.Starting.{sound-open, unused-sound, unfit-used, unfit-kind, unfit-slots, fit_is, none_named, none-sound}
use Rattle.call_grow.proofs.second_fits.Statement.{statement}
use Rattle.call_grow.proofs.second_fits.Tie as tie

-- ---- the stages
abbrev start : tie.Else-not-is_unused → tie.Start
start c = c.before.before.before.before

is-unused : (c : tie.Else-not-is_unused) → unused (start c).args.new.now ≡ true
is-unused c = was-yes c.is_unused.ensures c.if-not-is_unused.false

new-opens : (c : tie.Else-not-is_unused) → open_number (start c).args.new.now ≡ 0
new-opens c = sound-open (start c).args.new.now (unused-sound (start c).args.new.now (is-unused c))

abbrev else1-at-else2 : tie.Else-not-same_kind → tie.Else-not-is_unused
else1-at-else2 c = c.before.before

abbrev start-at-else2 : tie.Else-not-same_kind → tie.Start
start-at-else2 c = c.before.before.before.before.before.before

same : (c : tie.Else-not-same_kind) → same_kind (start-at-else2 c).args.old.now (start-at-else2 c).args.new.now ≡ true
same c = was-yes c.same_kind.ensures c.if-not-same_kind.false

abbrev else2-at-shape2 : tie.After-read_shape-larger → tie.Else-not-same_kind
else2-at-shape2 c = c.before.before

abbrev start-at-shape2 : tie.After-read_shape-larger → tie.Start
start-at-shape2 c = c.before.before.before.before.before.before.before.before

old-open : (c : tie.After-read_shape-larger) → Open (start-at-shape2 c).args.old.now c.read_shape-shape.result
old-open c = record { accepted = (start-at-shape2 c).requires; shape = c.read_shape-shape.ensures }

new-open : (c : tie.After-read_shape-larger) → Open (start-at-shape2 c).args.new.now c.read_shape-larger.result
new-open c = record { accepted = new-opens (else1-at-else2 (else2-at-shape2 c)); shape = c.read_shape-larger.ensures }

-- ---- the needs
is-unused-requires : tie.Need-is_unused-requires
is-unused-requires c κs = search rules

returns : tie.Need-returns-then-not-is_unused
returns c =
    let A = c.args in
    unfit-used A.old.now A.new.now (was-no c.is_unused.ensures c.if-not-is_unused.true)

same-kind-requires : tie.Need-same_kind-requires
same-kind-requires c κs = ((start c).requires, new-opens c)

returns-2 : tie.Need-returns-then-not-same_kind
returns-2 c =
    let E = c.before.before in
    let A = (start E).args in
    unfit-kind A.old.now A.new.now (is-unused E) (was-no c.same_kind.ensures c.if-not-same_kind.true)

read-shape-requires : tie.Need-read_shape-shape-requires
read-shape-requires c κs = (start-at-else2 c).requires

read-shape-requires-2 : tie.Need-read_shape-larger-requires
read-shape-requires-2 c κs = new-opens (else1-at-else2 c.before)

returns-3 : tie.Need-returns-then-larger-shape
returns-3 c =
    let P = c.before.before.before in
    let F = else2-at-shape2 P in
    let A = (start-at-else2 F).args in
    unfit-slots A.old.now A.new.now (is-unused (else1-at-else2 F)) (same F)
    (le-ltb (layout_of A.old.now).N (layout_of A.new.now).N (omega (
      arith,
      c.if-larger-shape.true,
      layout-slots A.old.now P.read_shape-shape.result P.read_shape-shape.ensures,
      layout-slots A.new.now P.read_shape-larger.result P.read_shape-larger.ensures,
    )))

at-requires : tie.Need-at-requires
at-requires c κs = search rules

abbrev else3-at-at : tie.After-at → tie.Else-larger-shape
else3-at-at c = c.before.before

abbrev shape2-at-at : tie.After-at → tie.After-read_shape-larger
shape2-at-at c = c.before.before.before.before.before

area-is : (c : tie.After-at) → c.at.result ≡ (layout_of (start-at-shape2 (shape2-at-at c)).args.new.now).D
area-is c = c.at.ensures ∙ shape-area (new-open (shape2-at-at c))

sub-room : tie.Need-overflow_sub-room
sub-room c =
    let P = shape2-at-at c in
    omega (arith, c.at.ensures, (header (start-at-shape2 P).args.new.now _ (new-open P)).area)

new-requires : tie.Need-new-requires
new-requires c κs = search rules

active-space-requires : tie.Need-active_space-requires
active-space-requires c κs =
    let P = shape2-at-at c.before in
    let old = (start-at-shape2 P).args.old.now in
    (old-open P, ap (message_sound (layout_of old) old) c.new.ensures ∙ none-sound old)

returns-4 : tie.Need-returns
returns-4 c =
    let N = c in
    let at = c.before.before in
    let P = shape2-at-at at in
    let F = else2-at-shape2 P in
    let A = (start-at-else2 F).args in
    let old = A.old.now in
    let new = A.new.now in
    ap₂ (λ (x y : ℕ). leb x (length new - y))
    (c.active_space.ensures ∙ ap (λ (o : ℕ). active_space (retire old o)) N.new.ensures
    ∙ ap active_space (none_named old))
    (area-is at)
    ∙ fit_is old new (is-unused (else1-at-else2 F)) (same F)
    (lt-ltb (layout_of old).N (layout_of new).N (omega (
      arith,
      (else3-at-at at).if-larger-shape.false,
      layout-slots old P.read_shape-shape.result P.read_shape-shape.ensures,
      layout-slots new P.read_shape-larger.result P.read_shape-larger.ensures,
    )))

pub second_fits_spec : {M : Type 1} → statement M
second_fits_spec =
    tie.close
    (tie.spec
    is-unused-requires
    returns
    same-kind-requires
    returns-2
    read-shape-requires
    read-shape-requires-2
    returns-3
    at-requires
    sub-room
    new-requires
    active-space-requires
    returns-4)
