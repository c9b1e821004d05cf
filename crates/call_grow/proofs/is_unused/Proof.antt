-- C and X of a sound image. Assumes nothing.
use native.Mathlib.Omega.{arith}
use mathlib.Core.Path.{◌≡◌, ap, ap₂, ◌∙◌}
use Prim.Native.Nat.{ℕ}
use mathlib.Core.Bool.{Bool, true, ◌&&◌}
use lib.Dec.{eqb}
use borrow.Author.Rules.{rules}
use Rattle.spec_file.specs.Bytes.{Bytes}
use Rattle.spec_file.specs.Inspect.{check}
use Rattle.spec_file.specs.Questions.{open_number}
use Rattle.spec_compaction.specs.Compact.{is_sound}
use Rattle.law_file.proofs.Tests.{was-no, was-yes}
use Rattle.law_file.proofs.Opened.{opened-facts}
use Rattle.header_layout.proofs.Shaped.{shape-area}
use Rattle.call_grow.proofs.Starting.{sound-open, unused-no, unused-is}
use Rattle.call_grow.proofs.is_unused.Statement.{statement}
use Rattle.call_grow.proofs.is_unused.Tie as tie

abbrev new-at : tie.Else-not-is_sound → Bytes
new-at c = c.args.new.now

is-sound : (c : tie.Else-not-is_sound) → is_sound (check (new-at c)) ≡ true
is-sound c = was-yes c.is_sound.ensures c.if-not-is_sound.false

is_open : (c : tie.Else-not-is_sound) → open_number (new-at c) ≡ 0
is_open c = sound-open (new-at c) (is-sound c)

is-sound-requires : tie.Need-is_sound-requires
is-sound-requires c κs = search rules

returns : tie.Need-returns-then-not-is_sound
returns c =
    unused-no c.args.new.now (was-no c.is_sound.ensures c.if-not-is_sound.true)

read-shape-requires : tie.Need-read_shape-requires
read-shape-requires c κs = is_open c

read-u32-requires : tie.Need-read_u32-requires
read-u32-requires c κs =
    let E = c.before.before in
    omega (arith, (opened-facts (new-at E) (is_open E)).size_low)

read-u32-requires-2 : tie.Need-read_u32-requires-2
read-u32-requires-2 c κs =
    let E = c.before.before.before in
    omega (arith, (opened-facts (new-at E) (is_open E)).size_low)

cast-result : tie.Need-overflow_cast-result
cast-result c = search rules

at-requires : tie.Need-at-requires
at-requires c κs = search rules

returns-2 : tie.Need-returns
returns-2 c =
    let X = c in
    let C = c in
    let R = c in
    let E = c.before.before.before.before.before in
    let new = new-at E in
    let area = shape-area (record { accepted = is_open E; shape = R.read_shape.ensures }) in
    ap₂ (λ (a b : Bool). a && b)
    (ap (λ (x : ℕ). eqb x 0) C.read_u32.ensures)
    (ap₂ (λ (x y : ℕ). eqb x y) X.read_u32-2.ensures (c.at.ensures ∙ area))
    ∙ unused-is new (is-sound E)

pub is_unused_spec : {M : Type 1} → statement M
is_unused_spec =
    tie.close
    (tie.spec
    is-sound-requires
    returns
    read-shape-requires
    read-u32-requires
    read-u32-requires-2
    cast-result
    at-requires
    returns-2)
