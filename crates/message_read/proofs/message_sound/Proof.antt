-- Question 11, test by test: the header is read only where it ends below X. Assumes nothing.
use Prim.Native.Nat.{◌+◌, ◌≤◌, ◌<◌}
use native.Mathlib.Omega.{arith}
use mathlib.Core.Path.{◌≡◌, sym, ◌∙◌}
use lib.ListN.{length}
use borrow.Author.Rules.{rules}
use Rattle.spec_file.specs.Bytes.{Bytes}
use Rattle.spec_file.specs.Image.{field, layout_of}
use Rattle.law_file.proofs.Opened.{opened-facts}
use Rattle.law_file.proofs.Effects.{area-above}
use Rattle.spec_file.specs.Limits.{most_image, free_field}
use Rattle.header_layout.proofs.Shaped.{shape-area, shape-head, head-range}
use Rattle.message_read.proofs.Sound.{length-bound}
use Rattle.message_read.proofs.Sound.{sound_none, sound-low, sound-high, sound-tests}
use Rattle.message_read.proofs.message_sound.Statement.{statement}
use Rattle.message_read.proofs.message_sound.Tie as tie

at-requires : tie.Need-at-at-requires
at-requires c κs = search rules

returns : tie.Need-returns-then-at-eq0
returns c = sym (sound_none _ _ _ (sym c.at-at.ensures ∙ c.if-at-eq0.true))

at-requires-2 : tie.Need-at-requires
at-requires-2 c κs = search rules

abbrev start-at-else1 : tie.Else-at-eq0 → tie.Start
start-at-else1 c = c.before.before.before

-- after the first test there is an offset
some-offset : (c : tie.Else-at-eq0) → 0 < (start-at-else1 c).args.o.0
some-offset c = omega (arith, c.at-at.ensures, c.if-at-eq0.false)

returns-2 : tie.Need-returns-then-at
returns-2 c =
    let E = c.before.before.before in
    let S = c in
    let img = S.args.image.now in
    let d = shape-area S.requires in
    sym (sound-low (layout_of img) img S.args.o.0 (some-offset E)
    (omega (arith, E.at-at.ensures, c.at.ensures, c.if-at.true, d)))

read-u32-requires : tie.Need-read_u32-free-requires
read-u32-requires c κs =
    let S = c in
    omega (arith, (opened-facts _ S.requires.accepted).size_low)

cast-free : tie.Need-overflow_cast-free
cast-free c = search rules

sub-if3 : tie.Need-overflow_sub-free
sub-if3 c =
    let S = start-at-else1 c.before.before.before.before.before in
    let f = opened-facts _ S.requires.accepted in
    omega (arith, head-range S.requires, c.read_u32-free.ensures, area-above _ f, f.free-low)

-- ---- the third test, and what is known behind it
abbrev else1-at-else3 : tie.Else-free-shape → tie.Else-at-eq0
else1-at-else3 c = c.before.before.before.before.before.before

abbrev start : tie.Else-free-shape → tie.Start
start c = c.before.before.before.before.before.before.before.before.before

at-is : (c : tie.Else-free-shape) → (else1-at-else3 c).at-at.result ≡ (start c).args.o.0
at-is c = (else1-at-else3 c).at-at.ensures

returns-3 : tie.Need-returns-then-free-shape
returns-3 c =
    let E = c.before.before.before.before.before.before in
    let S = c in
    let img = S.args.image.now in
    sym (sound-high (layout_of img) img S.args.o.0 (some-offset E)
    (omega (arith, E.at-at.ensures, c.read_u32-free.ensures, c.if-free-shape.true, shape-head S.requires)))

-- the header ends at or below X
header-in : (c : tie.Else-free-shape)
    → let img : Bytes = (start c).args.image.now in
    ((start c).args.o.0 + (start c).args.shape.head ≤ field img free_field) × (field img free_field ≤ length img)
    × (length img ≤ most_image) × ((4 ≤ (start c).args.shape.head) × ((start c).args.shape.head ≤ 5))
header-in c =
    let S = start c in
    let f = opened-facts _ S.requires.accepted in
    let w = head-range S.requires in (
      omega (arith, at-is c, c.read_u32-free.ensures, c.if-free-shape.false, w, area-above _ f, f.free-low),
      f.free-high,
      f.size-high,
      w,
    )

length-at-requires : tie.Need-length_at-m-requires
length-at-requires c κs = ((start c).requires, omega (arith, header-in c))

shared-slice-read-letter : tie.Need-bounds-image-at
shared-slice-read-letter c = omega (arith, at-is c.before.before, header-in c.before.before)

-- ---- the tests of the header
small : (c : tie.After-struct_known-2-1) → c.length_at-m.result < 4294967296
small c =
    let E = c.before.before.before in
    let A = (start E).args in
    omega (
      arith,
      c.length_at-m.ensures,
      length-bound A.image.now A.o.0 (λ i. omega (arith, c.shared_slice_known-2-1.given i))
          (omega (arith, header-in E, shape-head (start E).requires)),
    )

add-result : tie.Need-overflow_add-result
add-result c =
    let E = c.before.before.before in
    omega (arith, at-is E, header-in E)

add-result-2 : tie.Need-overflow_add-result-2
add-result-2 c =
    let E = c.before.before.before in
    omega (arith, small c, at-is E, header-in E)

returns-4 : tie.Need-returns
returns-4 c =
    let E = c.before.before.before in
    let T = c in
    let S = start E in
    let img = S.args.image.now in
    sound-tests (layout_of img) img S.args.o.0 _ S.args.shape.head _ _ (at-is E) (shape-head S.requires)
    (some-offset c.before.before.before.before.before.before.before.before.before)
    (omega (arith, at-is E, T.at.ensures, T.if-at.false, shape-area S.requires))
    (omega (arith, header-in E)) c.length_at-m.ensures E.read_u32-free.ensures

pub message_sound_spec : {M : Type 1} → statement M
message_sound_spec =
    tie.close
    (tie.spec
    at-requires
    returns
    at-requires-2
    returns-2
    read-u32-requires
    cast-free
    sub-if3
    returns-3
    length-at-requires
    shared-slice-read-letter
    add-result
    add-result-2
    returns-4)
