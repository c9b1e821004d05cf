-- Each test that ends the count answers 0; behind them all the message counts. Assumes nothing.
use borrow.Author.Rules.{rules}
use native.Mathlib.Omega.{arith}
use mathlib.Core.Path.{◌≡◌, refl, sym, ap, ap₂, ◌∙◌}
use Prim.Native.Nat.{ℕ, ◌+◌, ◌<◌, ◌≤◌}
use lib.ListN.{length, get_or}
use Rattle.spec_file.specs.Bytes.{Bytes}
use Rattle.spec_file.specs.Limits.{most_image, free_field, data_field, table_start}
use Rattle.spec_file.specs.Image.{field, layout_of}
use Rattle.spec_file.specs.Messages.{head_size, length_at, retire}
use Rattle.law_file.proofs.Opened.{Opened, opened-facts}
use Rattle.law_file.proofs.Effects.{area-above}
use Rattle.header_layout.proofs.Shaped.{shape-area, area-field, shape-head, head-range}
use Rattle.growth_space.proofs.Retired.{length-small, here-low, here-high, here-other, here-named, here-long, here-counts}
use Rattle.growth_space.proofs.active_here.Statement.{statement}
use Rattle.growth_space.proofs.active_here.Tie as tie

abbrev start : tie.After-at → tie.Start
start c = c.before.before.before.before

abbrev start₁ : tie.Else-at → tie.Start
start₁ c = c.before.before.before.before.before

abbrev img : tie.Start → Bytes
img c = c.args.image.now

facts : (c : tie.Start) → Opened (img c)
facts c = opened-facts (img c) c.requires.0.opened.accepted

-- the offset, and where the data area begins
at-is : (c : tie.After-at) → c.at-at.result ≡ (start c).args.o.0
at-is c = c.at-at.ensures

area-is : (c : tie.After-at) → c.at.result ≡ (layout_of (img (start c))).D
area-is c = c.at.ensures ∙ shape-area (start c).requires.0.opened

at-requires : tie.Need-at-at-requires
at-requires c κs = search rules

at-requires-2 : tie.Need-at-requires
at-requires-2 c κs = search rules

returns : tie.Need-returns-then-at
returns c =
    let S = start c.before in
    sym (here-low (img S) (facts S) S.args.named.0 S.requires.0.sound S.args.o.0
    (omega (arith, at-is c.before, area-is c.before, c.if-at.true)))

-- the numbers that every test goes by
record Known (c : tie.Start) : Type 0 where
  free-is : c.args.free ≡ field (img c) free_field
  free-low : table_start ≤ c.args.free
  free-high : c.args.free ≤ length (img c)
  size : length (img c) ≤ most_image
  head-is : c.args.shape.head ≡ head_size (layout_of (img c))
  head-low : 4 ≤ c.args.shape.head
  head-high : c.args.shape.head ≤ 5

known : (c : tie.Start) → Known c
known c =
    let f = facts c in
    let e = c.requires.1 in
    let h = head-range c.requires.0.opened in
    record {
      free-is = e;
      free-low = omega (arith, e, f.free-low, area-above (img c) f);
      free-high = omega (arith, e, f.free-high);
      size = f.size-high;
      head-is = shape-head c.requires.0.opened;
      head-low = h.0;
      head-high = h.1;
    }

sub-if2 : tie.Need-overflow_sub-free
sub-if2 c = omega (arith, known (start₁ c.before))

returns-2 : tie.Need-returns-then-free-shape
returns-2 c =
    let E = c.before.before in
    let S = start₁ E in
    sym (here-high (img S) (facts S) S.args.named.0 S.requires.0.sound S.args.o.0
    (omega (arith, at-is c.before.before.before, c.if-free-shape.true, known S)))

-- the header lies in the image, above the table
record Within (c : tie.Start) : Type 0 where
  low : (layout_of (img c)).D ≤ c.args.o.0
  some : 0 < c.args.o.0
  fits : c.args.o.0 + c.args.shape.head ≤ c.args.free

within : (c : tie.Else-free-shape) → Within (start₁ c.before.before)
within c =
    let E = c.before.before in
    let S = start₁ E in
    let a = at-is c.before.before.before in
    let d = area-is c.before.before.before in
    let f = known S in
    record {
      low = omega (arith, a, d, E.if-at.false);
      some =
          omega (
            arith,
            a,
            E.if-at.false,
            E.at.ensures,
            area-field S.requires.0.opened,
            area-above (img S) (facts S),
          );
      fits = omega (arith, a, c.if-free-shape.false, f);
    }

shared-slice-read-if3 : tie.Need-bounds-image-at
shared-slice-read-if3 c =
    let E = c.before.before.before in
    omega (arith, at-is c.before.before.before.before, within c.before, known (start₁ E))

-- the letter is that of the offset
letter-is : (c : tie.After-at)
    → get_or (img (start c)) c.at-at.result 0 ≡ get_or (img (start c)) (start c).args.o.0 0
letter-is c = ap (λ (k : ℕ). get_or (img (start c)) k 0) (at-is c)

returns-3 : tie.Need-returns-then-image-at-ne97
returns-3 c =
    let F = c.before.before in
    let E = c.before.before.before.before in
    let S = start₁ E in
    let w = within F in
    sym (here-other (img S) (facts S) S.args.named.0 S.requires.0.sound S.args.o.0 w.some
    (omega (arith, w, known S)) (λ q. c.if-image-at-ne97.true (letter-is c.before.before.before.before.before ∙ q)))

at-requires-3 : tie.Need-at-requires-2
at-requires-3 c κs = search rules

abbrev else1 : tie.After-at-2 → tie.Else-at
else1 c = c.before.before.before.before.before

returns-4 : tie.Need-returns-then-at-2
returns-4 c =
    let T = c.before in
    let E = else1 T in
    let S = start₁ E in
    sym (here-named (img S) (facts S) S.args.named.0 S.requires.0.sound S.args.o.0
    (sym (at-is E.before) ∙ c.if-at-2.true ∙ T.at-2.ensures))

length-beside-requires : tie.Need-length_beside-requires
length-beside-requires c κs =
    let T = c.before in
    let S = start₁ (else1 T) in
    (S.requires.0, omega (arith, within c.before.before.before.before, known S))

add-bytes : tie.Need-overflow_add-bytes
add-bytes c =
    let T = c.before.before.before in
    let F = c.before.before.before.before.before.before in
    let S = start₁ (else1 T) in
    omega (
      arith,
      known S,
      c.length_beside.ensures,
      length-small (img S) (facts S) S.args.named.0 S.requires.0.sound
          (λ i. omega (arith, T.shared_slice_known-2-1.given i)) S.args.o.0
          (omega (arith, within F, known S)),
    )

sub-if5 : tie.Need-overflow_sub-free-2
sub-if5 c = search rules

returns-5 : tie.Need-returns-then-free-at
returns-5 c =
    let T = c.before.before.before.before in
    let E = else1 T in
    let S = start₁ E in
    sym (here-long (img S) (facts S) S.args.named.0 S.requires.0.sound S.args.o.0
    (omega (
      arith,
      at-is E.before,
      within c.before.before.before.before.before.before.before,
      known S,
      c.length_beside.ensures,
      c.if-free-at.true,
    )))

returns-6 : tie.Need-returns
returns-6 c =
    let T = c.before.before.before.before in
    let E = else1 T in
    let S = start₁ E in
    let w = within c.before.before.before.before.before.before.before in
    let f = known S in
    let m = c.length_beside.ensures in
    ap₂ ◌+◌ f.head-is m
    ∙ sym (here-counts (img S) (facts S) S.args.named.0 S.requires.0.sound S.args.o.0 w.some w.low
    (omega (arith, w, f)) (sym (letter-is E.before) ∙ T.if-image-at-ne97.false)
    (λ q. c.if-at-2.false (at-is E.before ∙ q ∙ sym T.at-2.ensures))
    (omega (arith, at-is E.before, w, f, m, c.if-free-at.false)))

pub active_here_spec : {M : Type 1} → statement M
active_here_spec =
    tie.close
    (tie.spec
    at-requires
    at-requires-2
    returns
    sub-if2
    returns-2
    shared-slice-read-if3
    returns-3
    at-requires-3
    returns-4
    length-beside-requires
    add-bytes
    sub-if5
    returns-5
    returns-6)
