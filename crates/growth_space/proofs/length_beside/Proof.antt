-- The letter does not lie among the length's bytes; it is no "a"; or it is read as "d" there. Assumes nothing.
use borrow.Author.Rules.{rules}
use native.Mathlib.Omega.{arith}
use mathlib.Core.Path.{◌≡◌, refl, sym, ap, ap₂, ◌∙◌}
use Prim.Native.Nat.{ℕ, ◌+◌, ◌-◌, ◌<◌}
use lib.ListN.{length, get_or}
use lib.Bits.{bit_and}
use mathlib.Core.List.{[], ◌∷◌}
use Rattle.spec_file.specs.Bytes.{Bytes, store}
use Rattle.spec_file.specs.Limits.{inactive}
use Rattle.spec_file.specs.Image.{field, layout_of}
use Rattle.spec_file.specs.Messages.{length_at, retire}
use Rattle.law_file.proofs.Opened.{Opened, opened-facts}
use Rattle.header_layout.specs.Shapes.{mask_by}
use Rattle.header_layout.proofs.Shaped.{shape-head, head-range}
use Rattle.growth_space.proofs.Retired.{outside-yes, outside-no, length-same, length-quiet, length_over, length-small}
use Rattle.growth_space.proofs.length_beside.Statement.{statement}
use Rattle.growth_space.proofs.length_beside.Tie as tie

abbrev start : tie.After-struct_known-1 → tie.Start
start c = c.before.before.before.before

abbrev img : tie.Start → Bytes
img c = c.args.image.now

facts : (c : tie.Start) → Opened (img c)
facts c = opened-facts (img c) c.requires.0.opened.accepted

at-requires : tie.Need-at-at-requires
at-requires c κs = search rules

at-requires-2 : tie.Need-at-n-requires
at-requires-2 c κs = search rules

add-if1 : tie.Need-overflow_add-at
add-if1 c = search rules

length-at-requires : tie.Need-length_at-requires
length-at-requires c κs = search rules

-- the two offsets
places : (c : tie.After-struct_known-1)
    → (c.at-at.result ≡ (start c).args.o.0) × (c.at-n.result ≡ (start c).args.named.0)
places c = (c.at-at.ensures, c.at-n.ensures)

returns : tie.Need-returns-then-n-at
returns c =
    let P = c.before.before in
    let S = start P in
    let w = places P in
    let h = shape-head S.requires.0.opened in
    c.length_at.ensures
    ∙ sym (length-same (img S) (facts S) S.args.named.0 S.requires.0.sound S.args.o.0
    (outside-yes _ _ _ _ _ _ w.1 w.0 h c.if-n-at.true))

-- the letter lies behind the offset, in its header
between : (c : tie.Else-n-at)
    → let S : tie.Start = start c.before in
    (S.args.o.0 < S.args.named.0) × (S.args.named.0 < S.args.o.0 + S.args.shape.head)
between c =
    let w = places c.before in
    outside-no _ _ _ _ _ _ w.1 w.0 refl c.if-n-at.false

inside : (c : tie.Else-n-at)
    → let S : tie.Start = start c.before in
    S.args.named.0 < length (img S)
inside c = let S = start c.before in omega (arith, between c, S.requires.1)

shared-slice-read-if2 : tie.Need-bounds-image-n
shared-slice-read-if2 c = omega (arith, inside c.before, places c.before.before)

length-at-requires-2 : tie.Need-length_at-requires-then-image-n-ne97
length-at-requires-2 c κs = search rules

returns-2 : tie.Need-returns-then-image-n-ne97
returns-2 c =
    let E = c.before.before.before in
    let S = start c.before.before.before.before in
    c.length_at-then-image-n-ne97.ensures
    ∙ sym (length-quiet (img S) (facts S) S.args.named.0 S.requires.0.sound (omega (arith, between E)) (inside E)
    S.args.o.0
    (λ q. c.if-image-n-ne97.true (ap (λ (k : ℕ). get_or (img S) k 0) (places c.before.before.before.before).1 ∙ q)))

sub-word-with-d : tie.Need-overflow_sub-shape
sub-word-with-d c =
    let S = start c.before.before.before.before in
    omega (arith, head-range S.requires.0.opened)

add-word-with-d : tie.Need-overflow_add-at-2
add-word-with-d c = search rules

word-with-d-requires : tie.Need-word_with_d-requires
word-with-d-requires c κs =
    let E = c.before.before.before in
    let S = start c.before.before.before.before in
    let w = places c.before.before.before.before in
    let h = head-range S.requires.0.opened in
    let b = between E in
    (omega (arith, w, h, b), omega (arith, w, h, b), omega (arith, w, h, S.requires.1))

length-mask-requires : tie.Need-length_mask-requires
length-mask-requires c κs = search rules

masked : (c : tie.After-length_mask)
    → let S : tie.Start = start c.before.before.before.before.before.before in
    bit_and c.word_with_d.result c.length_mask.result
    ≡ length_at (layout_of (img S)) (retire (img S) S.args.named.0) S.args.o.0
masked c =
    let T = c in
    let E = c.before.before.before.before.before in
    let S = start c.before.before.before.before.before.before in
    let w = places c.before.before.before.before.before.before in
    let h = shape-head S.requires.0.opened in
    let word = c.word_with_d.ensures in
    length_over (img S) (facts S) S.args.named.0 S.requires.0.sound (omega (arith, between E)) (inside E)
    (ap (λ (k : ℕ). get_or (img S) k 0) (sym w.1) ∙ T.if-image-n-ne97.false)
    (λ i. omega (arith, T.shared_slice_known-2-1.given i))
    S.args.o.0 (omega (arith, S.requires.1, h)) (S.args.o.0 + (S.args.shape.head - 4)) _ _
    (ap (λ (k : ℕ). S.args.o.0 + (k - 4)) h) (c.length_mask.ensures ∙ ap mask_by h)
    (word ∙ ap₂ (λ (p q : ℕ). field (store (img S) p (inactive ∷ [])) (q + (S.args.shape.head - 4))) w.1 w.0)

cast-result : tie.Need-overflow_cast-result
cast-result c =
    let T = c in
    let E = c in
    let S = start c.before.before.before.before.before.before in
    let h = shape-head S.requires.0.opened in
    omega (
      arith,
      masked c,
      length-small (img S) (facts S) S.args.named.0 S.requires.0.sound
          (λ i. omega (arith, T.shared_slice_known-2-1.given i)) S.args.o.0 (omega (arith, S.requires.1, h)),
    )

returns-3 : tie.Need-returns
returns-3 c = masked c

pub length_beside_spec : {M : Type 1} → statement M
length_beside_spec =
    tie.close
    (tie.spec
    at-requires
    at-requires-2
    add-if1
    length-at-requires
    returns
    shared-slice-read-if2
    length-at-requires-2
    returns-2
    sub-word-with-d
    add-word-with-d
    word-with-d-requires
    length-mask-requires
    cast-result
    returns-3)
