-- The last four bytes of the header, under the mask of its size. Assumes nothing.
use borrow.Author.Rules.{rules}
use native.Mathlib.Omega.{arith}
use Rattle.header_layout.specs.Shapes.{mask_by}
use Rattle.header_layout.proofs.Shaped.{shape-head, head-range}
use Rattle.message_read.proofs.Sound.{length-masked, length-bound}
use mathlib.Core.Path.{◌≡◌, ap, ◌∙◌}
use lib.Bits.{bit_and}
use Rattle.spec_file.specs.Image.{layout_of}
use Rattle.spec_file.specs.Messages.{length_at}
use Rattle.message_read.proofs.length_at.Statement.{statement}
use Rattle.message_read.proofs.length_at.Tie as tie

at-requires : tie.Need-at-requires
at-requires c κs = search rules

sub-read-u32 : tie.Need-overflow_sub-shape
sub-read-u32 c = omega (arith, head-range c.requires.0)

add-read-u32 : tie.Need-overflow_add-at
add-read-u32 c = search rules

read-u32-requires : tie.Need-read_u32-requires
read-u32-requires c κs =
    let S = c in
    omega (arith, head-range S.requires.0, c.at.ensures, S.requires.1)

length-mask-requires : tie.Need-length_mask-requires
length-mask-requires c κs = search rules

masked : (c : tie.After-length_mask)
    → let S : tie.Start = c.before.before.before.before.before in
    bit_and c.read_u32.result c.length_mask.result
    ≡ length_at (layout_of S.args.image.now) S.args.image.now S.args.o.0
masked c =
    let S = c in
    length-masked S.args.image.now S.args.o.0 _ c.length_mask.result c.read_u32.result
    (λ i. omega (arith, c.shared_slice_known-1.given i))
    (omega (arith, S.requires.1, shape-head S.requires.0))
    (omega (arith, c.at.ensures, shape-head S.requires.0))
    (c.length_mask.ensures ∙ ap mask_by (shape-head S.requires.0)) c.read_u32.ensures

cast-result : tie.Need-overflow_cast-result
cast-result c =
    let S = c in
    omega (
      arith,
      masked c,
      length-bound S.args.image.now S.args.o.0
          (λ i. omega (arith, c.shared_slice_known-1.given i))
          (omega (arith, S.requires.1, shape-head S.requires.0)),
    )

returns : tie.Need-returns
returns c = masked c

pub length_at_spec : {M : Type 1} → statement M
length_at_spec =
    tie.close
    (tie.spec
    at-requires
    sub-read-u32
    add-read-u32
    read-u32-requires
    length-mask-requires
    cast-result
    returns)
