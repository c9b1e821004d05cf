-- The version's first byte is 1 or 2. Assumes nothing.
use borrow.Author.Rules.{rules}
use native.Mathlib.Omega.{arith}
use mathlib.Core.Path.{sym}
use Rattle.spec_file.specs.Image.{major_of}
use Rattle.law_file.proofs.Opened.{opened-facts}
use Rattle.header_layout.proofs.Shaped.{head-major}
use Rattle.header_layout.proofs.shape.head_size.Statement.{statement}
use Rattle.header_layout.proofs.shape.head_size.Tie as tie

sub-result : tie.Need-overflow_sub-result
sub-result c = search rules

shared-slice-read-result : tie.Need-bounds-image-5
shared-slice-read-result c = omega (arith, (opened-facts c.args.image.now c.requires).size_low)

cast-result : tie.Need-overflow_cast-result
cast-result c = omega (arith, c.shared_slice_known-1.given 5)

add-result : tie.Need-overflow_add-result
add-result c = omega (arith, c.shared_slice_known-1.given 5)

returns : tie.Need-returns
unfolding major_of
returns c = sym (head-major c.args.image.now c.requires)

pub head_size_spec : {M : Type 1} → statement M
head_size_spec =
    tie.close
    (tie.spec
    sub-result
    shared-slice-read-result
    cast-result
    add-result
    returns)
