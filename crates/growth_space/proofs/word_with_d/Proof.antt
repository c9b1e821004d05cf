-- The four bytes are copied, and the one is changed in the copy. Assumes nothing.
use borrow.Author.Rules.{rules}
use mathlib.Core.Path.{◌≡◌, ◌∙◌}
use Rattle.spec_file.specs.Limits.{inactive}
use Rattle.growth_space.proofs.Retired.{word_set}
use Rattle.growth_space.proofs.word_with_d.Statement.{statement}
use Rattle.growth_space.proofs.word_with_d.Tie as tie

shared-slice-read-t6 : tie.Need-bounds-image-p
shared-slice-read-t6 c = search rules

add-t7 : tie.Need-overflow_add-four
add-t7 c = search rules

shared-slice-read-t9 : tie.Need-bounds-image-p-2
shared-slice-read-t9 c = search rules

add-t10 : tie.Need-overflow_add-four-2
add-t10 c = search rules

shared-slice-read-t12 : tie.Need-bounds-image-p-3
shared-slice-read-t12 c = search rules

add-t13 : tie.Need-overflow_add-four-3
add-t13 c = search rules

shared-slice-read-t15 : tie.Need-bounds-image-p-4
shared-slice-read-t15 c = search rules

sub-four : tie.Need-overflow_sub-four
sub-four c = search rules

array-write-four : tie.Need-bounds-four-n
array-write-four c = search rules

slice-aggregate-read-u32 : tie.Need-slice_bounds-read_u32-end
slice-aggregate-read-u32 c = search rules

read-u32-requires : tie.Need-read_u32-requires
read-u32-requires c κs = search rules

returns : tie.Need-returns
returns c =
    let S = c in
    c.read_u32.ensures
    ∙ word_set S.args.image.now S.args.p S.args.n inactive S.requires.0 S.requires.1 S.requires.2

pub word_with_d_spec : {M : Type 1} → statement M
word_with_d_spec =
    tie.close
    (tie.spec
    shared-slice-read-t6
    add-t7
    shared-slice-read-t9
    add-t10
    shared-slice-read-t12
    add-t13
    shared-slice-read-t15
    sub-four
    array-write-four
    slice-aggregate-read-u32
    read-u32-requires
    returns)
