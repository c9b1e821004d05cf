-- `convert_bare::carry_version` meets its contract: the version's part is lent to `write_version`. Assumes nothing.
use mathlib.Core.Path.{ap, ◌∙◌}
use native.Mathlib.Omega.{arith}
use borrow.Rule.Slice.PartMut.{mid_len}
use borrow.Author.Rules.{rules}
use Rattle.spec_file.specs.Bytes.{store}
use Rattle.spec_file.specs.Limits.{version_field}
use Rattle.spec_file.specs.Image.{major_of}
use Rattle.law_file.proofs.Stores.{store-lent}
use Rattle.convert_bare.proofs.carry_version.Statement.{statement}
use Rattle.convert_bare.proofs.carry_version.Tie as tie

shared-slice-read-major : tie.Need-bounds-source-5
shared-slice-read-major c = search rules

add-write-version : tie.Need-overflow_add-write_version
add-write-version c = search rules

sub-write-version : tie.Need-slice_bounds-write_version-count
sub-write-version c = search rules

part-write-version-start : tie.Need-slice_bounds-write_version-start
part-write-version-start c = search rules

part-write-version-end : tie.Need-slice_bounds-write_version-end
part-write-version-end c = search rules

write-version-requires : tie.Need-write_version-requires
write-version-requires c κs = search rules

same_length : tie.Need-shape_of-target
same_length c = search rules

returns : tie.Need-returns
unfolding major_of
returns c =
    let S = c in
    let t = S.args.target.now in
    let w = c.write_version in
    store-lent t version_field 8 w.new.part (w.auto.part ∙ mid_len version_field 8 t (omega (arith, S.requires.1)))
    ∙ ap (store t version_field) w.ensures

pub carry_version_spec : {M : Type 1} → statement M
carry_version_spec =
    tie.close
    (tie.spec
    shared-slice-read-major
    add-write-version
    sub-write-version
    part-write-version-start
    part-write-version-end
    write-version-requires
    same_length
    returns)
