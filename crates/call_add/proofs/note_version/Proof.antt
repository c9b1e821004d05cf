-- Written where the message is empty, else nothing is. Assumes nothing.
use mathlib.Core.Path.{◌≡◌, refl, sym, ap, ◌∙◌}
use native.Mathlib.Omega.{arith}
use lib.ListN.{length}
use borrow.Author.Rules.{rules}
use Rattle.spec_file.specs.Bytes.{Bytes, store}
use Rattle.spec_file.specs.Limits.{version_field}
use Rattle.spec_file.specs.Image.{major_of, wide}
use Rattle.spec_file.specs.Messages.{noted}
use Rattle.law_file.proofs.Stores.{store-lent}
use Rattle.call_add.proofs.note_version.Statement.{statement}
use Rattle.call_add.proofs.note_version.Tie as tie

slice-read-if1 : tie.Need-bounds-image-5
slice-read-if1 c = search rules

add-write-version : tie.Need-overflow_add-write_version
add-write-version c = search rules

sub-write-version : tie.Need-slice_bounds-write_version-count
sub-write-version c = search rules

part-write-version-start : tie.Need-slice_bounds-write_version-start
part-write-version-start c = search rules

part-write-version-end : tie.Need-slice_bounds-write_version-end
part-write-version-end c = search rules

write-version-requires : tie.Need-write_version-requires
write-version-requires c κs = search rules

same_length : tie.Need-shape_of-image
same_length c = search rules

abbrev start-at-slice-known2 : tie.After-slice_known-then-bytes-mode-1 → tie.Start
start-at-slice-known2 c = c.before.before.before.before.before.before.before.before

returns : tie.Need-returns-then-bytes-mode
unfolding noted wide major_of
returns c =
    let A = (start-at-slice-known2 c).args in
    let w = c.write_version in
    store-lent A.image.now version_field 8 w.new.part (ap length w.ensures)
    ∙ ap (store A.image.now version_field) w.ensures
    ∙ sym (rw c.if-bytes-mode.true refl)

returns-2 : tie.Need-returns-else-bytes-mode
unfolding noted wide major_of
returns-2 c = sym (rw c.if-bytes-mode.false refl)

pub note_version_spec : {M : Type 1} → statement M
note_version_spec =
    tie.close
    (tie.spec
    slice-read-if1
    add-write-version
    sub-write-version
    part-write-version-start
    part-write-version-end
    write-version-requires
    same_length
    returns
    returns-2)
