-- The header's fifteen numbers, one behind the other. Assumes nothing.
use mathlib.Core.Path.{ap, ◌∙◌}
use Rattle.spec_file.specs.Bytes.{store}
use Rattle.header_scramble.proofs.Stores.{header-digits}
use borrow.Author.Rules.{rules}
use Rattle.call_create.proofs.fresh.write_header.Statement.{statement}
use Rattle.call_create.proofs.fresh.write_header.Tie as tie

slice-aggregate-write-numbers : tie.Need-slice_bounds-write_numbers-end
slice-aggregate-write-numbers c = search rules

write-numbers-requires : tie.Need-write_numbers-requires
write-numbers-requires c κs = search rules

same_length : tie.Need-shape_of-image
same_length c = search rules

returns : tie.Need-returns
returns c =
    let W = c in
    let S = c in
    W.write_numbers.ensures
    ∙ ap (store S.args.image.now 0) (header-digits S.args.size S.args.slots S.args.start S.requires.1)

pub write_header_spec : {M : Type 1} → statement M
write_header_spec =
    tie.close
    (tie.spec
    slice-aggregate-write-numbers
    write-numbers-requires
    same_length
    returns)
