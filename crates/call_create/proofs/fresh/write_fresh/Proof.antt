-- Zeros, then the header, then the scramble; questions 1 to 4 give the room, and that D fits its field.
-- Assumes nothing.
use mathlib.Core.Path.{ap, ◌∙◌}
use native.Mathlib.Omega.{arith}
use lib.ListN.{length}
use Rattle.spec_file.specs.Bytes.{Bytes, store}
use Rattle.spec_file.specs.Create.{drawn_bytes, fresh_header}
use Rattle.law_file.proofs.Accepted.{accepted-facts}
use Rattle.header_scramble.proofs.Stores.{fresh-stored}
use borrow.Author.Rules.{rules}
use Rattle.call_create.proofs.fresh.write_fresh.Statement.{statement}
use Rattle.call_create.proofs.fresh.write_fresh.Tie as tie

data-start-requires : tie.Need-data_start-start-requires
data-start-requires c κs =
    let S = c in
    let F = accepted-facts (length S.args.image.now) S.args.size S.args.slots S.requires in
    (F.key-high, omega (arith, F))

cast-start : tie.Need-overflow_cast-start
cast-start c =
    let S = c in
    let F = accepted-facts (length S.args.image.now) S.args.size S.args.slots S.requires in
    omega (arith, F, c.data_start-start.ensures)

zero-requires : tie.Need-zero-requires
zero-requires c κs = search rules

write-header-requires : tie.Need-write_header-requires
write-header-requires c κs =
    let S = c in
    let F = accepted-facts (length S.args.image.now) S.args.size S.args.slots S.requires in
    let Z = c in
    (omega (arith, F, Z.zero.auto), Z.data_start-start.ensures)

write-scramble-requires : tie.Need-write_scramble-requires
write-scramble-requires c κs =
    let H = c in
    let Z = c in
    let S = c in
    let F = accepted-facts (length S.args.image.now) S.args.size S.args.slots S.requires in
    omega (arith, F, H.write_header.auto, Z.zero.auto)

same_length : tie.Need-shape_of-image
same_length c = search rules

returns : tie.Need-returns
returns c =
    let W = c in
    let H = c in
    let Z = c in
    let S = c in
    let F = accepted-facts (length S.args.image.now) S.args.size S.args.slots S.requires in
    let L = length S.args.image.now in
    W.write_scramble.ensures
    ∙ ap (λ (t : Bytes). store t 512 (drawn_bytes S.args.seed 0 95))
    (H.write_header.ensures
    ∙ ap (λ (t : Bytes). store t 0 (fresh_header S.args.size S.args.slots)) Z.zero.ensures)
    ∙ fresh-stored L S.args.size S.args.slots S.args.seed (omega (arith, F))

pub write_fresh_spec : {M : Type 1} → statement M
write_fresh_spec =
    tie.close
    (tie.spec
    data-start-requires
    cast-start
    zero-requires
    write-header-requires
    write-scramble-requires
    same_length
    returns)
