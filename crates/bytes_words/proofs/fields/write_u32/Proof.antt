-- `bytes_words::fields::write_u32` meets its contract: the swapped number's bytes, in the machine's order, are the
-- digits. Assumes nothing.
use Rattle.std.proofs.Common.{ap, ◌∙◌, arith, rules}
use Rattle.spec_file.specs.Bytes.{store}
use Rattle.spec_file.specs.Image.{set_field}
use Rattle.bytes_words.proofs.Numbers.{digits-swapped}
use Rattle.bytes_words.proofs.fields.write_u32.Statement.{statement}
use Rattle.bytes_words.proofs.fields.write_u32.Tie as tie

swapped-requires : tie.Need-swapped-requires
swapped-requires c κs = search rules

write-little-requires : tie.Need-write_little-requires
write-little-requires c κs = search rules

same_length : tie.Need-shape_of-s
same_length c = search rules

returns : tie.Need-returns
unfolding set_field
returns c =
    let W = c in
    let O = c in
    let S = c in
    let A = S.args in
    W.write_little.ensures
    ∙ ap (store A.s.now A.at) (digits-swapped A.v O.swapped.result (omega arith) O.swapped.ensures)

pub write_u32_spec : {M : Type 1} → statement M
write_u32_spec =
    tie.close
    (tie.spec
    swapped-requires
    write-little-requires
    same_length
    returns)
