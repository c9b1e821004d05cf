-- `bytes_words::fields::read_u32` meets its contract: the bytes in the machine's order, swapped, are the field's.
-- Assumes nothing.
use Rattle.std.proofs.Common.{◌+◌, get_or, sym, ap, ◌∙◌, arith, rules}
use Rattle.spec_file.specs.Bytes.{number}
use Rattle.spec_file.specs.Image.{field}
use Rattle.bytes_words.proofs.Numbers.{part-four, number-four, swapped-four}
use Rattle.bytes_words.proofs.fields.read_u32.Statement.{statement}
use Rattle.bytes_words.proofs.fields.read_u32.Tie as tie

read-little-requires : tie.Need-read_little-requires
read-little-requires c κs = search rules

swapped-requires : tie.Need-swapped-requires
swapped-requires c κs = search rules

returns : tie.Need-returns
unfolding field
returns c =
    let S = c in
    let s = S.args.s.now in
    let at = S.args.at in
    let b = c.shared_slice_known-1.given in
    c.swapped.ensures
    ∙ swapped-four (get_or s at 0) (get_or s (at + 1) 0) (get_or s (at + 2) 0) (get_or s (at + 3) 0)
    c.read_little.result
    (omega (arith, b at)) (omega (arith, b (at + 1))) (omega (arith, b (at + 2))) (omega (arith, b (at + 3)))
    c.read_little.ensures
    ∙ sym (ap number (part-four s at S.requires) ∙ number-four _ _ _ _)

pub read_u32_spec : {M : Type 1} → statement M
read_u32_spec =
    tie.close
    (tie.spec
    read-little-requires
    swapped-requires
    returns)
