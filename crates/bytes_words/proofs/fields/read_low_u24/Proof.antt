-- `bytes_words::fields::read_low_u24` meets its contract: the mask takes the first of the four bytes away.
-- Assumes nothing.
use Rattle.std.proofs.Common.{◌≡◌, ℕ, ◌+◌, ◌%◌, get_or, sym, ap, ◌∙◌, arith, rules}
use lib.Bits.{and_mask}
use Rattle.spec_file.specs.Bytes.{number}
use Rattle.spec_file.specs.Image.{field}
use Rattle.bytes_words.proofs.Numbers.{part-four, part-three, number-four, number-three, low-three}
use Rattle.bytes_words.proofs.fields.read_low_u24.Statement.{statement}
use Rattle.bytes_words.proofs.fields.read_low_u24.Tie as tie

read-u32-requires : tie.Need-read_u32-requires
read-u32-requires c κs = search rules

returns : tie.Need-returns
unfolding field
returns c =
    let S = c in
    let s = S.args.s.now in
    let at = S.args.at in
    let b = c.shared_slice_known-1.given in
    let e₂ : at + 1 + 1 ≡ at + 2 = omega arith in
    let e₃ : at + 1 + 2 ≡ at + 3 = omega arith in
    and_mask c.read_u32.result 24
    ∙ ap (λ (n : ℕ). n % 16777216) (c.read_u32.ensures ∙ ap number (part-four s at S.requires) ∙ number-four _ _ _ _)
    ∙ low-three (get_or s at 0) (get_or s (at + 1) 0) (get_or s (at + 2) 0) (get_or s (at + 3) 0)
    (omega (arith, b (at + 1))) (omega (arith, b (at + 2))) (omega (arith, b (at + 3)))
    ∙ sym (ap number (rw (← e₂, ← e₃) (part-three s (at + 1) (omega arith))) ∙ number-three _ _ _)

pub read_low_u24_spec : {M : Type 1} → statement M
read_low_u24_spec =
    tie.close
    (tie.spec
    read-u32-requires
    returns)
