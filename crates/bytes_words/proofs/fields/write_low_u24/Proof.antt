-- `bytes_words::fields::write_low_u24` meets its contract: the byte and the three behind it are one number. Assumes
-- nothing.
use Rattle.std.proofs.Common.{◌≡◌, ℕ, ◌*◌, ◌%◌, ap, ◌∙◌, mod-eq_of_lt, arith, rules}
use lib.Bits.{bit_or, or_shifted}
use Rattle.spec_file.specs.Bytes.{store, digits}
use Rattle.spec_file.specs.Image.{set_field}
use Rattle.bytes_words.proofs.Numbers.{digits-behind}
use Rattle.bytes_words.proofs.fields.write_low_u24.Statement.{statement}
use Rattle.bytes_words.proofs.fields.write_low_u24.Tie as tie

write-u32-requires : tie.Need-write_u32-requires
write-u32-requires c κs = search rules

same_length : tie.Need-shape_of-s
same_length c = search rules

returns : tie.Need-returns
unfolding set_field
returns c =
    let W = c in
    let S = c in
    let A = S.args in
    let whole : A.b * 16777216 % 4294967296 ≡ A.b * 16777216 = mod-eq_of_lt (omega arith) in
    W.write_u32.ensures
    ∙ ap (λ (n : ℕ). store A.s.now A.at (digits 4 (bit_or n A.v))) whole
    ∙ ap (λ (n : ℕ). store A.s.now A.at (digits 4 n)) (or_shifted A.b 24 A.v S.requires.1)
    ∙ ap (store A.s.now A.at) (digits-behind A.b A.v (omega arith) S.requires.1)

pub write_low_u24_spec : {M : Type 1} → statement M
write_low_u24_spec =
    tie.close
    (tie.spec
    write-u32-requires
    same_length
    returns)
