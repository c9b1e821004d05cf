-- `bytes_words::fields::write_little` meets its contract: four stores are one, of the number's bytes.
-- Assumes nothing.
use Rattle.std.proofs.Common.{◌/◌, ◌∙◌, arith, length-set, rules}
use lib.Bits.{bit_and, and_mask, mask_lt}
use Rattle.bytes_words.proofs.Numbers.{store-four}
use Rattle.bytes_words.proofs.fields.write_little.Statement.{statement}
use Rattle.bytes_words.proofs.fields.write_little.Tie as tie

cast-s : tie.Need-overflow_cast-s
cast-s c = record { fits = mask_lt c.args.w 8 }

slice-write-s : tie.Need-bounds-s-at
slice-write-s c = search rules

cast-s-2 : tie.Need-overflow_cast-s-2
cast-s-2 c = record { fits = mask_lt (c.args.w / 256) 8 }

add-s : tie.Need-overflow_add-s
add-s c = search rules

slice-write-s-2 : tie.Need-bounds-s-at-2
slice-write-s-2 c = simp length-set (omega arith)

cast-s-3 : tie.Need-overflow_cast-s-3
cast-s-3 c = record { fits = mask_lt (c.args.w / 65536) 8 }

add-s-2 : tie.Need-overflow_add-s-2
add-s-2 c = search rules

slice-write-s-3 : tie.Need-bounds-s-at-3
slice-write-s-3 c = simp length-set (omega arith)

cast-s-4 : tie.Need-overflow_cast-s-4
cast-s-4 c = search rules

add-s-3 : tie.Need-overflow_add-s-3
add-s-3 c = search rules

slice-write-s-4 : tie.Need-bounds-s-at-4
slice-write-s-4 c = simp length-set (omega arith)

same_length : tie.Need-shape_of-s
same_length c = simp length-set

returns : tie.Need-returns
returns c =
    let s = c.args.s.now in
    let w = c.args.w in
    store-four s c.args.at (bit_and w 255) (bit_and (w / 256) 255) (bit_and (w / 65536) 255) (w / 16777216) c.requires
    ∙ rw (and_mask w 8, and_mask (w / 256) 8, and_mask (w / 65536) 8)

pub write_little_spec : {M : Type 1} → statement M
write_little_spec =
    tie.close
    (tie.spec
    cast-s
    slice-write-s
    cast-s-2
    add-s
    slice-write-s-2
    cast-s-3
    add-s-2
    slice-write-s-3
    cast-s-4
    add-s-3
    slice-write-s-4
    same_length
    returns)
