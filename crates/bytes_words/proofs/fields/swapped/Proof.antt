-- `bytes_words::fields::swapped` meets its contract: its four parts are below 256, so the ors are sums. Assumes
-- nothing.
use Rattle.std.proofs.Common.{◌/◌, ◌∙◌, arith}
use lib.Bits.{bit_and, and_mask, mask_lt}
use Rattle.bytes_words.proofs.Numbers.{or-four}
use Rattle.bytes_words.proofs.fields.swapped.Statement.{statement}
use Rattle.bytes_words.proofs.fields.swapped.Tie as tie

returns : tie.Need-returns
returns c =
    let x = c.args.x in
    or-four (bit_and x 255) (bit_and (x / 256) 255) (bit_and (x / 65536) 255) (x / 16777216)
    (mask_lt x 8) (mask_lt (x / 256) 8) (mask_lt (x / 65536) 8) (omega arith)
    ∙ rw (and_mask x 8, and_mask (x / 256) 8, and_mask (x / 65536) 8)

pub swapped_spec : {M : Type 1} → statement M
swapped_spec =
    tie.close
    (tie.spec
    returns)
