-- Two digits, one behind the other. Assumes nothing.
use Prim.Native.Nat.{ℕ}
use native.Mathlib.Omega.{arith}
use mathlib.Core.Path.{ap₂}
use mathlib.Core.List.{[], ◌∷◌}
use Rattle.lister_text.specs.Text.{hex_byte}
use Rattle.lister_text.proofs.Putting.{put_same, put_then}
use borrow.Author.Rules.{rules}
use Rattle.lister_text.proofs.put_hex.Statement.{statement}
use Rattle.lister_text.proofs.put_hex.Tie as tie

hex-digit-requires : tie.Need-hex_digit-requires
hex-digit-requires c κs = search rules

put-byte-requires : tie.Need-put_byte-end-requires
put-byte-requires c κs = search rules

hex-digit-requires-2 : tie.Need-hex_digit-requires-2
hex-digit-requires-2 c κs = search rules

put-byte-requires-2 : tie.Need-put_byte-requires
put-byte-requires-2 c κs = search rules

same_length : tie.Need-shape_of-out
same_length c = search rules

returns : tie.Need-returns
unfolding hex_byte
returns c =
    let H2 = c in
    let P1 = c in
    let H1 = c in
    put_same (ap₂ (λ (x y : ℕ). x ∷ y ∷ []) H1.hex_digit.ensures H2.hex_digit-2.ensures)
    (put_then P1.put_byte-end.ensures c.put_byte.ensures
    (omega (arith, H1.requires)))

pub put_hex_spec : {M : Type 1} → statement M
put_hex_spec =
    tie.close
    (tie.spec
    hex-digit-requires
    put-byte-requires
    hex-digit-requires-2
    put-byte-requires-2
    same_length
    returns)
