-- The upper half is shifted past the lower, so the or is a sum. Assumes nothing.
use Prim.Native.Nat.{ℕ, ◌+◌, ◌*◌, ◌%◌}
use native.Mathlib.Nat.{mod-eq_of_lt}
use native.Mathlib.Omega.{arith}
use mathlib.Core.Path.{◌≡◌, ap₂, ◌∙◌}
use lib.Bits.{or_shifted}
use borrow.Author.Rules.{rules}
use Rattle.bytes_compare.proofs.Little.{little-eight}
use Rattle.bytes_compare.proofs.blocks.eight.Statement.{statement}
use Rattle.bytes_compare.proofs.blocks.eight.Tie as tie

add-four : tie.Need-overflow_add-at
add-four c = search rules

four-requires : tie.Need-four-requires
four-requires c κs = search rules

cast-result : tie.Need-overflow_cast-result
cast-result c = search rules

four-requires-2 : tie.Need-four-requires-2
four-requires-2 c κs = search rules

cast-result-2 : tie.Need-overflow_cast-result-2
cast-result-2 c = search rules

returns : tie.Need-returns
returns c =
    let A = c.args in
    let h = c.four.result in
    let l = c.four-2.result in
    let whole : h * 4294967296 % 18446744073709551616 ≡ h * 4294967296 = mod-eq_of_lt (omega arith) in
    rw whole
    (or_shifted h 32 l (omega arith)
    ∙ ap₂ (λ (x y : ℕ). x * 4294967296 + y) c.four.ensures c.four-2.ensures
    ∙ little-eight A.s.now A.at c.requires)

pub eight_spec : {M : Type 1} → statement M
eight_spec =
    tie.close
    (tie.spec
    add-four
    four-requires
    cast-result
    four-requires-2
    cast-result-2
    returns)
