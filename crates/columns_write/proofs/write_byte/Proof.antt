-- Both places are within the bytes. Assumes nothing.
use Prim.Native.Nat.{◌+◌, ◌*◌, ◌<◌}
use native.Mathlib.Omega.{arith}
use lib.ListN.{length}
use borrow.Author.Rules.{rules}
use Rattle.law_columns.proofs.Steps.{record-place, column-place}
use Rattle.columns_write.proofs.write_byte.Statement.{statement}
use Rattle.columns_write.proofs.write_byte.Tie as tie

module _ (c : tie.Start) where
  record-at : c.args.r * c.args.width + c.args.j < length c.args.records.now
  record-at = record-place _ _ c.requires.0 c.requires.1 c.requires.2

  column-at : 1 + c.args.j * c.args.n + c.args.r < length c.args.space.now
  column-at = column-place _ _ c.requires.0 c.requires.1 c.requires.2

mul-space : tie.Need-overflow_mul-space
mul-space c = omega (arith, record-at c)

add-space : tie.Need-overflow_add-space
add-space c = omega (arith, record-at c)

shared-slice-read-space : tie.Need-bounds-records-r
shared-slice-read-space c = record-at c.before

mul-space-2 : tie.Need-overflow_mul-space-2
mul-space-2 c = omega (arith, column-at c.before)

add-space-2 : tie.Need-overflow_add-space-2
add-space-2 c = omega (arith, column-at c.before)

add-space-3 : tie.Need-overflow_add-space-3
add-space-3 c = omega (arith, column-at c.before)

slice-write-space : tie.Need-bounds-space-j
slice-write-space c = column-at c.before

same_length : tie.Need-shape_of-space
same_length c = search rules

returns : tie.Need-returns
returns c = search rules

pub write_byte_spec : {M : Type 1} → statement M
write_byte_spec =
    tie.close
    (tie.spec
    mul-space
    add-space
    shared-slice-read-space
    mul-space-2
    add-space-2
    add-space-3
    slice-write-space
    same_length
    returns)
