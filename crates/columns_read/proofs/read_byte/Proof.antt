-- Both places are within the bytes. Assumes nothing.
use Prim.Native.Nat.{◌+◌, ◌*◌, ◌<◌}
use native.Mathlib.Omega.{arith}
use lib.ListN.{length}
use borrow.Author.Rules.{rules}
use Rattle.law_columns.proofs.Steps.{record-place, column-place}
use Rattle.columns_read.proofs.read_byte.Statement.{statement}
use Rattle.columns_read.proofs.read_byte.Tie as tie

module _ (c : tie.Start) where
  record-at : c.args.r * c.args.width + c.args.j < length c.args.out.now
  record-at = record-place _ _ c.requires.0 c.requires.1 c.requires.2

  column-at : 1 + c.args.j * c.args.n + c.args.r < length c.args.stored.now
  column-at = column-place _ _ c.requires.0 c.requires.1 c.requires.2

mul-out : tie.Need-overflow_mul-out
mul-out c = omega (arith, column-at c)

add-out : tie.Need-overflow_add-out
add-out c = omega (arith, column-at c)

add-out-2 : tie.Need-overflow_add-out-2
add-out-2 c = omega (arith, column-at c)

shared-slice-read-out : tie.Need-bounds-stored-j
shared-slice-read-out c = column-at c.before

mul-out-2 : tie.Need-overflow_mul-out-2
mul-out-2 c = omega (arith, record-at c.before)

add-out-3 : tie.Need-overflow_add-out-3
add-out-3 c = omega (arith, record-at c.before)

slice-write-out : tie.Need-bounds-out-r
slice-write-out c = record-at c.before

same_length : tie.Need-shape_of-out
same_length c = search rules

returns : tie.Need-returns
returns c = search rules

pub read_byte_spec : {M : Type 1} → statement M
read_byte_spec =
    tie.close
    (tie.spec
    mul-out
    add-out
    add-out-2
    shared-slice-read-out
    mul-out-2
    add-out-3
    slice-write-out
    same_length
    returns)
