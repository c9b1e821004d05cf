-- The number of bytes filled fits 32 bits. Assumes nothing.
use native.Mathlib.Omega.{arith}
use lib.ListN.{length}
use borrow.Author.Rules.{rules}
use Rattle.export_records.proofs.Small.{grow-read-small}
use Rattle.export_records.proofs.grow_read_columns.Statement.{statement}
use Rattle.export_records.proofs.grow_read_columns.Tie as tie

read-pair-requires : tie.Need-read_pair-fetched-requires
read-pair-requires c κs = search rules

cast-bytes : tie.Need-overflow_cast-bytes
cast-bytes c =
    let P = c in
    let A = P.args in
    omega (
      arith,
      grow-read-small (record { old = A.old.now; new = A.new.now }) A.key.now (length A.out.now),
      P.read_pair-fetched.ensures.count,
    )

same_length : tie.Need-shape_of-out
same_length c = search rules

returns : tie.Need-returns
returns c = record { reads = search rules; old = search rules; new = search rules }

pub grow_read_columns_spec : {M : Type 1} → statement M
grow_read_columns_spec =
    tie.close
    (tie.spec
    read-pair-requires
    cast-bytes
    same_length
    returns)
