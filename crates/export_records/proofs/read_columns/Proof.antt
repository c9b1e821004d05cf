-- The number of bytes filled fits 32 bits. Assumes nothing.
use native.Mathlib.Omega.{arith}
use lib.ListN.{length}
use borrow.Author.Rules.{rules}
use Rattle.export_records.proofs.Small.{read_small}
use Rattle.export_records.proofs.read_columns.Statement.{statement}
use Rattle.export_records.proofs.read_columns.Tie as tie

read-records-requires : tie.Need-read_records-fetched-requires
read-records-requires c κs = search rules

cast-bytes : tie.Need-overflow_cast-bytes
cast-bytes c =
    let P = c in
    let A = P.args in
    omega (arith, read_small A.image.now A.key.now (length A.out.now), P.read_records-fetched.ensures.count)

same_length : tie.Need-shape_of-out
same_length c = search rules

returns : tie.Need-returns
returns c = record { reads = search rules; image = search rules }

pub read_columns_spec : {M : Type 1} → statement M
read_columns_spec =
    tie.close
    (tie.spec
    read-records-requires
    cast-bytes
    same_length
    returns)
