-- The word, the number and the line feed. Assumes nothing.
use native.Mathlib.Omega.{arith}
use Rattle.lister_rows.specs.Listed.{refused_text}
use Rattle.lister_text.proofs.Putting.{put_three}
use Rattle.lister_rows.proofs.Rows.{refused-length}
use borrow.Author.Rules.{rules}
use Rattle.lister_rows.proofs.put_refused.Statement.{statement}
use Rattle.lister_rows.proofs.put_refused.Tie as tie

put-bytes-requires : tie.Need-put_bytes-a-requires
put-bytes-requires c κs =
    let S = c in
    omega (arith, S.requires, refused-length S.args.number)

put-decimal-requires : tie.Need-put_decimal-b-requires
put-decimal-requires c κs =
    let A = c in
    let S = c in
    omega (arith, S.requires, refused-length S.args.number, A.put_bytes-a.ensures.ends, A.put_bytes-a.auto.out)

put-byte-requires : tie.Need-put_byte-requires
put-byte-requires c κs =
    let B = c in
    let A = c in
    let S = c in
    omega (
      arith,
      S.requires,
      refused-length S.args.number,
      A.put_bytes-a.ensures.ends,
      A.put_bytes-a.auto.out,
      B.put_decimal-b.ensures.ends,
      B.put_decimal-b.auto.out,
    )

same_length : tie.Need-shape_of-out
same_length c = search rules

returns : tie.Need-returns
unfolding refused_text
returns c =
    let C = c in
    let B = c in
    let A = c in
    let S = c in
    put_three A.put_bytes-a.ensures B.put_decimal-b.ensures C.put_byte.ensures (omega (arith, S.requires))

pub put_refused_spec : {M : Type 1} → statement M
put_refused_spec =
    tie.close
    (tie.spec
    put-bytes-requires
    put-decimal-requires
    put-byte-requires
    same_length
    returns)
