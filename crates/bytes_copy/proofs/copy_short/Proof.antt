-- The first block, and the middle behind it. Assumes nothing.
use native.Mathlib.Omega.{arith}
use borrow.Author.Rules.{rules}
use Rattle.bytes_copy.proofs.Blocks.{none_yet, copied-block}
use Rattle.bytes_copy.proofs.copy_short.Statement.{statement}
use Rattle.bytes_copy.proofs.copy_short.Tie as tie

copy-eight-requires : tie.Need-copy_eight-requires
copy-eight-requires c κs = search rules

copy-middle-requires : tie.Need-copy_middle-requires
copy-middle-requires c κs =
    let B = c in
    let S = c in
    let d = S.args.dst.now in
    let s = S.args.src.now in
    let f =
    copied-block d s B.copy_eight.new.dst 0 0 8 (none_yet d s S.requires.0)
    (omega arith) (omega arith) (omega arith) B.copy_eight.ensures
    in
    (f, omega arith)

same_length : tie.Need-shape_of-dst
same_length c = search rules

returns : tie.Need-returns
returns c = search rules

pub copy_short_spec : {M : Type 1} → statement M
copy_short_spec =
    tie.close
    (tie.spec
    copy-eight-requires
    copy-middle-requires
    same_length
    returns)
