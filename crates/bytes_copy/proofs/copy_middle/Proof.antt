-- Each block begins where the bytes before it are copied. Assumes nothing.
use Prim.Native.Nat.{◌-◌}
use native.Mathlib.Omega.{arith}
use lib.ListN.{length}
use borrow.Author.Rules.{rules}
use Rattle.bytes_copy.proofs.Blocks.{copied-less, copied-block}
use Rattle.bytes_copy.proofs.copy_middle.Statement.{statement}
use Rattle.bytes_copy.proofs.copy_middle.Tie as tie

returns : tie.Need-returns-then-n-le16
returns c =
    let S = c in
    copied-less S.args.dst.now S.args.src.now 8 (length S.args.src.now - 8) S.requires.0 (omega arith)

copy-eight-requires : tie.Need-copy_eight-requires
copy-eight-requires c κs = search rules

copy-inner-requires : tie.Need-copy_inner-requires
copy-inner-requires c κs =
    let B = c in
    let S = c in
    let f =
    copied-block S.args.dst.now S.args.src.now B.copy_eight.new.dst 8 8 16 S.requires.0
    (omega arith) (omega arith) (omega arith) B.copy_eight.ensures
    in
    (f, omega arith)

sub-copy-eight : tie.Need-overflow_sub-n
sub-copy-eight c = search rules

copy-eight-requires-2 : tie.Need-copy_eight-requires-2
copy-eight-requires-2 c κs = search rules

same_length : tie.Need-shape_of-dst
same_length c = search rules

returns-2 : tie.Need-returns
returns-2 c =
    let B = c in
    let I = c in
    let E = c in
    let S = c in
    let d = S.args.dst.now in
    let s = S.args.src.now in
    copied-block I.copy_inner.new.dst s B.copy_eight-2.new.dst (length s - 16) (length d - 16) (length s - 8)
    I.copy_inner.ensures (omega arith) (omega arith) (omega arith) B.copy_eight-2.ensures

pub copy_middle_spec : {M : Type 1} → statement M
copy_middle_spec =
    tie.close
    (tie.spec
    returns
    copy-eight-requires
    copy-inner-requires
    sub-copy-eight
    copy-eight-requires-2
    same_length
    returns-2)
