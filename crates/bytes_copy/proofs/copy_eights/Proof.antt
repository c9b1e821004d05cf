-- The last block begins where all before it are copied, and ends with the bytes. Assumes nothing.
use Prim.Native.Nat.{◌-◌}
use native.Mathlib.Omega.{arith}
use mathlib.Core.Path.{refl}
use lib.ListN.{length}
use borrow.Author.Rules.{rules}
use Rattle.bytes_copy.proofs.Blocks.{copied-block, copied-whole}
use Rattle.bytes_copy.proofs.copy_eights.Statement.{statement}
use Rattle.bytes_copy.proofs.copy_eights.Tie as tie

copy-front-requires : tie.Need-copy_front-requires
copy-front-requires c κs = search rules

sub-copy-eight : tie.Need-overflow_sub-n
sub-copy-eight c = search rules

copy-eight-requires : tie.Need-copy_eight-requires
copy-eight-requires c κs = search rules

same_length : tie.Need-shape_of-dst
same_length c = search rules

returns : tie.Need-returns
returns c =
    let B = c in
    let F = c in
    let S = c in
    let s = S.args.src.now in
    let n = length s in
    copied-whole B.copy_eight.new.dst s n
    (copied-block F.copy_front.new.dst s B.copy_eight.new.dst (n - 8) (length S.args.dst.now - 8) n
    F.copy_front.ensures (omega arith) (omega arith) (omega arith) B.copy_eight.ensures)
    refl

pub copy_eights_spec : {M : Type 1} → statement M
copy_eights_spec =
    tie.close
    (tie.spec
    copy-front-requires
    sub-copy-eight
    copy-eight-requires
    same_length
    returns)
