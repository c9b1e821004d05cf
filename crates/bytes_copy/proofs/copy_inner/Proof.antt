-- Each block begins where the bytes before it are copied. Assumes nothing.
use Prim.Native.Nat.{◌-◌}
use native.Mathlib.Omega.{arith}
use lib.ListN.{length}
use borrow.Author.Rules.{rules}
use Rattle.bytes_copy.proofs.Blocks.{copied-less, copied-block}
use Rattle.bytes_copy.proofs.copy_inner.Statement.{statement}
use Rattle.bytes_copy.proofs.copy_inner.Tie as tie

returns : tie.Need-returns-then-n-le32
returns c =
    let S = c in
    copied-less S.args.dst.now S.args.src.now 16 (length S.args.src.now - 16) S.requires.0 (omega arith)

copy-eight-requires : tie.Need-copy_eight-requires
copy-eight-requires c κs = search rules

copy-eight-requires-2 : tie.Need-copy_eight-requires-2
copy-eight-requires-2 c κs = search rules

sub-copy-eight : tie.Need-overflow_sub-n
sub-copy-eight c = search rules

copy-eight-requires-3 : tie.Need-copy_eight-requires-3
copy-eight-requires-3 c κs = search rules

sub-copy-eight-2 : tie.Need-overflow_sub-n-2
sub-copy-eight-2 c = search rules

copy-eight-requires-4 : tie.Need-copy_eight-requires-4
copy-eight-requires-4 c κs = search rules

same_length : tie.Need-shape_of-dst
same_length c = search rules

returns-2 : tie.Need-returns
returns-2 c =
    let B₄ = c in
    let B₃ = c in
    let B₂ = c in
    let B₁ = c in
    let S = c in
    let d = S.args.dst.now in
    let s = S.args.src.now in
    let n = length d in
    let x₁ = B₁.copy_eight.new.dst in
    let x₂ = B₂.copy_eight-2.new.dst in
    let x₃ = B₃.copy_eight-3.new.dst in
    let f₁ =
    copied-block d s x₁ 16 16 24 S.requires.0 (omega arith) (omega arith) (omega arith) B₁.copy_eight.ensures in
    let f₂ = copied-block x₁ s x₂ 24 24 32 f₁ (omega arith) (omega arith) (omega arith) B₂.copy_eight-2.ensures in
    let f₃ =
    copied-block x₂ s x₃ 32 (n - 32) (n - 24) f₂ (omega arith) (omega arith) (omega arith) B₃.copy_eight-3.ensures in
    copied-block x₃ s _ (n - 24) (n - 24) (length s - 16) f₃ (omega arith) (omega arith) (omega arith)
    B₄.copy_eight-4.ensures

pub copy_inner_spec : {M : Type 1} → statement M
copy_inner_spec =
    tie.close
    (tie.spec
    returns
    copy-eight-requires
    copy-eight-requires-2
    sub-copy-eight
    copy-eight-requires-3
    sub-copy-eight-2
    copy-eight-requires-4
    same_length
    returns-2)
