-- `call_compact::zero_from` meets its contract. Assumes nothing.
use Prim.Native.Nat.{◌-◌}
use native.Mathlib.Omega.{arith}
use mathlib.Core.Path.{ap, ◌∙◌}
use lib.ListN.{length}
use borrow.Rule.Slice.PartMut.{put_mid, mid_len}
use borrow.Author.Rules.{rules}
use Rattle.spec_file.specs.Bytes.{Bytes, zeros}
use Rattle.law_file.proofs.Bytes.{length-zeros}
use Rattle.law_file.proofs.Stores.{store-lent}
use Rattle.call_compact.proofs.zero_from.Statement.{statement}
use Rattle.call_compact.proofs.zero_from.Tie as tie

sub-zero : tie.Need-slice_bounds-zero-count
sub-zero c = search rules

part-zero-start : tie.Need-slice_bounds-zero-start
part-zero-start c = search rules

part-zero-end : tie.Need-slice_bounds-zero-end
part-zero-end c = search rules

zero-requires : tie.Need-zero-requires
zero-requires c κs = search rules

same_length : tie.Need-shape_of-image
same_length c = search rules

returns : tie.Need-returns
returns c =
    let Z = c in
    let A = Z.args in
    let img = A.image.now in
    let n = length img - A.end in
    ap (λ (v : Bytes). put_mid A.end n img v)
    (Z.zero.ensures ∙ ap zeros (mid_len A.end (length img) img (omega arith)))
    ∙ store-lent img A.end (length img) (zeros n) (length-zeros n)

pub zero_from_spec : {M : Type 1} → statement M
zero_from_spec =
    tie.close
    (tie.spec
    sub-zero
    part-zero-start
    part-zero-end
    zero-requires
    same_length
    returns)
