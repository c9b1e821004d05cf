-- The part is as long as the block. Assumes nothing.
use Prim.Native.Nat.{ℕ, ◌+◌, ◌-◌}
use native.Mathlib.Omega.{arith}
use mathlib.Core.Path.{◌≡◌, ap, ◌∙◌}
use lib.ListN.{take, drop}
use borrow.Author.Rules.{rules}
use Rattle.spec_file.specs.Bytes.{part, same}
use Rattle.changes_next.proofs.same_block.Statement.{statement}
use Rattle.changes_next.proofs.same_block.Tie as tie

add-end : tie.Need-overflow_add-end
add-end c = search rules

sub-same-bytes : tie.Need-slice_bounds-same_bytes-count
sub-same-bytes c = search rules

part-same-bytes-start : tie.Need-slice_bounds-same_bytes-start
part-same-bytes-start c = search rules

part-same-bytes-end : tie.Need-slice_bounds-same_bytes-end
part-same-bytes-end c = search rules

sub-same-bytes-2 : tie.Need-slice_bounds-same_bytes-count-2
sub-same-bytes-2 c = search rules

part-same-bytes-start-2 : tie.Need-slice_bounds-same_bytes-start-2
part-same-bytes-start-2 c = search rules

part-same-bytes-end-2 : tie.Need-slice_bounds-same_bytes-end-2
part-same-bytes-end-2 c = search rules

same-bytes-requires : tie.Need-same_bytes-requires
same-bytes-requires c κs = search rules

returns : tie.Need-returns
unfolding part
returns c =
    let A = c.args in
    let long : A.i + 64 - A.i ≡ 64 = omega arith in
    c.same_bytes.ensures
    ∙ ap (λ (n : ℕ). same (take n (drop A.i A.old.now)) (take n (drop A.i A.new.now))) long

pub same_block_spec : {M : Type 1} → statement M
same_block_spec =
    tie.close
    (tie.spec
    add-end
    sub-same-bytes
    part-same-bytes-start
    part-same-bytes-end
    sub-same-bytes-2
    part-same-bytes-start-2
    part-same-bytes-end-2
    same-bytes-requires
    returns)
