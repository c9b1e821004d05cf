-- The part that is lent comes back as the bytes. Assumes nothing.
use Prim.Native.Nat.{◌+◌, ◌-◌}
use native.Mathlib.Omega.{arith}
use mathlib.Core.Path.{◌≡◌, refl, ap, ◌∙◌}
use lib.ListN.{length}
use Rattle.spec_file.specs.Bytes.{store}
use Rattle.law_file.proofs.Stores.{store-lent}
use borrow.Author.Rules.{rules}
use Rattle.lister_text.proofs.put_bytes.Statement.{statement}
use Rattle.lister_text.proofs.put_bytes.Tie as tie

add-end : tie.Need-overflow_add-end
add-end c = search rules

sub-copy : tie.Need-slice_bounds-copy-count
sub-copy c = search rules

part-copy-start : tie.Need-slice_bounds-copy-start
part-copy-start c = search rules

part-copy-end : tie.Need-slice_bounds-copy-end
part-copy-end c = search rules

copy-requires : tie.Need-copy-requires
copy-requires c κs = search rules

same_length : tie.Need-shape_of-out
same_length c = search rules

returns : tie.Need-returns
returns c =
    let A = c.args in
    let end = A.at + length A.bytes.now in
    let C = c.copy in
    let l : length C.new.dst ≡ end - A.at = omega (arith, ap length C.ensures) in
    let out = A.out.now in
    record { bytes = store-lent out A.at end C.new.dst l ∙ ap (store out A.at) C.ensures; ends = refl }

pub put_bytes_spec : {M : Type 1} → statement M
put_bytes_spec =
    tie.close
    (tie.spec
    add-end
    sub-copy
    part-copy-start
    part-copy-end
    copy-requires
    same_length
    returns)
