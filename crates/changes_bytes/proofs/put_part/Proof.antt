-- The part that is lent comes back as the bytes. Assumes nothing.
use Prim.Native.Nat.{ℕ, ◌+◌, ◌-◌}
use native.Mathlib.Omega.{arith}
use mathlib.Core.Path.{◌≡◌, refl, ap, ◌∙◌}
use lib.ListN.{length}
use borrow.Author.Rules.{rules}
use Rattle.spec_file.specs.Bytes.{Bytes, part, store}
use Rattle.law_file.proofs.Bytes.{part_length}
use Rattle.law_file.proofs.Stores.{store-lent}
use Rattle.changes_bytes.proofs.put_part.Statement.{statement}
use Rattle.changes_bytes.proofs.put_part.Tie as tie

sub-stop : tie.Need-overflow_sub-stop
sub-stop c = search rules

add-stop : tie.Need-overflow_add-stop
add-stop c = search rules

sub-copy : tie.Need-slice_bounds-copy-count
sub-copy c = search rules

part-copy-start : tie.Need-slice_bounds-copy-start
part-copy-start c = search rules

part-copy-end : tie.Need-slice_bounds-copy-end
part-copy-end c = search rules

sub-copy-2 : tie.Need-slice_bounds-copy-count-2
sub-copy-2 c = search rules

part-copy-start-2 : tie.Need-slice_bounds-copy-start-2
part-copy-start-2 c = search rules

part-copy-end-2 : tie.Need-slice_bounds-copy-end-2
part-copy-end-2 c = search rules

copy-requires : tie.Need-copy-requires
copy-requires c κs = search rules

same_length : tie.Need-shape_of-out
same_length c = search rules

returns : tie.Need-returns
returns c =
    let C = c in
    let S = c in
    let A = S.args in
    let size : ℕ = A.end - A.at in
    let is : C.copy.new.dst ≡ part A.new.now A.at size = unfold part in C.copy.ensures in
    let stop : ℕ = A.to + size in
    let long : length C.copy.new.dst ≡ stop - A.to =
    ap (λ (t : Bytes). length t) is ∙ part_length A.new.now A.at size (omega (arith, S.requires.0, S.requires.1))
    ∙ omega arith in
    (store-lent A.out.now A.to stop C.copy.new.dst long ∙ ap (store A.out.now A.to) is, refl)

pub put_part_spec : {M : Type 1} → statement M
put_part_spec =
    tie.close
    (tie.spec
    sub-stop
    add-stop
    sub-copy
    part-copy-start
    part-copy-end
    sub-copy-2
    part-copy-start-2
    part-copy-end-2
    copy-requires
    same_length
    returns)
