-- `convert_bare::carry` meets its contract: a part lent, and given back as the source's. Assumes nothing.
use mathlib.Core.Path.{◌≡◌, ap, ◌∙◌}
use Prim.Native.Nat.{◌+◌, ◌-◌}
use native.Mathlib.Omega.{arith}
use lib.ListN.{length}
use Rattle.spec_file.specs.Bytes.{part, store}
use Rattle.law_file.proofs.Bytes.{part_length}
use Rattle.law_file.proofs.Stores.{part-lent, store-lent}
use borrow.Author.Rules.{rules}
use Rattle.convert_bare.proofs.carry.Statement.{statement}
use Rattle.convert_bare.proofs.carry.Tie as tie

add-end : tie.Need-overflow_add-end
add-end c = search rules

sub-copy : tie.Need-slice_bounds-copy-count
sub-copy c = search rules

part-copy-start : tie.Need-slice_bounds-copy-start
part-copy-start c = search rules

part-copy-end : tie.Need-slice_bounds-copy-end
part-copy-end c = search rules

sub-copy-2 : tie.Need-slice_bounds-copy-count-2
sub-copy-2 c = search rules

part-copy-start-2 : tie.Need-slice_bounds-copy-start-2
part-copy-start-2 c = search rules

part-copy-end-2 : tie.Need-slice_bounds-copy-end-2
part-copy-end-2 c = search rules

copy-requires : tie.Need-copy-requires
copy-requires c κs = search rules

same_length : tie.Need-shape_of-target
same_length c = search rules

returns : tie.Need-returns
returns c = let S = c in
    let t = S.args.target.now in
    let src = S.args.source.now in
    let p = S.args.p in
    let n = S.args.n in
    let w = c.copy in
    let e : w.new.dst ≡ part src p n = w.ensures ∙ part-lent src p n in
    let m : n ≡ p + n - p = omega arith in
    store-lent t p (p + n) w.new.dst (ap length e ∙ part_length src p n S.requires.0 ∙ m) ∙ ap (store t p) e

pub carry_spec : {M : Type 1} → statement M
carry_spec =
    tie.close
    (tie.spec
    add-end
    sub-copy
    part-copy-start
    part-copy-end
    sub-copy-2
    part-copy-start-2
    part-copy-end-2
    copy-requires
    same_length
    returns)
