-- Byte 5 and K of both, compared. Assumes nothing.
use native.Mathlib.Omega.{arith}
use mathlib.Core.Path.{◌≡◌, ap₂}
use Prim.Native.Nat.{ℕ}
use mathlib.Core.Bool.{◌&&◌}
use lib.ListN.{get_or}
use lib.Dec.{eqb}
use Rattle.spec_file.specs.Image.{major_of, layout_of}
use Rattle.law_file.proofs.Opened.{opened-facts}
use Rattle.spec_moves.specs.Moves.{same_kind}
use Rattle.growth_open.proofs.same_kind.Statement.{statement}
use Rattle.growth_open.proofs.same_kind.Tie as tie

shared-slice-read-result : tie.Need-bounds-new-5
shared-slice-read-result c =
    let S = c in
    omega (arith, (opened-facts S.args.new.now S.requires.1).size_low)

shared-slice-read-result-2 : tie.Need-bounds-old-5
shared-slice-read-result-2 c =
    let S = c in
    omega (arith, (opened-facts S.args.old.now S.requires.0).size_low)

read-u32-requires : tie.Need-read_u32-requires
read-u32-requires c κs =
    let S = c in
    omega (arith, (opened-facts S.args.new.now S.requires.1).size_low)

read-u32-requires-2 : tie.Need-read_u32-requires-2
read-u32-requires-2 c κs =
    let S = c in
    omega (arith, (opened-facts S.args.old.now S.requires.0).size_low)

returns : tie.Need-returns
unfolding same_kind major_of layout_of
returns c =
    let A = c.args in
    ap₂ (λ (x y : ℕ). eqb (get_or A.new.now 5 0) (get_or A.old.now 5 0) && eqb x y)
    c.read_u32.ensures c.read_u32-2.ensures

pub same_kind_spec : {M : Type 1} → statement M
same_kind_spec =
    tie.close
    (tie.spec
    shared-slice-read-result
    shared-slice-read-result-2
    read-u32-requires
    read-u32-requires-2
    returns)
