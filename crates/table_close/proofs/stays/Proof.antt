-- `table_close::stays` meets its contract: `among` by two distances from the slot after the hole.
-- Assumes nothing.
use Prim.Native.Nat.{ℕ}
use mathlib.Core.Path.{ap, ap₂, ◌∙◌}
use native.Mathlib.Omega.{arith}
use lib.Dec.{leb}
use Rattle.spec_file.specs.Delete.{among}
use Rattle.spec_file.specs.Search.{next, dist}
use Rattle.law_file.proofs.Cyclic.{next-lt}
use borrow.Author.Rules.{rules}
use Rattle.table_close.proofs.stays.Statement.{statement}
use Rattle.table_close.proofs.stays.Tie as tie

next-requires : tie.Need-next-after-requires
next-requires c κs = search rules

dist-requires : tie.Need-dist-requires
dist-requires c κs =
    let S = c in
    omega (arith, c.next-after.ensures, next-lt S.args.slots S.args.hole.0 S.requires.1)

dist-requires-2 : tie.Need-dist-requires-2
dist-requires-2 c κs =
    let S = c in
    omega (arith, c.next-after.ensures, next-lt S.args.slots S.args.hole.0 S.requires.1)

returns : tie.Need-returns
unfolding among
returns c =
    let S = c in
    ap₂ leb c.dist.ensures c.dist-2.ensures
    ∙ ap (λ (a : ℕ). leb (dist S.args.slots a S.args.home.0) (dist S.args.slots a S.args.j.0))
    c.next-after.ensures

pub stays_spec : {M : Type 1} → statement M
stays_spec =
    tie.close
    (tie.spec
    next-requires
    dist-requires
    dist-requires-2
    returns)
