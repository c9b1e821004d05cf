-- Start and length as `locate` answers them; both fit 32 bits. Assumes nothing.
use borrow.Author.Rules.{rules}
use mathlib.Core.Path.{refl, ◌∙◌}
use native.Mathlib.Omega.{arith}
use Rattle.spec_file.specs.Calls.{lookup}
use Rattle.export_lookup.proofs.Small.{lookup-small}
use Rattle.export_lookup.proofs.lookup.Statement.{statement}
use Rattle.export_lookup.proofs.lookup.Tie as tie

locate-requires : tie.Need-locate-found-requires
locate-requires c κs = search rules

at-requires : tie.Need-at-requires
at-requires c κs = search rules

cast-offset : tie.Need-overflow_cast-offset
cast-offset c =
    let L = c in
    let A = L.args in
    omega (arith, lookup-small A.image.now A.key.now, c.at.ensures, L.locate-found.ensures.1)

cast-length : tie.Need-overflow_cast-length
cast-length c =
    let L = c in
    let A = L.args in
    omega (arith, lookup-small A.image.now A.key.now, L.locate-found.ensures.2)

returns : tie.Need-returns
unfolding lookup
returns c =
    let L = c in
    let e = L.locate-found.ensures in
    record { number = e.0; start = c.at.ensures ∙ e.1; long = e.2; image = refl }

pub lookup_spec : {M : Type 1} → statement M
lookup_spec =
    tie.close
    (tie.spec
    locate-requires
    at-requires
    cast-offset
    cast-length
    returns)
