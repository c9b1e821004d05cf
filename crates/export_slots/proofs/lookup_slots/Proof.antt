-- Start, length and slots read as `locate_slots` answers them; all fit 32 bits. Assumes nothing.
use borrow.Author.Rules.{rules}
use mathlib.Core.Path.{refl, ◌∙◌}
use native.Mathlib.Omega.{arith}
use Rattle.spec_file.specs.Calls.{lookup}
use Rattle.export_lookup.proofs.Small.{lookup-small}
use Rattle.export_slots.proofs.Small.{lookup-few}
use Rattle.export_slots.proofs.lookup_slots.Statement.{statement}
use Rattle.export_slots.proofs.lookup_slots.Tie as tie

locate-slots-requires : tie.Need-locate_slots-looked-requires
locate-slots-requires c κs = search rules

at-requires : tie.Need-at-requires
at-requires c κs = search rules

cast-offset : tie.Need-overflow_cast-offset
cast-offset c =
    let L = c in
    let A = L.args in
    omega (arith, lookup-small A.image.now A.key.now, c.at.ensures, L.locate_slots-looked.ensures.1)

cast-length : tie.Need-overflow_cast-length
cast-length c =
    let L = c in
    let A = L.args in
    omega (arith, lookup-small A.image.now A.key.now, L.locate_slots-looked.ensures.2)

cast-read : tie.Need-overflow_cast-read
cast-read c =
    let L = c in
    let A = L.args in
    omega (arith, lookup-few A.image.now A.key.now, L.locate_slots-looked.ensures.3)

returns : tie.Need-returns
unfolding lookup
returns c =
    let P = c in
    let e = P.locate_slots-looked.ensures in
    record {
      looks = record { number = e.0; start = P.at.ensures ∙ e.1; long = e.2; image = refl };
      slots = e.3;
    }

pub lookup_slots_spec : {M : Type 1} → statement M
lookup_slots_spec =
    tie.close
    (tie.spec
    locate-slots-requires
    at-requires
    cast-offset
    cast-length
    cast-read
    returns)
