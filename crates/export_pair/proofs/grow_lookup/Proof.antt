-- Start and length as `locate_pair` answers them, and which image has the text; all fit 32 bits. Assumes nothing.
use native.Mathlib.Omega.{arith}
use mathlib.Core.Path.{refl, ◌∙◌}
use borrow.Author.Rules.{rules}
use Rattle.spec_file.specs.Bytes.{Bytes}
use Rattle.spec_moves.specs.Moves.{Pair}
use Rattle.export_pair.proofs.Growing.{grow-lookup-small, lookup-side}
use Rattle.export_pair.proofs.grow_lookup.Statement.{statement}
use Rattle.export_pair.proofs.grow_lookup.Tie as tie

abbrev pair : tie.After-locate_pair-held → Pair
pair c =
    let A = c.args in
    record { old = A.old.now; new = A.new.now }

abbrev key : tie.After-locate_pair-held → Bytes
key c = c.args.key.now

locate-pair-requires : tie.Need-locate_pair-held-requires
locate-pair-requires c κs = search rules

at-requires : tie.Need-at-start-requires
at-requires c κs = search rules

shown-in-new-requires : tie.Need-shown_in_new-requires
shown-in-new-requires c κs = search rules

cast-offset : tie.Need-overflow_cast-offset
cast-offset c =
    let L = c.before.before.before.before in
    omega (arith, grow-lookup-small (pair L) (key L), c.at-start.ensures, L.locate_pair-held.ensures.start)

cast-length : tie.Need-overflow_cast-length
cast-length c =
    let L = c.before.before.before.before.before in
    omega (arith, grow-lookup-small (pair L) (key L), L.locate_pair-held.ensures.length)

returns : tie.Need-returns
returns c =
    let S = c in
    let L = c.before.before.before.before.before in
    let l = L.locate_pair-held.ensures in
    let start = S.at-start.ensures ∙ l.start in
    record {
      number = l.number;
      side = lookup-side (pair L) (key L) _ l _ _ start S.shown_in_new.ensures;
      start = start;
      long = l.length;
      old = refl;
      new = refl;
    }

pub grow_lookup_spec : {M : Type 1} → statement M
grow_lookup_spec =
    tie.close
    (tie.spec
    locate-pair-requires
    at-requires
    shown-in-new-requires
    cast-offset
    cast-length
    returns)
