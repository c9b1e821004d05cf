-- Epoch, start and length as `locate_at` answers them; start and length fit 32 bits. Assumes nothing.
use native.Mathlib.Omega.{arith}
use mathlib.Core.Path.{refl, ◌∙◌}
use borrow.Author.Rules.{rules}
use Rattle.law_epoch.proofs.Answers.{at_small}
use Rattle.export_lookup.proofs.at_epoch.Statement.{statement}
use Rattle.export_lookup.proofs.at_epoch.Tie as tie

locate-at-requires : tie.Need-locate_at-dated-requires
locate-at-requires c κs = search rules

at-requires : tie.Need-at-requires
at-requires c κs = search rules

cast-offset : tie.Need-overflow_cast-offset
cast-offset c =
    let L = c in
    let A = L.args in
    omega (
      arith,
      at_small A.image.now A.name.now A.epoch,
      c.at.ensures,
      L.locate_at-dated.ensures.start,
    )

cast-length : tie.Need-overflow_cast-length
cast-length c =
    let L = c in
    let A = L.args in
    omega (arith, at_small A.image.now A.name.now A.epoch, L.locate_at-dated.ensures.length)

returns : tie.Need-returns
returns c =
    let l = c.locate_at-dated.ensures in
    record {
      number = l.number;
      epoch = l.epoch;
      start = c.at.ensures ∙ l.start;
      long = l.length;
      image = refl;
    }

pub at_epoch_spec : {M : Type 1} → statement M
at_epoch_spec =
    tie.close
    (tie.spec
    locate-at-requires
    at-requires
    cast-offset
    cast-length
    returns)
