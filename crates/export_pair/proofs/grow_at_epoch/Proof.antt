-- Epoch, start and length as `locate_pair_at` answers them, and which image has the text; all fit 32 bits.
-- Assumes nothing.
use native.Mathlib.Omega.{arith}
use mathlib.Core.Path.{refl, ◌∙◌}
use Prim.Native.Nat.{ℕ}
use borrow.Author.Rules.{rules}
use Rattle.spec_file.specs.Bytes.{Bytes}
use Rattle.spec_moves.specs.Moves.{Pair}
use Rattle.export_pair.proofs.Growing.{grow-at-small, dated-side}
use Rattle.export_pair.proofs.grow_at_epoch.Statement.{statement}
use Rattle.export_pair.proofs.grow_at_epoch.Tie as tie

abbrev pair : tie.After-locate_pair_at-held → Pair
pair c =
    let A = c.args in
    record { old = A.old.now; new = A.new.now }

abbrev name : tie.After-locate_pair_at-held → Bytes
name c = c.args.name.now

abbrev t : tie.After-locate_pair_at-held → ℕ
t c = c.args.epoch

locate-pair-at-requires : tie.Need-locate_pair_at-held-requires
locate-pair-at-requires c κs = search rules

at-requires : tie.Need-at-start-requires
at-requires c κs = search rules

shown-in-new-requires : tie.Need-shown_in_new-requires
shown-in-new-requires c κs = search rules

cast-offset : tie.Need-overflow_cast-offset
cast-offset c =
    let L = c.before.before.before.before.before in
    omega (
      arith,
      grow-at-small (pair L) (name L) (t L),
      c.at-start.ensures,
      L.locate_pair_at-held.ensures.answers.start,
    )

cast-length : tie.Need-overflow_cast-length
cast-length c =
    let L = c.before.before.before.before.before.before in
    omega (arith, grow-at-small (pair L) (name L) (t L), L.locate_pair_at-held.ensures.answers.length)

returns : tie.Need-returns
returns c =
    let S = c in
    let L = c.before.before.before.before.before.before in
    let l = L.locate_pair_at-held.ensures in
    let a = l.answers in
    let start = S.at-start.ensures ∙ a.start in
    record {
      number = a.number;
      epoch = a.epoch;
      side = dated-side (pair L) (name L) (t L) _ l _ _ start S.shown_in_new.ensures;
      start = start;
      long = a.length;
      old = refl;
      new = refl;
    }

pub grow_at_epoch_spec : {M : Type 1} → statement M
grow_at_epoch_spec =
    tie.close
    (tie.spec
    locate-pair-at-requires
    at-requires
    shown-in-new-requires
    cast-offset
    cast-length
    returns)
