-- One window, the whole image. Assumes nothing.
use Prim.Native.Nat.{ℕ}
use mathlib.Core.Path.{sym, ap₂, subst}
use lib.ListN.{length}
use borrow.Author.Rules.{rules}
use Rattle.spec_file.specs.Bytes.{Bytes}
use Rattle.spec_changes.specs.Changes.{runs}
use Rattle.changes_windows.specs.Scans.{Measured}
use Rattle.changes_windows.proofs.Windowed.{kept_whole, before-whole}
use Rattle.changes_bytes.proofs.measure.Statement.{statement}
use Rattle.changes_bytes.proofs.measure.Tie as tie

whole-requires : tie.Need-whole-requires
whole-requires c κs = search rules

measure-within-requires : tie.Need-measure_within-requires
measure-within-requires c κs = kept_whole _ _ _ c.requires c.whole.ensures

returns : tie.Need-returns
returns c =
    let W = c in
    let S = c in
    let r = c.measure_within.result in
    subst (λ (n : ℕ). Measured (runs 0 S.args.old.now S.args.new.now) n r.pairs r.bytes) (sym S.requires)
    (subst (λ (b : Bytes). Measured (runs 0 b S.args.new.now) (length S.args.new.now) r.pairs r.bytes)
    (before-whole W.whole.result S.args.old.now S.args.new.now S.requires W.whole.ensures)
    c.measure_within.ensures)

pub measure_spec : {M : Type 1} → statement M
measure_spec =
    tie.close
    (tie.spec
    whole-requires
    measure-within-requires
    returns)
