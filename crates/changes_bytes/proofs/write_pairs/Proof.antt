-- One window, the whole image. Assumes nothing.
use native.Mathlib.Omega.{arith}
use mathlib.Core.Path.{◌≡◌, ap, ◌∙◌}
use lib.ListN.{length}
use borrow.Author.Rules.{rules}
use Rattle.spec_file.specs.Bytes.{Bytes, store}
use Rattle.spec_changes.specs.Changes.{runs, pair_bytes}
use Rattle.changes_windows.specs.Windows.{before}
use Rattle.changes_windows.proofs.Windowed.{kept_whole, before-whole}
use Rattle.changes_bytes.proofs.write_pairs.Statement.{statement}
use Rattle.changes_bytes.proofs.write_pairs.Tie as tie

whole-requires : tie.Need-whole-requires
whole-requires c κs = search rules

-- the function's start, and that the image before is the old one
abbrev start : tie.After-whole → tie.Start
start W = W.before.before.before.before.before

is-old : (W : tie.After-whole)
    → let S : tie.Start = start W in
    before W.whole.result S.args.old.now S.args.new.now ≡ S.args.old.now
is-old W =
    let S = start W in
    before-whole W.whole.result S.args.old.now S.args.new.now S.requires.0 W.whole.ensures

write-pairs-within-requires : tie.Need-write_pairs_within-requires
write-pairs-within-requires c κs =
    let S = start c in (
      kept_whole _ _ _ S.requires.0 c.whole.ensures,
      omega (arith, S.requires.0, S.requires.1),
      omega (
        arith,
        ap (λ (b : Bytes). length (pair_bytes (runs 0 b S.args.new.now))) (is-old c),
        S.requires.2,
      ),
    )

same_length : tie.Need-shape_of-list
same_length c = search rules

returns : tie.Need-returns
returns c =
    let C = c in
    let W = c.before.before.before in
    let S = start W in
    C.write_pairs_within.ensures
    ∙ ap (λ (b : Bytes). store S.args.list.now S.args.place (pair_bytes (runs 0 b S.args.new.now)))
    (is-old W)

pub write_pairs_spec : {M : Type 1} → statement M
write_pairs_spec =
    tie.close
    (tie.spec
    whole-requires
    write-pairs-within-requires
    same_length
    returns)
