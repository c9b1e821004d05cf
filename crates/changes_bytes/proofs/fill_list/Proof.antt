-- One window, the whole image. Assumes nothing.
use native.Mathlib.Omega.{arith}
use mathlib.Core.Path.{◌≡◌, ap, ◌∙◌}
use lib.ListN.{length}
use borrow.Author.Rules.{rules}
use Rattle.spec_file.specs.Bytes.{Bytes, store}
use Rattle.spec_changes.specs.Changes.{pair_bytes, changes_in}
use Rattle.changes_windows.specs.Windows.{before}
use Rattle.changes_windows.proofs.Windowed.{kept_whole, before-whole}
use Rattle.changes_bytes.proofs.fill_list.Statement.{statement}
use Rattle.changes_bytes.proofs.fill_list.Tie as tie

whole-requires : tie.Need-whole-requires
whole-requires c κs = search rules

-- the function's start, and that the image before is the old one
abbrev start : tie.After-whole → tie.Start
start W = W.before.before.before.before.before

is-old : (W : tie.After-whole)
    → let S : tie.Start = start W in
    before W.whole.result S.args.old.now S.args.new.now ≡ S.args.old.now
is-old W =
    let S = start W in
    before-whole W.whole.result S.args.old.now S.args.new.now S.requires.0 W.whole.ensures

fill-list-within-requires : tie.Need-fill_list_within-requires
fill-list-within-requires c κs =
    let S = start c in (
      kept_whole _ _ _ S.requires.0 c.whole.ensures,
      omega (arith, S.requires.0, S.requires.1),
      S.requires.2,
    )

same_length : tie.Need-shape_of-list
same_length c = search rules

returns : tie.Need-returns
returns c =
    let C = c in
    let W = c.before.before.before in
    let S = start W in
    let list = S.args.list.now in
    let new = S.args.new.now in (
      C.fill_list_within.ensures.0 ∙ ap (λ (b : Bytes). length (changes_in (length list) b new)) (is-old W),
      C.fill_list_within.ensures.1
          ∙ ap (λ (b : Bytes). store list 0 (pair_bytes (changes_in (length list) b new))) (is-old W),
    )

pub fill_list_spec : {M : Type 1} → statement M
fill_list_spec =
    tie.close
    (tie.spec
    whole-requires
    fill-list-within-requires
    same_length
    returns)
