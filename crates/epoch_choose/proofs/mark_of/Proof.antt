-- `epoch_choose::mark_of` meets its contract. Assumes nothing.
use native.Mathlib.Omega.{arith}
use mathlib.Core.Path.{◌≡◌, sym, ap, ◌∙◌}
use Prim.Native.Nat.{ℕ, ◌-◌}
use lib.ListN.{length, take}
use lib.Seq.{length-take-le}
use borrow.Author.Rules.{rules}
use Rattle.spec_file.specs.Bytes.{part}
use Rattle.bytes_compare.specs.Little.{little}
use Rattle.epoch_choose.proofs.Keys.{part-take}
use Rattle.epoch_choose.proofs.mark_of.Statement.{statement}
use Rattle.epoch_choose.proofs.mark_of.Tie as tie

filled-requires : tie.Need-filled-end-requires
filled-requires c κs = search rules

returns : tie.Need-returns-then-end-lt4
returns c = search rules

slice-aggregate-tail : tie.Need-slice_bounds-tail-end
slice-aggregate-tail c =
    let F = c in
    sym (length-take-le F.filled-end.result F.args.name.now F.filled-end.ensures)

tail-requires : tie.Need-tail-block-requires
tail-requires c κs =
    let F = c in
    let l = length-take-le F.filled-end.result F.args.name.now F.filled-end.ensures in
    omega (arith, l, c.if-end-lt4.false)

returns-2 : tie.Need-returns
returns-2 c =
    let F = c in
    let end = F.filled-end.result in
    let name = F.args.name.now in
    let l : length (take end name) ≡ end = length-take-le end name F.filled-end.ensures in
    record {
      ends = F.filled-end.ensures;
      is = λ h.
          c.tail-block.ensures ∙ ap (λ (n : ℕ). little (part (take end name) (n - 4) 4)) l
          ∙ ap little (part-take name end (end - 4) 4 (omega arith));
    }

pub mark_of_spec : {M : Type 1} → statement M
mark_of_spec =
    tie.close
    (tie.spec
    filled-requires
    returns
    slice-aggregate-tail
    tail-requires
    returns-2)
