-- The pairs fit, or the single pair stands for them. Assumes nothing.
use Prim.Native.Nat.{ℕ, ◌*◌, ◌≤◌, ◌<◌}
use native.Mathlib.Omega.{arith}
use mathlib.Core.Path.{◌≡◌, sym, ap, ◌∙◌}
use mathlib.Core.List.{List}
use lib.ListN.{length}
use borrow.Author.Rules.{rules}
use Rattle.spec_file.specs.Bytes.{Bytes, store}
use Rattle.spec_changes.specs.Changes.{Pair, runs, pair_bytes, whole, changes_in}
use Rattle.spec_changes.proofs.Journal.{length-pair_bytes}
use Rattle.changes_windows.specs.Windows.{before}
use Rattle.changes_windows.proofs.Scanning.{changes-fit, changes-whole, whole-bytes}
use Rattle.changes_pairs.proofs.fill_list_within.Statement.{statement}
use Rattle.changes_pairs.proofs.fill_list_within.Tie as tie

measure-within-requires : tie.Need-measure_within-tally-requires
measure-within-requires c κs = search rules

mul-if1 : tie.Need-overflow_mul-pairs
mul-if1 c =
    let S = c in
    omega (arith, c.measure_within-tally.ensures.few, S.requires.1)

write-pairs-within-requires : tie.Need-write_pairs_within-requires
write-pairs-within-requires c κs =
    let M = c in
    let S = c in (
      S.requires.0,
      S.requires.1,
      omega (
        arith,
        length-pair_bytes
            (runs 0 (before S.args.w S.args.work.now S.args.new.now) S.args.new.now),
        M.measure_within-tally.ensures.counted,
        c.if-pairs-list.true,
      ),
    )

cast-result : tie.Need-overflow_cast-result
cast-result c =
    let M = c in
    omega (arith, M.measure_within-tally.ensures.few, M.requires.1)

same_length : tie.Need-shape_of-list-then-pairs-list
same_length c = search rules

returns : tie.Need-returns-then-pairs-list
returns c =
    let W = c in
    let T = c in
    let M = c in
    let S = c in
    let list = S.args.list.now in
    let old = before S.args.w S.args.work.now S.args.new.now in
    let new = S.args.new.now in
    let fits : changes_in (length list) old new ≡ runs 0 old new =
    changes-fit (length list) old new (omega (arith, M.measure_within-tally.ensures.counted, T.if-pairs-list.true)) in (
      M.measure_within-tally.ensures.counted ∙ ap (λ (l : List Pair). length l) (sym fits),
      W.write_pairs_within.ensures ∙ ap (λ (l : List Pair). store list 0 (pair_bytes l)) (sym fits),
    )

put-pair-requires : tie.Need-put_pair-requires
put-pair-requires c κs =
    let S = c in
    (omega (arith, S.requires.2), omega arith, omega (arith, S.requires.1))

same-length-2 : tie.Need-shape_of-list
same-length-2 c = search rules

returns-2 : tie.Need-returns
returns-2 c =
    let P = c in
    let T = c in
    let M = c in
    let S = c in
    let list = S.args.list.now in
    let old = before S.args.w S.args.work.now S.args.new.now in
    let new = S.args.new.now in
    let fails : changes_in (length list) old new ≡ whole (length new) =
    changes-whole (length list) old new (omega (arith, M.measure_within-tally.ensures.counted, T.if-pairs-list.false)) in (
      ap (λ (l : List Pair). length l) (sym fails),
      P.put_pair.ensures
          ∙ ap (store list 0) (whole-bytes (length new))
          ∙ ap (λ (l : List Pair). store list 0 (pair_bytes l)) (sym fails),
    )

pub fill_list_within_spec : {M : Type 1} → statement M
fill_list_within_spec =
    tie.close
    (tie.spec
    measure-within-requires
    mul-if1
    write-pairs-within-requires
    cast-result
    same_length
    returns
    put-pair-requires
    same-length-2
    returns-2)
