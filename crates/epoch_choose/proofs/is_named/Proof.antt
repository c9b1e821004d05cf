-- `epoch_choose::is_named` meets its contract: other four bytes are another name. Assumes nothing.
use native.Mathlib.Omega.{arith}
use mathlib.Core.Path.{sym}
use lib.Seq.{length-take-le}
use borrow.Author.Rules.{rules}
use Rattle.epoch_choose.proofs.Keys.{mark-other}
use Rattle.epoch_choose.proofs.is_named.Statement.{statement}
use Rattle.epoch_choose.proofs.is_named.Tie as tie

slice-aggregate-tail : tie.Need-slice_bounds-tail-end
slice-aggregate-tail c =
    let S = c in
    sym (length-take-le S.args.mark.end S.args.key.now (omega (arith, S.requires.room, S.requires.marks.ends)))

tail-requires : tie.Need-tail-requires
tail-requires c κs =
    let S = c in
    let l =
    length-take-le S.args.mark.end S.args.key.now (omega (arith, S.requires.room, S.requires.marks.ends)) in
    omega (arith, l, c.if-end-ge4.true)

returns : tie.Need-returns-then-tail-mark
returns c =
    let S = c in
    let A = S.args in
    mark-other A.key.now A.name.now A.mark _ S.requires
    c.if-end-ge4.true c.tail.ensures c.if-tail-mark.true

slice-aggregate-same-bytes : tie.Need-slice_bounds-same_bytes-end
slice-aggregate-same-bytes c =
    let S = c in
    sym (length-take-le _ S.args.key.now S.requires.room)

same-bytes-requires : tie.Need-same_bytes-requires
same-bytes-requires c κs = search rules

returns-2 : tie.Need-returns
returns-2 c = search rules

pub is_named_spec : {M : Type 1} → statement M
is_named_spec =
    tie.close
    (tie.spec
    slice-aggregate-tail
    tail-requires
    returns
    slice-aggregate-same-bytes
    same-bytes-requires
    returns-2)
