-- Write number k: a stretch, or the mark. Assumes nothing.
use native.Mathlib.Omega.{arith}
use mathlib.Core.Path.{refl}
use Rattle.journal_recover.proofs.Going.{one-stretch, one-mark}
use borrow.Author.Rules.{rules}
use Rattle.journal_recover.proofs.write_one.Statement.{statement}
use Rattle.journal_recover.proofs.write_one.Tie as tie

write-stretch-requires : tie.Need-write_stretch-requires
write-stretch-requires c κs =
    let T = c in
    let S = c in
    S.requires.1 T.if-k-pairs.true

same_length : tie.Need-shape_of-image-then-k-pairs
same_length c = search rules

same-length-2 : tie.Need-shape_of-journal-then-k-pairs
same-length-2 c = search rules

returns : tie.Need-returns-then-k-pairs
returns c =
    let W = c in
    let T = c in
    let S = c in
    let A = S.args in (
      one-stretch A.image.now A.journal.now A.pairs A.k A.from T.if-k-pairs.true
          W.write_stretch.new.image A.journal.now W.write_stretch.ensures.0 refl,
      λ h. W.write_stretch.ensures.1,
    )

clear-mark-requires : tie.Need-clear_mark-requires
clear-mark-requires c κs = search rules

same-length-3 : tie.Need-shape_of-journal
same-length-3 c = search rules

returns-2 : tie.Need-returns
returns-2 c =
    let C = c in
    let E = c in
    let S = c in
    let A = S.args in (
      one-mark A.image.now A.journal.now A.pairs A.k A.from (omega (arith, E.if-k-pairs.false))
          A.image.now C.clear_mark.new.journal refl C.clear_mark.ensures,
      λ h. absurd (omega (arith, E.if-k-pairs.false)),
    )

pub write_one_spec : {M : Type 1} → statement M
write_one_spec =
    tie.close
    (tie.spec
    write-stretch-requires
    same_length
    same-length-2
    returns
    clear-mark-requires
    same-length-3
    returns-2)
