-- Write number k: content, mark, or what the marked journal asks for. Assumes nothing.
use Prim.Native.Nat.{◌≤◌}
use native.Mathlib.Omega.{arith}
use mathlib.Core.Path.{refl}
use Rattle.journal_commit.proofs.Carrying.{does-content, does-mark, does-later}
use borrow.Author.Rules.{rules}
use Rattle.journal_commit.proofs.write_number.Statement.{statement}
use Rattle.journal_commit.proofs.write_number.Tie as tie

write-content-requires : tie.Need-write_content-requires
write-content-requires c κs =
    let T = c in
    let S = c in
    S.requires.first T.if-k-eq0.true

same_length : tie.Need-shape_of-image-then-k-eq0
same_length c = search rules

same-length-2 : tie.Need-shape_of-journal-then-k-eq0
same-length-2 c = search rules

returns : tie.Need-returns-then-k-eq0
returns c =
    let W = c in
    let T = c in
    let S = c in
    let A = S.args in (
      does-content A.image.now A.new.now A.journal.now A.pairs A.k A.from T.if-k-eq0.true
          W.write_content.new.journal W.write_content.ensures,
      λ h. refl,
      λ h. absurd (omega (arith, T.if-k-eq0.true)),
    )

set-mark-requires : tie.Need-set_mark-requires
set-mark-requires c κs = search rules

same-length-3 : tie.Need-shape_of-journal-then-k-eq1
same-length-3 c = search rules

returns-2 : tie.Need-returns-then-k-eq1
returns-2 c =
    let C = c in
    let T = c in
    let S = c in
    let A = S.args in (
      does-mark A.image.now A.new.now A.journal.now A.pairs A.k A.from T.if-k-eq1.true
          C.set_mark.new.journal C.set_mark.ensures,
      λ h. refl,
      λ h. absurd (omega (arith, T.if-k-eq1.true)),
    )

sub-write-one : tie.Need-overflow_sub-k
sub-write-one c = search rules

write-one-requires : tie.Need-write_one-requires
write-one-requires c κs =
    let E = c in
    let S = c in
    (S.requires.some, λ h. S.requires.reads (omega (arith, E.if-k-eq1.false, E.if-k-eq0.false)) h)

same-length-4 : tie.Need-shape_of-image
same-length-4 c = search rules

same-length-5 : tie.Need-shape_of-journal
same-length-5 c = search rules

returns-3 : tie.Need-returns
returns-3 c =
    let W = c in
    let E = c in
    let S = c in
    let A = S.args in
    let two : 2 ≤ A.k = omega (arith, E.if-k-eq1.false, E.if-k-eq0.false) in (
      does-later A.image.now A.new.now A.journal.now A.pairs A.k A.from two
          W.write_one.new.image W.write_one.new.journal W.write_one.ensures.0,
      λ h. absurd (omega arith),
      λ h f. W.write_one.ensures.1 f,
    )

pub write_number_spec : {M : Type 1} → statement M
write_number_spec =
    tie.close
    (tie.spec
    write-content-requires
    same_length
    same-length-2
    returns
    set-mark-requires
    same-length-3
    returns-2
    sub-write-one
    write-one-requires
    same-length-4
    same-length-5
    returns-3)
