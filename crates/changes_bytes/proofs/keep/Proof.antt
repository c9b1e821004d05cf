-- A window after the other is copied. Assumes nothing.
use Prim.Native.Nat.{ℕ, ◌-◌}
use mathlib.Core.Path.{ap, ◌∙◌}
use borrow.Author.Rules.{rules}
use Rattle.spec_file.specs.Bytes.{Bytes, part, store}
use Rattle.spec_changes.specs.Changes.{copied}
use Rattle.changes_windows.specs.Windows.{windows_of}
use Rattle.changes_bytes.proofs.keep.Statement.{statement}
use Rattle.changes_bytes.proofs.keep.Tie as tie

put-part-requires : tie.Need-put_part-requires
put-part-requires c κs = search rules

put-part-requires-2 : tie.Need-put_part-requires-2
put-part-requires-2 c κs = search rules

put-part-requires-3 : tie.Need-put_part-requires-3
put-part-requires-3 c κs = search rules

put-part-requires-4 : tie.Need-put_part-requires-4
put-part-requires-4 c κs = search rules

same_length : tie.Need-shape_of-work
same_length c = search rules

returns : tie.Need-returns
unfolding windows_of copied
returns c =
    let P4 = c in
    let P3 = c in
    let P2 = c in
    let P1 = c in
    let A = P1.args in
    let piece : ℕ → ℕ → Bytes = λ from end. part A.image.now from (end - from) in
    P4.put_part-4.ensures.0
    ∙ ap (λ (b : Bytes). store b A.w.from4 (piece A.w.from4 A.w.end4))
    (P3.put_part-3.ensures.0
    ∙ ap (λ (b : Bytes). store b A.w.from3 (piece A.w.from3 A.w.end3))
    (P2.put_part-2.ensures.0
    ∙ ap (λ (b : Bytes). store b A.w.from2 (piece A.w.from2 A.w.end2))
    P1.put_part.ensures.0))

pub keep_spec : {M : Type 1} → statement M
keep_spec =
    tie.close
    (tie.spec
    put-part-requires
    put-part-requires-2
    put-part-requires-3
    put-part-requires-4
    same_length
    returns)
