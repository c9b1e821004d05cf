-- Three bytes, written one by one. Assumes nothing.
use mathlib.Core.Path.{◌≡◌, refl}
use native.Mathlib.Omega.{arith}
use mathlib.Core.List.{List, [], ◌∷◌}
use Prim.Native.Nat.{ℕ}
use lib.ListN.{length, set}
use borrow.Author.Rules.{rules}
use Rattle.spec_file.specs.Bytes.{Bytes}
use Rattle.call_add.proofs.write_version.Statement.{statement}
use Rattle.call_add.proofs.write_version.Tie as tie

three : (l : Bytes) → length l ≡ 3 → set (set (set l 0 1) 1 0) 2 2 ≡ 1 ∷ 0 ∷ 2 ∷ []
three [] h = absurd (omega arith)
three (a ∷ []) h = absurd (omega arith)
three (a ∷ b ∷ []) h = absurd (omega arith)
three (a ∷ b ∷ c ∷ []) h = refl
three (a ∷ b ∷ c ∷ d ∷ l) h = absurd (omega arith)

slice-write-part : tie.Need-bounds-part-0
slice-write-part c = search rules

slice-write-part-2 : tie.Need-bounds-part-1
slice-write-part-2 c = search rules

slice-write-part-3 : tie.Need-bounds-part-2
slice-write-part-3 c = search rules

same_length : tie.Need-shape_of-part
same_length c = search rules

returns : tie.Need-returns
returns c = three c.args.part.now c.requires

pub write_version_spec : {M : Type 1} → statement M
write_version_spec =
    tie.close
    (tie.spec
    slice-write-part
    slice-write-part-2
    slice-write-part-3
    same_length
    returns)
