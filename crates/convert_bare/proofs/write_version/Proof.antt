-- `convert_bare::write_version` meets its contract: three bytes, by the version. Assumes nothing.
use mathlib.Core.Path.{◌≡◌, refl, sym, ◌∙◌}
use Prim.Native.Nat.{ℕ}
use native.Mathlib.Omega.{arith}
use mathlib.Core.List.{[], ◌∷◌}
use lib.ListN.{length, set}
use borrow.Author.Tests.{ne_eqb}
use Rattle.spec_file.specs.Bytes.{Bytes}
use Rattle.spec_file.specs.Image.{wide}
use Rattle.spec_conversion.specs.Convert.{other_version}
use borrow.Author.Rules.{rules}
use Rattle.convert_bare.proofs.write_version.Statement.{statement}
use Rattle.convert_bare.proofs.write_version.Tie as tie

three : (l : Bytes) (a b c : ℕ) → length l ≡ 3 → set (set (set l 0 a) 1 b) 2 c ≡ a ∷ b ∷ c ∷ []
three [] a b c h = absurd (omega arith)
three (x ∷ []) a b c h = absurd (omega arith)
three (x ∷ y ∷ []) a b c h = absurd (omega arith)
three (x ∷ y ∷ z ∷ []) a b c h = refl
three (x ∷ y ∷ z ∷ w ∷ l) a b c h = absurd (omega arith)

slice-write-part : tie.Need-bounds-part-0
slice-write-part c = search rules

slice-write-part-2 : tie.Need-bounds-part-1
slice-write-part-2 c = search rules

slice-write-part-3 : tie.Need-bounds-part-2
slice-write-part-3 c = search rules

same_length : tie.Need-shape_of-part-then-major-eq-WIDE_MAJOR
same_length c = search rules

returns : tie.Need-returns-then-major-eq-WIDE_MAJOR
unfolding other_version wide
returns c = let S = c in
    three S.args.part.now 1 0 2 S.requires ∙ sym (rw c.if-major-eq-WIDE_MAJOR.true refl)

slice-write-part-4 : tie.Need-bounds-part-0-2
slice-write-part-4 c = search rules

slice-write-part-5 : tie.Need-bounds-part-1-2
slice-write-part-5 c = search rules

slice-write-part-6 : tie.Need-bounds-part-2-2
slice-write-part-6 c = search rules

same-length-2 : tie.Need-shape_of-part
same-length-2 c = search rules

returns-2 : tie.Need-returns
unfolding other_version wide
returns-2 c = let S = c in
    three S.args.part.now 2 0 0 S.requires ∙ sym (rw (ne_eqb _ 2 c.if-major-eq-WIDE_MAJOR.false) refl)

pub write_version_spec : {M : Type 1} → statement M
write_version_spec =
    tie.close
    (tie.spec
    slice-write-part
    slice-write-part-2
    slice-write-part-3
    same_length
    returns
    slice-write-part-4
    slice-write-part-5
    slice-write-part-6
    same-length-2
    returns-2)
