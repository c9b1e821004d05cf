-- One stretch read and written. Assumes nothing.
use Prim.Native.Nat.{ℕ, ◌+◌, ◌-◌}
use native.Mathlib.Omega.{arith}
use mathlib.Core.Path.{◌≡◌, ap, ap₂, ◌∙◌}
use Rattle.spec_file.specs.Bytes.{part, store}
use Rattle.spec_changes.specs.Journal.{put}
use borrow.Author.Rules.{rules}
use Rattle.journal_recover.proofs.write_stretch.Statement.{statement}
use Rattle.journal_recover.proofs.write_stretch.Tie as tie

mul-read-u32 : tie.Need-overflow_mul-k
mul-read-u32 c = search rules

add-read-u32 : tie.Need-overflow_add-k
add-read-u32 c = search rules

read-u32-requires : tie.Need-read_u32-at-requires
read-u32-requires c κs = search rules

cast-at : tie.Need-overflow_cast-at
cast-at c = search rules

mul-read-u32-2 : tie.Need-overflow_mul-k-2
mul-read-u32-2 c = search rules

add-read-u32-2 : tie.Need-overflow_add-k-2
add-read-u32-2 c = search rules

read-u32-requires-2 : tie.Need-read_u32-size-requires
read-u32-requires-2 c κs = search rules

cast-size : tie.Need-overflow_cast-size
cast-size c = search rules

add-end : tie.Need-overflow_add-end
add-end c = search rules

put-part-requires : tie.Need-put_part-requires
put-part-requires c κs = search rules

same_length : tie.Need-shape_of-image
same_length c = search rules

returns : tie.Need-returns
unfolding put
returns c =
    let P = c in
    let R = c in
    let Q = c in
    let S = c in
    let from = S.args.from in
    let size = R.read_u32-size.result in
    let long : from + size - from ≡ size = omega arith in (
      (P.put_part.ensures.0
          ∙ ap₂ (λ (a s : ℕ). store S.args.image.now a (part S.args.journal.now from s))
          Q.read_u32-at.ensures (long ∙ R.read_u32-size.ensures)),
      ap (λ (s : ℕ). from + s) R.read_u32-size.ensures,
    )

pub write_stretch_spec : {M : Type 1} → statement M
write_stretch_spec =
    tie.close
    (tie.spec
    mul-read-u32
    add-read-u32
    read-u32-requires
    cast-at
    mul-read-u32-2
    add-read-u32-2
    read-u32-requires-2
    cast-size
    add-end
    put-part-requires
    same_length
    returns)
