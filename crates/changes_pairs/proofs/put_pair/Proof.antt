-- Two numbers, one behind the other, are the pair. Assumes nothing.
use Prim.Native.Nat.{◌+◌}
use native.Mathlib.Omega.{arith}
use mathlib.Core.Path.{ap, ◌∙◌}
use borrow.Author.Rules.{rules}
use Rattle.spec_file.specs.Bytes.{Bytes}
use Rattle.spec_file.specs.Image.{set_field}
use Rattle.changes_windows.proofs.Scanning.{two_fields}
use Rattle.changes_pairs.proofs.put_pair.Statement.{statement}
use Rattle.changes_pairs.proofs.put_pair.Tie as tie

cast-write-u32 : tie.Need-overflow_cast-at
cast-write-u32 c = search rules

write-u32-requires : tie.Need-write_u32-requires
write-u32-requires c κs = search rules

add-write-u32 : tie.Need-overflow_add-to
add-write-u32 c = search rules

cast-write-u32-2 : tie.Need-overflow_cast-size
cast-write-u32-2 c = search rules

write-u32-requires-2 : tie.Need-write_u32-requires-2
write-u32-requires-2 c κs = search rules

same_length : tie.Need-shape_of-list
same_length c = search rules

returns : tie.Need-returns
returns c =
    let W2 = c in
    let W1 = c in
    let S = c in
    let A = S.args in
    W2.write_u32-2.ensures
    ∙ ap (λ (t : Bytes). set_field t (A.to + 4) A.size) W1.write_u32.ensures
    ∙ two_fields A.list.now A.to A.at A.size S.requires.0

pub put_pair_spec : {M : Type 1} → statement M
put_pair_spec =
    tie.close
    (tie.spec
    cast-write-u32
    write-u32-requires
    add-write-u32
    cast-write-u32-2
    write-u32-requires-2
    same_length
    returns)
