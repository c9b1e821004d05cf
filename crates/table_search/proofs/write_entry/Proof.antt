-- `table_search::write_entry` meets its contract: the key, then the offset's digits.
-- Assumes nothing.
use Prim.Native.Nat.{ℕ}
use native.Mathlib.Omega.{arith}
use mathlib.Core.Path.{sym, ap, ap₂, ◌∙◌}
use mathlib.Core.List.{◌++◌}
use lib.ListN.{length, drop, length-append, length-drop}
use lib.Seq.{length-take-le}
use Rattle.spec_file.specs.Bytes.{Bytes}
use Rattle.spec_file.specs.Image.{set_field}
use Rattle.table_search.proofs.Headers.{entry-written}
use borrow.Author.Rules.{rules}
use Rattle.table_search.proofs.write_entry.Statement.{statement}
use Rattle.table_search.proofs.write_entry.Tie as tie

slice-relend-prefix-copy : tie.Need-slice_bounds-copy-end
slice-relend-prefix-copy c = search rules

slice-aggregate-copy : tie.Need-slice_bounds-copy-end-2
slice-aggregate-copy c =
    let S = c in
    let key = S.args.key.now in
    sym (length-take-le (length key) S.args.part.now (omega arith))

copy-requires : tie.Need-copy-requires
copy-requires c κs =
    let S = c in
    let key = S.args.key.now in
    length-take-le (length key) S.args.part.now (omega arith)

at-requires : tie.Need-at-requires
at-requires c κs = search rules

cast-write-u32 : tie.Need-overflow_cast-at
cast-write-u32 c = search rules

write-u32-requires : tie.Need-write_u32-requires
write-u32-requires c κs =
    let C = c in
    let S = c in
    let e = ap length C.copy.ensures in
    simp (length-append, length-drop) (omega arith)

same_length : tie.Need-shape_of-part
same_length c = search rules

returns : tie.Need-returns
returns c =
    let C = c in
    let S = c in
    let key = S.args.key.now in
    let rest = drop (length key) S.args.part.now in
    c.write_u32.ensures
    ∙ ap₂ (λ (b : Bytes) (n : ℕ). set_field (b ++ rest) (length key) n)
    C.copy.ensures c.at.ensures
    ∙ entry-written key rest S.args.offset.0 (simp length-drop (omega arith))

pub write_entry_spec : {M : Type 1} → statement M
write_entry_spec =
    tie.close
    (tie.spec
    slice-relend-prefix-copy
    slice-aggregate-copy
    copy-requires
    at-requires
    cast-write-u32
    write-u32-requires
    same_length
    returns)
