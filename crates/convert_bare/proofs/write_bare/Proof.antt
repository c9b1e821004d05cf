-- `convert_bare::write_bare` meets its contract: the stores of the definition, one after the other. Assumes nothing.
use mathlib.Core.Path.{ap, ap₂, ◌∙◌}
use Prim.Native.Nat.{ℕ, ◌≤◌}
use native.Mathlib.Omega.{arith}
use lib.ListN.{length}
use borrow.Author.Rules.{rules}
use Rattle.spec_file.specs.Bytes.{Bytes, part, store}
use Rattle.spec_file.specs.Limits.{version_field, free_field, header_size, scramble_start, table_start}
use Rattle.spec_file.specs.Image.{scramble, major_of, layout_of}
use Rattle.spec_file.specs.Messages.{set_free}
use Rattle.spec_conversion.specs.Convert.{other_version, bare_slots, bare_image}
use Rattle.header_layout.proofs.Shaped.{shape-area}
use Rattle.table_search.proofs.Headers.{header, room}
use Rattle.convert_bare.proofs.write_bare.Statement.{statement}
use Rattle.convert_bare.proofs.write_bare.Tie as tie

zero-requires : tie.Need-zero-requires
zero-requires c κs = search rules

-- both slices hold a header
long : (S : tie.Start) → (header_size ≤ length S.args.source.now) × (header_size ≤ length S.args.target.now)
long S =
    let src = S.args.source.now in (
      omega (arith, (header src S.args.shape S.requires.0).size_low),
      omega (arith, (room src S.requires.0.accepted).table, S.requires.1),
    )

carry-requires : tie.Need-carry-requires
carry-requires c κs =
    let Z = c in
    let l = long c.before.before.before.before.before.before.before in
    (omega (arith, l.0), omega (arith, l.1, Z.zero.auto), omega arith)

carry-version-requires : tie.Need-carry_version-requires
carry-version-requires c κs =
    let C = c in
    let Z = c in
    let l = long c.before.before.before.before.before.before.before.before.before.before.before in
    (l.0, omega (arith, l.1, Z.zero.auto, C.carry.auto))

carry-scramble-requires : tie.Need-carry_scramble-requires
carry-scramble-requires c κs = search rules

carry-keys-requires : tie.Need-carry_keys-requires
carry-keys-requires c κs = search rules

set-free-requires : tie.Need-set_free-requires
set-free-requires c κs =
    let K = c in
    let R = c in
    let H = c in
    let C = c in
    let Z = c in
    let S = c.before.before.before.before.before.before.before.before.before.before.before.before.before.before.before.before.before.before.before.before.before.before.before.before.before in
    let f = header S.args.source.now S.args.shape S.requires.0 in (
      omega (
        arith,
        (long S).1,
        Z.zero.auto,
        C.carry.auto,
        H.carry_version.auto,
        R.carry_scramble.auto,
        K.carry_keys.auto,
      ),
      omega arith,
      omega (arith, f.area, f.size-high),
    )

same_length : tie.Need-shape_of-target
same_length c = search rules

returns : tie.Need-returns
unfolding bare_image
returns c =
    let F = c in
    let K = c in
    let R = c in
    let H = c in
    let C = c in
    let Z = c in
    let S = c in
    let src = S.args.source.now in
    let g = layout_of src in
    F.set_free.ensures
    ∙ ap₂ (λ (d : ℕ) (t : Bytes). set_free d t d) (shape-area S.requires.0)
    (K.carry_keys.ensures
    ∙ ap (λ (t : Bytes). store t table_start (bare_slots g src g.N 0))
    (R.carry_scramble.ensures
    ∙ ap (λ (t : Bytes). store t scramble_start (scramble src))
    (H.carry_version.ensures
    ∙ ap (λ (t : Bytes). store t version_field (other_version (major_of src)))
    (C.carry.ensures ∙ ap (λ (t : Bytes). store t 0 (part src 0 free_field)) Z.zero.ensures))))

pub write_bare_spec : {M : Type 1} → statement M
write_bare_spec =
    tie.close
    (tie.spec
    zero-requires
    carry-requires
    carry-version-requires
    carry-scramble-requires
    carry-keys-requires
    set-free-requires
    same_length
    returns)
