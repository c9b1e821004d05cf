-- `convert_bare::carry_scramble` meets its contract: the scramble lies below the table. Assumes nothing.
use mathlib.Core.Path.{ap, ◌∙◌}
use Prim.Native.Nat.{ℕ, ◌+◌, ◌-◌, ◌*◌}
use native.Mathlib.Omega.{arith}
use Rattle.spec_file.specs.Bytes.{part, store}
use Rattle.spec_file.specs.Limits.{scramble_start}
use Rattle.spec_file.specs.Image.{scramble}
use Rattle.header_layout.specs.Shapes.{shape_of}
use Rattle.header_layout.specs.declared.shape.Shape.{Shape}
use Rattle.table_search.proofs.Headers.{header, room}
use borrow.Author.Rules.{rules}
use Rattle.convert_bare.proofs.carry_scramble.Statement.{statement}
use Rattle.convert_bare.proofs.carry_scramble.Tie as tie

sub-numbers : tie.Need-overflow_sub-numbers
sub-numbers c = let S = c in
    omega (arith, (header S.args.source.now S.args.shape S.requires.0).first)

add-numbers : tie.Need-overflow_add-numbers
add-numbers c = let S = c in
    omega (arith, (header S.args.source.now S.args.shape S.requires.0).last)

cast-numbers : tie.Need-overflow_cast-numbers
cast-numbers c = search rules

mul-carry : tie.Need-overflow_mul-numbers
mul-carry c = search rules

carry-requires : tie.Need-carry-requires
carry-requires c κs = let S = c in
    let src = S.args.source.now in
    let f = header src S.args.shape S.requires.0 in
    let r = room src S.requires.0.accepted in (
      omega (arith, f.last, r.table, r.area),
      omega (arith, f.last, r.table, S.requires.1),
      omega (arith, f.last),
    )

same_length : tie.Need-shape_of-target
same_length c = search rules

returns : tie.Need-returns
unfolding scramble shape_of
returns c = let S = c in
    let src = S.args.source.now in
    c.carry.ensures
    ∙ ap (λ (n : ℕ). store S.args.target.now scramble_start (part src scramble_start n))
    (ap (λ (s : Shape). 4 * (s.last - s.first + 1)) S.requires.0.shape)

pub carry_scramble_spec : {M : Type 1} → statement M
carry_scramble_spec =
    tie.close
    (tie.spec
    sub-numbers
    add-numbers
    cast-numbers
    mul-carry
    carry-requires
    same_length
    returns)
