-- By the size: a letter and the number after it are one store. Assumes nothing.
use borrow.Author.Rules.{rules}
use native.Mathlib.Omega.{arith}
use Prim.Native.Nat.{ℕ}
use mathlib.Core.Path.{ap, ◌∙◌}
use mathlib.Core.List.{◌∷◌}
use lib.ListN.{length-set}
use Rattle.spec_file.specs.Bytes.{store, digits}
use Rattle.spec_file.specs.Limits.{active}
use Rattle.spec_file.specs.Image.{set_field}
use Rattle.message_write.proofs.Placed.{head-wide}
use Rattle.message_write.proofs.write_head.Statement.{statement}
use Rattle.message_write.proofs.write_head.Tie as tie

cast-write-low-u24 : tie.Need-overflow_cast-m
cast-write-low-u24 c = search rules

write-low-u24-requires : tie.Need-write_low_u24-requires
write-low-u24-requires c κs =
    let S = c in
    (omega (arith, S.requires.0.low, S.requires.1), S.requires.0.short c.if-head-eq-HEAD.true)

same_length : tie.Need-shape_of-space-then-head-eq-HEAD
same_length c = search rules

returns : tie.Need-returns-then-head-eq-HEAD
returns c =
    let S = c in
    c.write_low_u24.ensures
    ∙ ap (λ (w : ℕ). store S.args.space.now 0 (active ∷ digits w S.args.m))
    (omega (arith, c.if-head-eq-HEAD.true))

slice-write-space : tie.Need-bounds-space-0
slice-write-space c = search rules

cast-write-u32 : tie.Need-overflow_cast-m-2
cast-write-u32 c = search rules

write-u32-requires : tie.Need-write_u32-requires
write-u32-requires c κs =
    let S = c in
    omega (arith, length-set S.args.space.now 0 97, S.requires.0.low, c.if-head-eq-HEAD.false, S.requires.1)

same-length-2 : tie.Need-shape_of-space
same-length-2 c =
    c.write_u32.auto.s
    ∙ length-set c.args.space.now 0 97

returns-2 : tie.Need-returns
unfolding set_field
returns-2 c =
    let S = c in
    c.write_u32.ensures
    ∙ head-wide S.args.space.now S.args.m
    (omega (arith, S.requires.0.low, c.if-head-eq-HEAD.false, S.requires.1))
    ∙ ap (λ (w : ℕ). store S.args.space.now 0 (active ∷ digits w S.args.m))
    (omega (arith, S.requires.0.low, S.requires.0.high, c.if-head-eq-HEAD.false))

pub write_head_spec : {M : Type 1} → statement M
write_head_spec =
    tie.close
    (tie.spec
    cast-write-low-u24
    write-low-u24-requires
    same_length
    returns
    slice-write-space
    cast-write-u32
    write-u32-requires
    same-length-2
    returns-2)
