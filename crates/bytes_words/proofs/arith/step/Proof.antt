-- `bytes_words::arith::step` meets its contract: the product may be cut before the sum.
-- Assumes nothing.
use Rattle.std.proofs.Common.{ℕ, ◌+◌, ◌*◌, ◌%◌, ap, ◌∙◌, rules}
use native.Mathlib.Nat.{mod-add-mod}
use Rattle.spec_file.specs.Create.{step}
use Rattle.bytes_words.proofs.arith.step.Statement.{statement}
use Rattle.bytes_words.proofs.arith.step.Tie as tie

mul-u32-requires : tie.Need-mul_u32-requires
mul-u32-requires c κs = search rules

wrapping-add-u32-requires : tie.Need-wrapping_add_u32-requires
wrapping-add-u32-requires c κs = search rules

returns : tie.Need-returns
unfolding step
returns c =
    c.wrapping_add_u32.ensures
    ∙ ap (λ (t : ℕ). (t + 1013904223) % 4294967296) c.mul_u32.ensures
    ∙ mod-add-mod (c.args.state * 1664525) 4294967296 1013904223

pub step_spec : {M : Type 1} → statement M
step_spec =
    tie.close
    (tie.spec
    mul-u32-requires
    wrapping-add-u32-requires
    returns)
