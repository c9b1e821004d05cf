-- `table_hash::hash_step` meets its contract: no byte is scrambled where E is below F; else the wrapped difference
-- tells. Assumes nothing.
use Rattle.std.proofs.Common.{◌≡◌, ℕ, ◌-◌, ◌*◌, ap, ◌∙◌, arith, rules}
use Rattle.spec_file.specs.Image.{field}
use Rattle.table_hash.proofs.Hashed.{hash_step-outside, hash_step-within}
use Rattle.table_hash.proofs.hash_step.Statement.{statement}
use Rattle.table_hash.proofs.hash_step.Tie as tie

mul-u32-requires : tie.Need-mul_u32-x-requires
mul-u32-requires c κs = search rules

returns : tie.Need-returns-then-last-first
returns c =
    let A = c.args in
    let m = c.mul_u32-x in
    hash_step-outside A.multiplier A.first A.last A.scramble.now A.h A.c m.result m.ensures
    (λ p q. omega (arith, p, q))

cast-span : tie.Need-overflow_cast-span
cast-span c = search rules

wrapping-sub-usize-requires : tie.Need-wrapping_sub_usize-d-requires
wrapping-sub-usize-requires c κs = search rules

returns-2 : tie.Need-returns-then-span-d
returns-2 c =
    let A = c.args in
    let m = c.mul_u32-x in
    hash_step-outside A.multiplier A.first A.last A.scramble.now A.h A.c m.result m.ensures
    (λ p q. omega (arith, p, q))

mul-read-u32 : tie.Need-overflow_mul-d
mul-read-u32 c = search rules

read-u32-requires : tie.Need-read_u32-requires
read-u32-requires c κs = search rules

returns-3 : tie.Need-returns
returns-3 c =
    let A = c.args in
    let m = c.mul_u32-x in
    let d : c.wrapping_sub_usize-d.result ≡ A.c - A.first = omega arith in
    hash_step-within A.multiplier A.first A.last A.scramble.now A.h A.c
    m.result c.read_u32.result m.ensures
    (c.read_u32.ensures ∙ ap (λ (k : ℕ). field A.scramble.now (4 * k)) d)
    (omega arith) (omega arith)

pub hash_step_spec : {M : Type 1} → statement M
hash_step_spec =
    tie.close
    (tie.spec
    mul-u32-requires
    returns
    cast-span
    wrapping-sub-usize-requires
    returns-2
    mul-read-u32
    read-u32-requires
    returns-3)
