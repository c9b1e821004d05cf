-- A slot's place: the product is small, since slots are few and short.
-- Assumes nothing.
use borrow.Author.Rules.{rules}
use Prim.Native.Nat.{ℕ, ◌*◌, ◌+◌, ◌^◌, ◌≤◌, ◌<◌}
use mir.Val.{Fits}
use mir.Syntax.{w64}
use native.Mathlib.Nat.{mul-le-mul, le_of_lt}
use native.Mathlib.Omega.{arith}
use Rattle.spec_file.specs.Limits.{most_key, most_slots, table_start}
use Rattle.header_layout.proofs.places.Slot.start.Statement.{statement}
use Rattle.header_layout.proofs.places.Slot.start.Tie as tie

le_four : (k : ℕ) → k ≤ most_key → k + 4 ≤ most_key + 4
le_four k h = omega arith

product : (i k : ℕ) → i < most_slots → k ≤ most_key → i * (k + 4) ≤ most_slots * (most_key + 4)
product i k hi hk = mul-le-mul (le_of_lt hi) (le_four k hk)

small : (i k : ℕ) → i < most_slots → k ≤ most_key → i * (k + 4) < 2 ^ 64
small i k hi hk = omega (arith, product i k hi hk)

small-above : (i k : ℕ) → i < most_slots → k ≤ most_key → Fits w64 (table_start + i * (k + 4))
small-above i k hi hk = omega (arith, product i k hi hk)

add-t3 : tie.Need-overflow_add-result
add-t3 c = search rules

mul-t4 : tie.Need-overflow_mul-result
mul-t4 c =
    record { fits = small c.args.self.0 c.args.keylen c.requires.0 c.requires.1 }

add-t5 : tie.Need-overflow_add-result-2
add-t5 c = small-above c.args.self.0 c.args.keylen c.requires.0 c.requires.1

returns : tie.Need-returns
returns c = search rules

pub start_spec : {M : Type 1} → statement M
start_spec =
    tie.close
    (tie.spec
    add-t3
    mul-t4
    add-t5
    returns)
