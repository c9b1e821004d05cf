-- `columns_read::read_four` meets its contract: a turn places four bytes of one record more.
use Rattle.std.proofs.Common.{◌≡◌, ℕ, ◌+◌, ◌*◌, ◌<◌, List, get_or, set, arith, refl}
use Rattle.spec_columns.specs.Places.{RunTo}
use Rattle.law_columns.proofs.Steps.{reached-first, reached-all, turn-first, turn_last, read_next}
use Rattle.columns_read.proofs.read_four.Goals as goal

-- o₁ to o₄ are the records after one byte, two, three and four
read_four-more : {W n : ℕ} {o₀ o₁ o₂ o₃ o₄ stored : List ℕ} {a e j r : ℕ} → RunTo W n o₀ stored a e j 4 r → r < e
    → o₁ ≡ set o₀ (r * W + j) (get_or stored (1 + j * n + r) 0)
    → o₂ ≡ set o₁ (r * W + (j + 1)) (get_or stored (1 + (j + 1) * n + r) 0)
    → o₃ ≡ set o₂ (r * W + (j + 2)) (get_or stored (1 + (j + 2) * n + r) 0)
    → o₄ ≡ set o₃ (r * W + (j + 3)) (get_or stored (1 + (j + 3) * n + r) 0)
    → RunTo W n o₄ stored a e j 4 (r + 1)
read_four-more {j = j} s h h₁ h₂ h₃ h₄ =
    let one = read_next (j + 1) (turn-first s h) (omega arith) (omega arith) refl _ h₁ in
    let two = read_next (j + 2) one (omega arith) (omega arith) (omega arith) _ h₂ in
    let three = read_next (j + 3) two (omega arith) (omega arith) (omega arith) _ h₃ in
    let four = read_next (j + 4) three (omega arith) (omega arith) (omega arith) _ h₄ in
    turn_last _ four (omega arith) refl

pub loop-r-init : goal.loop-r-init
loop-r-init c = reached-first _ _ _ _ _ _ _ _ c.requires.1 (omega arith)

pub loop-r-preserved : goal.loop-r-preserved
loop-r-preserved c =
    read_four-more c.loop-r.invariant (omega arith) c.read_byte.ensures c.read_byte-in-loop-r.ensures
    c.read_byte-in-loop-r-2.ensures c.read_byte-in-loop-r-3.ensures

pub returns : goal.returns
returns c = reached-all c.loop-r.invariant (omega arith)
