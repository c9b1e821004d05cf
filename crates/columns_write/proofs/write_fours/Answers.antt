-- `columns_write::write_fours` meets its contract: a turn places the byte of four records more.
use Rattle.std.proofs.Common.{◌≡◌, ℕ, ◌+◌, ◌*◌, ◌≤◌, List, get_or, set, add-zero, arith, refl}
use Rattle.spec_columns.specs.Places.{RunTo}
use Rattle.law_columns.proofs.Steps.{reached-first, written_one}
use Rattle.columns_write.proofs.write_fours.Goals as goal

-- s₁ to s₄ are the stored bytes after one write, two, three and four
written_four : {W n : ℕ} {recs s₀ s₁ s₂ s₃ s₄ : List ℕ} {a e j r : ℕ} (r' : ℕ) → RunTo W n recs s₀ a e j 1 r
    → r + 4 ≤ e → r' ≡ r + 4
    → s₁ ≡ set s₀ (1 + j * n + r) (get_or recs (r * W + j) 0)
    → s₂ ≡ set s₁ (1 + j * n + (r + 1)) (get_or recs ((r + 1) * W + j) 0)
    → s₃ ≡ set s₂ (1 + j * n + (r + 2)) (get_or recs ((r + 2) * W + j) 0)
    → s₄ ≡ set s₃ (1 + j * n + (r + 3)) (get_or recs ((r + 3) * W + j) 0)
    → RunTo W n recs s₄ a e j 1 r'
written_four {r = r} r' s h x h₁ h₂ h₃ h₄ =
    let one = written_one (r + 1) s (omega arith) refl _ h₁ in
    let two = written_one (r + 2) one (omega arith) (omega arith) _ h₂ in
    let three = written_one (r + 3) two (omega arith) (omega arith) _ h₃ in
    written_one r' three (omega arith) (omega arith) _ h₄

pub loop-i-init : goal.loop-i-init
loop-i-init c = rw add-zero (reached-first _ _ _ _ _ _ _ _ c.requires.1 (omega arith))

pub loop-i-preserved : goal.loop-i-preserved
loop-i-preserved c =
    written_four _ c.loop-i.invariant (omega arith) (omega arith) c.write_byte.ensures c.write_byte-in-loop-i.ensures
    c.write_byte-in-loop-i-2.ensures c.write_byte-in-loop-i-3.ensures
