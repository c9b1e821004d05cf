-- A text that was put at the start of a slice is the slice's front.
-- Assumes nothing.
use Rattle.std.proofs.Common.{arith, ◌≡◌, ap₂, ◌∙◌, ℕ, length, take, drop}
use Rattle.std.proofs.Math.Seq.{take-append_seam}
use Rattle.spec_file.specs.Bytes.{Bytes, store}
use Rattle.lister_text.specs.Puts.{Put}

pub put-text : (b c v : Bytes) (q : ℕ) → Put b 0 c q v → take q c ≡ v
unfolding store
put-text b c v q h =
    let ends : q ≡ length v = omega (arith, h.ends) in
    ap₂ (λ (m : ℕ) (x : Bytes). take m x) ends h.bytes ∙ take-append_seam v (drop (length v) b)
