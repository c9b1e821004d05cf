-- How long the pieces of the image that create leaves are.
--     length-drawn_bytes, length-fresh_header
-- Assumes nothing.
use mathlib.Core.Path.{◌≡◌, refl, ap₂, ◌∙◌}
use Prim.Native.Nat.{ℕ, zero, suc, ◌+◌, ◌*◌}
use native.Mathlib.Omega.{arith}
use lib.ListN.{length, length-append}
use Rattle.spec_file.specs.Bytes.{digits}
use Rattle.spec_file.specs.Limits.{header_size}
use Rattle.spec_file.specs.Create.{drawn, drawn_bytes, fresh_header}
use Rattle.law_file.proofs.Bytes.{length_digits}

pub length-drawn_bytes : (seed i n : ℕ) → length (drawn_bytes seed i n) ≡ 4 * n
unfolding drawn_bytes
length-drawn_bytes seed i zero = refl
length-drawn_bytes seed i (suc n) =
    length-append (digits 4 (drawn seed i)) (drawn_bytes seed (suc i) n)
    ∙ ap₂ ◌+◌ (length_digits 4 (drawn seed i)) (length-drawn_bytes seed (suc i) n)
    ∙ omega arith

pub length-fresh_header : (K N : ℕ) → length (fresh_header K N) ≡ header_size
unfolding fresh_header digits
length-fresh_header K N = refl
