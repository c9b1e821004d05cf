-- Bytes zeroed one by one, and block by block.
--     zeroed-all       all of them, one by one
--     Cleared s k      the first k bytes are zero
--     cleared-block, cleared-all      eight more; all
-- Assumes nothing.
use Prim.Native.Nat.{ℕ, ◌+◌, ◌-◌, ◌≤◌, ◌<◌}
use native.Mathlib.Omega.{arith}
use mathlib.Core.List.{◌++◌, append-nil}
use mathlib.Core.Path.{◌≡◌, sym, ap, ◌∙◌}
use lib.ListN.{length, get_or, drop, replicate, get_or-replicate, length-replicate}
use lib.Seq.{drop-length, ext_get_or}
use Rattle.spec_file.specs.Bytes.{Bytes, store, zeros}
use Rattle.law_file.proofs.Tests.{by_le}
use Rattle.law_file.proofs.Byte.{byte-store-below, byte-store-inside}

pub zeroed-all : (d : Bytes) (i : ℕ) → i ≡ length d → replicate i 0 ++ drop i d ≡ zeros (length d)
unfolding zeros
zeroed-all d i p = rw (p, drop-length d) (append-nil (replicate (length d) 0))

abbrev pub Cleared : Bytes → ℕ → Type 0
Cleared s k = (j : ℕ) → j < k → get_or s j 0 ≡ 0

-- eight zeros at i, where the bytes before it are zero: so are the first k, of at most as many
pub cleared-block : (s t : Bytes) (i k : ℕ) → Cleared s i → i + 8 ≤ length s → t ≡ store s i (zeros 8) → k ≤ i + 8
    → Cleared t k
unfolding zeros
cleared-block s t i k c room e l j h =
    ap (λ (u : Bytes). get_or u j 0) e
    ∙ by_le i j
    (λ in'.
    let at : i + (j - i) ≡ j = omega arith in
    ap (λ (n : ℕ). get_or (store s i (zeros 8)) n 0) (sym at)
    ∙ byte-store-inside s i (zeros 8) (j - i) room (omega arith)
    ∙ get_or-replicate 8 (j - i) 0 0 (omega arith))
    (λ below. byte-store-below s i (zeros 8) j room below ∙ c j below)

pub cleared-all : (s : Bytes) (n : ℕ) → length s ≡ n → Cleared s n → s ≡ zeros n
unfolding zeros
cleared-all s n l c =
    ext_get_or 0 s (zeros n) (l ∙ sym (length-replicate n 0))
    (λ j h. c j (omega (arith, l, h)) ∙ sym (get_or-replicate n j 0 0 (omega (arith, l, h))))
