-- One byte, of a part and after a store.
-- Assumes nothing.
use mathlib.Core.Path.{◌≡◌, sym, ap, ◌∙◌}
use Prim.Native.Nat.{ℕ, ◌+◌, ◌≤◌, ◌<◌}
use native.Mathlib.Omega.{arith}
use mathlib.Core.Logic.{inl, inr}
use lib.ListN.{length, drop, get_or}
use lib.Seq.{get_or-take, get_or-drop}
use Rattle.spec_file.specs.Bytes.{Bytes, part, store}
use Rattle.law_file.proofs.Bytes.{part-store-inside, part-store-other}

pub byte-part : (b : Bytes) (p n i : ℕ) → i < n → get_or (part b p n) i 0 ≡ get_or b (p + i) 0
unfolding part
byte-part b p n i h = get_or-take n (drop p b) i 0 h ∙ get_or-drop p b i 0

byte-alone : (b : Bytes) (i : ℕ) → get_or b i 0 ≡ get_or (part b i 1) 0 0
byte-alone b i = let e : i ≡ i + 0 = omega arith in ap (λ (n : ℕ). get_or b n 0) e ∙ sym (byte-part b i 1 0 (omega arith))

pub byte-store-below : (b : Bytes) (p : ℕ) (v : Bytes) (i : ℕ) → p + length v ≤ length b → i < p
    → get_or (store b p v) i 0 ≡ get_or b i 0
byte-store-below b p v i h f =
    byte-alone (store b p v) i
    ∙ ap (λ (t : Bytes). get_or t 0 0) (part-store-other b p v i 1 h (inl (omega arith)))
    ∙ sym (byte-alone b i)

pub byte-store-above : (b : Bytes) (p : ℕ) (v : Bytes) (i : ℕ) → p + length v ≤ length b → p + length v ≤ i
    → get_or (store b p v) i 0 ≡ get_or b i 0
byte-store-above b p v i h f =
    byte-alone (store b p v) i
    ∙ ap (λ (t : Bytes). get_or t 0 0) (part-store-other b p v i 1 h (inr f))
    ∙ sym (byte-alone b i)

pub byte-store-inside : (b : Bytes) (p : ℕ) (v : Bytes) (k : ℕ) → p + length v ≤ length b → k < length v
    → get_or (store b p v) (p + k) 0 ≡ get_or v k 0
byte-store-inside b p v k h f =
    byte-alone (store b p v) (p + k)
    ∙ ap (λ (t : Bytes). get_or t 0 0) (part-store-inside b p v k 1 (omega arith) (omega arith))
    ∙ sym (byte-alone v k)
