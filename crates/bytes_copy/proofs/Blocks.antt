-- Blocks copied from one list to another from the front, each beginning within what is copied, or just behind it.
--     none_yet, copied-less      nothing copied; fewer bytes
--     copied-block, copied-whole      a block more; all bytes
-- Assumes nothing.
use Prim.Native.Nat.{ℕ, ◌+◌, ◌≤◌}
use native.Mathlib.Nat.{zero-add}
use native.Mathlib.Omega.{arith}
use mathlib.Core.List.{◌++◌}
use mathlib.Core.Path.{◌≡◌, refl, sym, ap, ap₂, ◌∙◌}
use lib.ListN.{length, take}
use lib.Seq.{take_all, take-take}
use Rattle.spec_file.specs.Bytes.{Bytes, part, store}
use Rattle.law_file.proofs.Bytes.{part_length, part-add, length-store, part-store-same, part-store-below}
use Rattle.bytes_copy.specs.Front.{Front}

pub copied-less : (x s : Bytes) (p q : ℕ) → Front x s p → q ≤ p → Front x s q
unfolding part
copied-less x s p q f h = (f.0, sym (take-take q p x h) ∙ ap (take q) f.1 ∙ take-take q p s h)

pub copied-block : (x s r : Bytes) (p j q : ℕ) → Front x s p → j ≤ p → j + 8 ≤ length s → q ≤ j + 8
    → r ≡ store x j (part s j 8) → Front r s q
copied-block x s r p j q f below there h e =
    let v = part s j 8 in
    let y = store x j v in
    let lx : length x ≡ length s = f.0 in
    let lv : length v ≡ 8 = part_length s j 8 there in
    let stored : part y j 8 ≡ v = rw lv at (part-store-same x j v (omega arith)) in
    let before : part y 0 j ≡ part s 0 j =
    part-store-below x j v 0 j (omega arith) (omega arith) ∙ (copied-less x s p j f below).1 in
    let more : part y 0 (j + 8) ≡ part s 0 (j + 8) =
    joined y j ∙ ap₂ (λ (a b : Bytes). a ++ b) before stored ∙ sym (joined s j) in
    let all : Front y s (j + 8) = (length-store x j v (omega arith) ∙ lx, more) in
    rw e (copied-less y s (j + 8) q all h)
  where
    joined : (t : Bytes) (j : ℕ) → part t 0 (j + 8) ≡ part t 0 j ++ part t j 8
    joined t j = part-add t 0 j 8 ∙ ap (λ (i : ℕ). part t 0 j ++ part t i 8) (zero-add j)

pub none_yet : (d s : Bytes) → length d ≡ length s → Front d s 0
unfolding part
none_yet d s l = (l, refl)

pub copied-whole : (r s : Bytes) (n : ℕ) → Front r s n → n ≡ length s → r ≡ s
unfolding part
copied-whole r s n f h = sym (take_all n r (omega arith)) ∙ f.1 ∙ take_all n s (omega arith)
