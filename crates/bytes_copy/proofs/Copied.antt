-- What a loop that copies byte by byte leaves, as one list.
--     copied_more      one more byte of s, copied over d from the front
--     copied_all       all of them
--     copied-more-apart     one more byte of a run copied within one list, to a place that it does not meet
--     copied-all-within      all of them
-- Assumes nothing.
use Prim.Native.Nat.{ℕ, zero, suc, ◌+◌, ◌-◌, ◌<◌, ◌≤◌}
use native.Mathlib.Nat.{not-suc-le-zero, le_of_suc-le-suc}
use native.Mathlib.Numerals.{add-one}
use native.Mathlib.Omega.{arith}
use mathlib.Core.List.{[], ◌∷◌, ◌++◌, append_assoc, append-nil}
use mathlib.Core.Logic.{inl, inr}
use mathlib.Core.Path.{◌≡◌, refl, sym, ap, ◌∙◌}
use lib.ListN.{length, get_or, set, take, drop, length-append, length-drop, get_or-append}
use lib.Seq.{take-length, drop-length, length-take-le, drop-drop, get_or-take, get_or-drop, get_or-append-add, paste, paste-suc, length_paste_head}
use Rattle.spec_file.specs.Bytes.{Bytes, part, store}
use Rattle.law_file.proofs.Bytes.{Apart}

copied-suc : (s d : Bytes) (i : ℕ) → i < length s → i < length d
    → set (take i s ++ drop i d) i (get_or s i 0) ≡ take (suc i) s ++ drop (suc i) d
copied-suc [] d i p q = absurd (not-suc-le-zero p)
copied-suc (a ∷ s) [] i p q = absurd (not-suc-le-zero q)
copied-suc (a ∷ s) (b ∷ d) zero p q = refl
copied-suc (a ∷ s) (b ∷ d) (suc i) p q =
    ap (λ (t : Bytes). a ∷ t) (copied-suc s d i (le_of_suc-le-suc p) (le_of_suc-le-suc q))

pub copied_more : (s d : Bytes) (i : ℕ) → i < length s → i < length d
    → set (take i s ++ drop i d) i (get_or s i 0) ≡ take (i + 1) s ++ drop (i + 1) d
copied_more s d i p q = rw add-one (copied-suc s d i p q)

pub copied_all : (s d : Bytes) (i : ℕ) → i ≡ length s → i ≡ length d → take i s ++ drop i d ≡ s
copied_all s d i p q =
    ap (λ (t : Bytes). take i s ++ t) (rw (q, drop-length d)) ∙ append-nil (take i s) ∙ rw (p, take-length s)

-- ---- within one list: what is read, below what has been written
get_d-paste-below : (d : Bytes) (at : ℕ) (s : Bytes) (n k : ℕ) → k < at → at ≤ length d
    → get_or (paste d at s n) k 0 ≡ get_or d k 0
get_d-paste-below d at s n k p q =
    let l : length (take at d) ≡ at = length-take-le at d q in
    get_or-append (take at d ++ take n s) (drop (at + n) d) 0 k (rw length-append (omega arith))
    ∙ get_or-append (take at d) (take n s) 0 k (omega arith)
    ∙ get_or-take at d k 0 p

-- and above what has been written
get_d-paste-above : (d : Bytes) (at : ℕ) (s : Bytes) (n k : ℕ) → at + n ≤ k → at ≤ length d → n ≤ length s
    → get_or (paste d at s n) k 0 ≡ get_or d k 0
get_d-paste-above d at s n k p q r =
    let l : length (take at d ++ take n s) ≡ at + n = length_paste_head d at s n q r in
    let e : k ≡ length (take at d ++ take n s) + (k - (at + n)) = omega arith in
    let f : at + n + (k - (at + n)) ≡ k = omega arith in
    ap (λ (m : ℕ). get_or (paste d at s n) m 0) e
    ∙ get_or-append-add (take at d ++ take n s) (drop (at + n) d) (k - (at + n)) 0
    ∙ get_or-drop (at + n) d (k - (at + n)) 0
    ∙ ap (λ (m : ℕ). get_or d m 0) f

module _ (s : Bytes) (from to n : ℕ) (there : from + n ≤ length s) (room : to + n ≤ length s) where
  -- one more byte, where what is read has not been written
  copied-one : (i : ℕ) → i < n → get_or (paste s to (drop from s) i) (from + i) 0 ≡ get_or s (from + i) 0
      → set (paste s to (drop from s) i) (to + i) (get_or (paste s to (drop from s) i) (from + i) 0)
      ≡ paste s to (drop from s) (i + 1)
  copied-one i p unwritten =
      ap (λ (b : ℕ). set (paste s to (drop from s) i) (to + i) b) (unwritten ∙ sym (get_or-drop from s i 0))
      ∙ paste-suc s to (drop from s) i 0 (omega arith) (rw length-drop (omega arith))
      ∙ ap (λ (k : ℕ). paste s to (drop from s) k) (sym (add-one i))

  pub copied-more-apart : Apart from n to n → (i : ℕ) → i < n
      → set (paste s to (drop from s) i) (to + i) (get_or (paste s to (drop from s) i) (from + i) 0)
      ≡ paste s to (drop from s) (i + 1)
  copied-more-apart apart i p = copied-one i p (go apart)
    where
      go : Apart from n to n → get_or (paste s to (drop from s) i) (from + i) 0 ≡ get_or s (from + i) 0
      go (inl h) = get_d-paste-below s to (drop from s) i (from + i) (omega arith) (omega arith)
      go (inr h) =
          get_d-paste-above s to (drop from s) i (from + i) (omega arith) (omega arith) (rw length-drop (omega arith))

  pub copied-all-within : paste s to (drop from s) n ≡ store s to (part s from n)
  unfolding store part
  copied-all-within =
      let l : length (take n (drop from s)) ≡ n = length-take-le n (drop from s) (rw length-drop (omega arith)) in
      append_assoc (take to s) (take n (drop from s)) (drop (to + n) s)
      ∙ ap (λ (t : Bytes). take to s ++ (take n (drop from s) ++ t))
      (sym (drop-drop n to s) ∙ ap (λ (k : ℕ). drop k (drop to s)) (sym l))
