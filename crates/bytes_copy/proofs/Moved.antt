-- Blocks copied within one list from the front, each beginning within what is copied, or just behind it.
--     begun-none, begun-less      nothing copied; fewer bytes
--     begun-here, begun-then      a list in which bytes are copied, taken for the first one; then more copied in it
--     moved-block, moved-first, moved-whole      a block more; the first block; all bytes
-- Assumes nothing.
use Prim.Native.Nat.{ℕ, ◌+◌, ◌-◌, ◌≤◌, ◌<◌}
use native.Mathlib.Numerals.{unary_clauses}
use native.Mathlib.Omega.{arith}
use mathlib.Core.Logic.{◌⊎◌, inl, inr}
use mathlib.Core.Path.{◌≡◌, refl, sym, ap, ◌∙◌}
use lib.ListN.{length, get_or}
use lib.Seq.{ext_get_or}
use Rattle.spec_file.specs.Bytes.{Bytes, part, store}
use Rattle.law_file.proofs.Bytes.{part_length, length-store}
use Rattle.law_file.proofs.Byte.{byte-part, byte-store-below, byte-store-above, byte-store-inside}
use Rattle.law_file.proofs.Tests.{by_le}
use Rattle.bytes_copy.specs.Moving.{Runs, Moving}

on : {A B C : Type 0} → A ⊎ B → (A → C) → (B → C) → C
on (inl a) f g = f a
on (inr b) f g = g b

pub begun-none : (s : Bytes) (from to n : ℕ) → Moving s s from to n 0
begun-none s from to n = record { long = refl; front = λ k h. absurd (omega (arith, h)); rest = λ k a. refl }

pub begun-less : (s r : Bytes) (from to n p q : ℕ) → Moving s r from to n p → q ≤ p → Moving s r from to n q
begun-less s r from to n p q b h =
    record { long = b.long; front = λ k l. b.front k (omega (arith, l)); rest = b.rest }

-- a byte that is read is none of those that are written
apart-at : (s : Bytes) (from to n k : ℕ) → Runs s from to n → k < n → (from + k < to) ⊎ (to + n ≤ from + k)
apart-at s from to n k u h = on u.0 (λ l. inl (omega (arith, l))) (λ l. inr (omega (arith, l)))

pub begun-here : (s x : Bytes) (from to n p : ℕ) → Runs s from to n → Moving s x from to n p → p ≤ n
    → Moving x x from to n p
begun-here s x from to n p u b h =
    record {
      long = refl;
      front = λ k l. b.front k l ∙ sym (b.rest (from + k) (apart-at s from to n k u (omega (arith, l))));
      rest = λ k a. refl;
    }

pub begun-then : (s x r : Bytes) (from to n p q : ℕ) → Runs s from to n → Moving s x from to n p
    → Moving x r from to n q → q ≤ n → Moving s r from to n q
begun-then s x r from to n p q u b d h =
    record {
      long = d.long ∙ b.long;
      front = λ k l. d.front k l ∙ b.rest (from + k) (apart-at s from to n k u (omega (arith, l)));
      rest = λ k a. d.rest k a ∙ b.rest k a;
    }

pub moved-block : (s x r : Bytes) (from to n p j q : ℕ) → Runs s from to n → Moving s x from to n p
    → j ≤ p → j + 8 ≤ n → q ≤ j + 8 → r ≡ store x (to + j) (part x (from + j) 8) → Moving s r from to n q
moved-block s x r from to n p j q u b below end h e =
    let v = part x (from + j) 8 in
    let y = store x (to + j) v in
    let lx : length x ≡ length s = b.long in
    let there : from + n ≤ length s = u.1 in
    let fits : to + n ≤ length s = u.2 in
    let lv : length v ≡ 8 = part_length x (from + j) 8 (omega arith) in
    let room : to + j + length v ≤ length x = omega arith in
    record {
      long = ap length e ∙ length-store x (to + j) v room ∙ lx;
      front = λ k l.
          ap (λ (t : Bytes). get_or t (to + k) 0) e
          ∙ by_le j k
          (λ in'.
          let at : to + j + (k - j) ≡ to + k = omega (arith, in') in
          let read : from + j + (k - j) ≡ from + k = omega (arith, in') in
          ap (λ (m : ℕ). get_or y m 0) (sym at)
          ∙ byte-store-inside x (to + j) v (k - j) room (omega (arith, l, in'))
          ∙ byte-part x (from + j) 8 (k - j) (omega (arith, l, in'))
          ∙ ap (λ (m : ℕ). get_or x m 0) read
          ∙ b.rest (from + k) (apart-at s from to n k u (omega (arith, l))))
          (λ lt. byte-store-below x (to + j) v (to + k) room (omega (arith, lt)) ∙ b.front k (omega (arith, lt)));
      rest = λ k a.
          ap (λ (t : Bytes). get_or t k 0) e
          ∙ on a (λ lo. byte-store-below x (to + j) v k room (omega (arith, lo)))
          (λ hi. byte-store-above x (to + j) v k room (omega (arith, hi)))
          ∙ b.rest k a;
    }

pub moved-first : (s r : Bytes) (from to n : ℕ) → Runs s from to n → 8 ≤ n → r ≡ store s to (part s from 8)
    → Moving s r from to n 8
moved-first s r from to n u h e =
    moved-block s s r from to n 0 0 8 u (begun-none s from to n) (omega arith) (omega arith) (omega arith)
    (simp unary_clauses e)

pub moved-whole : (s r : Bytes) (from to n : ℕ) → Runs s from to n → Moving s r from to n n
    → r ≡ store s to (part s from n)
moved-whole s r from to n u b =
    let v = part s from n in
    let there : from + n ≤ length s = u.1 in
    let fits : to + n ≤ length s = u.2 in
    let lv : length v ≡ n = part_length s from n there in
    let room : to + length v ≤ length s = omega arith in
    ext_get_or 0 r (store s to v) (b.long ∙ sym (length-store s to v room))
    (λ k l.
    by_le to k
    (λ above.
    by_le (to + n) k
    (λ behind. b.rest k (inr behind) ∙ sym (byte-store-above s to v k room (omega (arith, behind))))
    (λ inside.
    let at : to + (k - to) ≡ k = omega (arith, above) in
    ap (λ (m : ℕ). get_or r m 0) (sym at)
    ∙ b.front (k - to) (omega (arith, above, inside))
    ∙ sym (byte-part s from n (k - to) (omega (arith, above, inside)))
    ∙ sym (byte-store-inside s to v (k - to) room (omega (arith, above, inside)))
    ∙ ap (λ (m : ℕ). get_or (store s to v) m 0) at))
    (λ lo. b.rest k (inl lo) ∙ sym (byte-store-below s to v k room lo)))
