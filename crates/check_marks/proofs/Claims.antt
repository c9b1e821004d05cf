-- The loop that claims places: from the first on, one word of the map a turn.
--     Claiming m m' from to q      the places from `from` up to q are marked in m' and not in m; the others are as in m
--     marked-zeros      a map that is cleared marks no place
--     claiming-start, claiming-on, claiming-met, claiming-end      its turns
-- Assumes nothing.
use mathlib.Core.Path.{◌≡◌, refl, sym, ap, ◌∙◌}
use Prim.Native.Nat.{ℕ, zero, suc, ◌+◌, ◌-◌, ◌*◌, ◌/◌, ◌%◌, ◌^◌, ◌≤◌, ◌<◌, min}
use native.Mathlib.Omega.{arith}
use mathlib.Core.Bool.{true, false, true≢false, false≢true}
use mathlib.Core.Logic.{◌⊎◌, inl, inr}
use lib.Bits.{bit_and, bit_or}
use lib.ListN.{length, get_or, set, length-set}
use lib.Seq.{get_or-set_same, get_or-set_other}
use Rattle.spec_file.specs.Bytes.{zeros}
use Rattle.law_file.proofs.Tests.{by-eq, by_le, by-either}
use Rattle.check_marks.specs.Marks.{Map, bit, marked, Claimed}
use Rattle.check_marks.proofs.Bits.{bit-zero, and-free, and-met, or-in, or-out}

pub record Claiming (m m' : Map) (from to q : ℕ) : Type 0 where
  pub low : from ≤ q
  pub high : q ≤ to
  pub size : length m' ≡ length m
  pub free : (p : ℕ) → from ≤ p → p < q → marked m p ≡ 0
  pub inside : (p : ℕ) → from ≤ p → p < q → marked m' p ≡ 1
  pub outside : (p : ℕ) → (p < from) ⊎ (q ≤ p) → marked m' p ≡ marked m p

pub claiming-start : (m : Map) (from to : ℕ) → from ≤ to → Claiming m m from to from
claiming-start m from to h =
    record {
      low = omega arith;
      high = h;
      size = refl;
      free = λ p a b. absurd (omega arith);
      inside = λ p a b. absurd (omega arith);
      outside = λ p s. refl;
    }

-- a word of the map set anew
set_here : (m : Map) (c v p : ℕ) → p / 64 ≡ c → c < length m → marked (set m c v) p ≡ bit v (p % 64)
unfolding marked
set_here m c v p e l =
    ap (λ (k : ℕ). bit (get_or (set m c v) k 0) (p % 64)) e ∙ ap (λ (x : ℕ). bit x (p % 64)) (get_or-set_same m c v 0 l)

set_other : (m : Map) (c v p : ℕ) → (p / 64 ≡ c → ⊥) → marked (set m c v) p ≡ marked m p
unfolding marked
set_other m c v p n = ap (λ (x : ℕ). bit x (p % 64)) (get_or-set_other m c (p / 64) v 0 n)

-- cleared, no place is marked
get_d-zeros : (n k : ℕ) → get_or (zeros n) k 0 ≡ 0
unfolding zeros
get_d-zeros zero k = refl
get_d-zeros (suc n) zero = refl
get_d-zeros (suc n) (suc k) = get_d-zeros n k

pub marked-zeros : (m : Map) (n : ℕ) → m ≡ zeros n → (q : ℕ) → marked m q ≡ 0
unfolding marked
marked-zeros m n e q =
    ap (λ (t : Map). bit (get_or t (q / 64) 0) (q % 64)) e ∙ ap (λ (x : ℕ). bit x (q % 64)) (get_d-zeros n (q / 64))
    ∙ bit-zero (q % 64)

module _ (m m' : Map) (from to q : ℕ) (w : Claiming m m' from to q) (l : q < to) (room : to ≤ 64 * length m)
    (high bits : ℕ) (is : high ≡ min 64 (q % 64 + (to - q))) (mask : bits ≡ 2 ^ high - 2 ^ (q % 64)) where
  abbrev held : ℕ
  held = get_or m' (q / 64) 0

  order : q % 64 ≤ high
  order = omega arith

  top : high ≤ 64
  top = omega arith

  cell_in : q / 64 < length m'
  cell_in = omega (arith, w.size)

  -- the places of this turn are places of one word
  here : (p : ℕ) → q ≤ p → p < q + (high - q % 64) → (p / 64 ≡ q / 64) × (q % 64 ≤ p % 64) × (p % 64 < high)
  here p a b = omega arith

  held-is : (p : ℕ) → p / 64 ≡ q / 64 → bit held (p % 64) ≡ marked m' p
  unfolding marked
  held-is p e = ap (λ (k : ℕ). bit (get_or m' k 0) (p % 64)) (sym e)

  pub claiming-met : (bit_and held bits ≡ 0 → ⊥) → Claimed m m' from to true
  claiming-met n =
      let h = and-met held (q % 64) high order (λ z. n (ap (bit_and held) mask ∙ z)) in
      let p : ℕ = 64 * (q / 64) + h.0 in
      let d : p / 64 ≡ q / 64 = omega (arith, h.2) in
      let r : p % 64 ≡ h.0 = omega (arith, h.2) in
      record {
        hit = λ t. (
          p,
          omega (arith, h.1, w.low),
          omega (arith, h.2),
          sym (w.outside p (inr (omega (arith, h.1)))) ∙ sym (held-is p d) ∙ ap (bit held) r ∙ h.3,
        );
        free = λ f. absurd (true≢false f);
        inside = λ f. absurd (true≢false f);
        outside = λ f. absurd (true≢false f);
      }

  abbrev after : Map
  after = set m' (q / 64) (bit_or held bits)

  module _ (clear : bit_and held bits ≡ 0) where
    free-here : (p : ℕ) → q ≤ p → p < q + (high - q % 64) → marked m' p ≡ 0
    free-here p a b =
        let k = here p a b in
        sym (held-is p k.0)
        ∙ and-free held (q % 64) high order (ap (bit_and held) (sym mask) ∙ clear) (p % 64) k.1 k.2

    inside-here : (p : ℕ) → q ≤ p → p < q + (high - q % 64) → marked after p ≡ 1
    inside-here p a b =
        let k = here p a b in
        set_here m' (q / 64) (bit_or held bits) p k.0 cell_in
        ∙ ap (λ (x : ℕ). bit (bit_or held x) (p % 64)) mask
        ∙ or-in held (q % 64) high order (p % 64) k.1 k.2 (held-is p k.0 ∙ free-here p a b)

    outside-here : (p : ℕ) → (p < q) ⊎ (q + (high - q % 64) ≤ p) → marked after p ≡ marked m' p
    outside-here p s =
        by-eq (p / 64) (q / 64)
        (λ e.
        set_here m' (q / 64) (bit_or held bits) p e cell_in
        ∙ ap (λ (x : ℕ). bit (bit_or held x) (p % 64)) mask
        ∙ or-out held (q % 64) high order (p % 64)
        (by-either s (λ h. inl (omega arith)) (λ h. inr (omega arith)))
        ∙ held-is p e)
        (λ n. set_other m' (q / 64) (bit_or held bits) p n)

    pub claiming-on : Claiming m after from to (q + (high - q % 64))
    claiming-on =
        record {
          low = omega (arith, w.low);
          high = omega arith;
          size = length-set m' (q / 64) (bit_or held bits) ∙ w.size;
          free = λ p a b.
              by_le q p (λ k. sym (w.outside p (inr k)) ∙ free-here p k b) (λ k. w.free p a k);
          inside = λ p a b.
              by_le q p (λ k. inside-here p k b) (λ k. outside-here p (inl k) ∙ w.inside p a k);
          outside = λ p s.
              outside-here p (by-either s (λ h. inl (omega (arith, w.low))) (λ h. inr h))
              ∙ w.outside p (by-either s (λ h. inl h) (λ h. inr (omega (arith, order))));
        }

pub claiming-end : (m m' : Map) (from to q : ℕ) → Claiming m m' from to q → to ≤ q → Claimed m m' from to false
claiming-end m m' from to q w l =
    let e : q ≡ to = omega (arith, w.high) in
    record {
      hit = λ t. absurd (false≢true t);
      free = λ f p a b. w.free p a (omega arith);
      inside = λ f p a b. w.inside p a (omega arith);
      outside = λ f p s. w.outside p (by-either s (λ h. inl h) (λ h. inr (omega arith)));
    }
