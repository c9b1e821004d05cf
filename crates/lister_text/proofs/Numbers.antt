-- Numbers in decimal and keys in hexadecimal, digit by digit.
--     decimal-low, decimal-high      a number below ten, and another: its tens and its last digit
--     hexes-step, hexes-end          a key from byte i on
--     decimal-5, length-hexes        how long they are
-- Assumes nothing.
use mathlib.Core.Path.{◌≡◌, refl, sym, ap, ap₂, ◌∙◌}
use Prim.Native.Nat.{ℕ, zero, suc, ◌+◌, ◌*◌, ◌/◌, ◌%◌, ◌≤◌, ◌<◌}
use native.Mathlib.Numerals.{add-one}
use native.Mathlib.Omega.{arith}
use mathlib.Core.Bool.{Bool, cond}
use mathlib.Core.List.{[], ◌∷◌, ◌++◌}
use lib.ListN.{length, drop, get_or, length-append}
use lib.Seq.{drop-cons, drop-length}
use borrow.Author.Tests.{lt-ltb, le-ltb}
use Rattle.spec_file.specs.Bytes.{Bytes}
use Rattle.law_file.proofs.Tests.{by_le}
use Rattle.lister_text.specs.Text.{digit, decimal_from, decimal, hex_byte, hexes}

low-from : (f n : ℕ) → n < 10 → decimal_from f n ≡ digit n ∷ []
unfolding decimal_from
low-from zero n l = refl
low-from (suc f) n l =
    ap (λ (b : Bool). cond b (digit n ∷ []) (decimal_from f (n / 10) ++ (digit (n % 10) ∷ []))) (lt-ltb n 10 l)

high-from : (f n : ℕ) → 10 ≤ n → decimal_from (suc f) n ≡ decimal_from f (n / 10) ++ (digit (n % 10) ∷ [])
unfolding decimal_from
high-from f n l =
    ap (λ (b : Bool). cond b (digit n ∷ []) (decimal_from f (n / 10) ++ (digit (n % 10) ∷ []))) (le-ltb n 10 l)

from-same : (f h n : ℕ) → n ≤ f → n ≤ h → decimal_from f n ≡ decimal_from h n
from-same zero h n a b = low-from zero n (omega arith) ∙ sym (low-from h n (omega arith))
from-same (suc f) zero n a b = low-from (suc f) n (omega arith) ∙ sym (low-from zero n (omega arith))
from-same (suc f) (suc h) n a b =
    by_le 10 n
    (λ l.
    high-from f n l
    ∙ ap (λ (x : Bytes). x ++ (digit (n % 10) ∷ [])) (from-same f h (n / 10) (omega arith) (omega arith))
    ∙ sym (high-from h n l))
    (λ l. low-from (suc f) n l ∙ sym (low-from (suc h) n l))

pub decimal-low : (n : ℕ) → n < 10 → decimal n ≡ digit n ∷ []
unfolding decimal
decimal-low n l = low-from n n l

pub decimal-high : (n : ℕ) → 10 ≤ n → decimal n ≡ decimal (n / 10) ++ (digit (n % 10) ∷ [])
unfolding decimal
decimal-high n l =
    from-same n (suc n) n (omega arith) (omega arith) ∙ high-from n n l
    ∙ ap (λ (x : Bytes). x ++ (digit (n % 10) ∷ [])) (from-same n (n / 10) (n / 10) (omega arith) (omega arith))

-- ---- how long a number is
pub length-low : (n : ℕ) → n < 10 → length (decimal n) ≡ 1
length-low n l = ap length (decimal-low n l)

pub length_high : (n : ℕ) → 10 ≤ n → length (decimal n) ≡ length (decimal (n / 10)) + 1
length_high n l =
    ap length (decimal-high n l) ∙ length-append (decimal (n / 10)) (digit (n % 10) ∷ [])

more-digits : (w m : ℕ) → 1 ≤ w → ((k : ℕ) → k < m → length (decimal k) ≤ w) → (n : ℕ) → n < 10 * m
    → length (decimal n) ≤ w + 1
more-digits w m p f n l =
    by_le 10 n
    (λ h.
    let shorter : length (decimal (n / 10)) ≤ w = f (n / 10) (omega arith) in
    omega (arith, length_high n h))
    (λ h. omega (arith, length-low n h))

pub decimal-1 : (n : ℕ) → n < 10 → length (decimal n) ≤ 1
decimal-1 n l = omega (arith, length-low n l)

pub decimal-5 : (n : ℕ) → n < 100000 → length (decimal n) ≤ 5
decimal-5 =
    more-digits 4 10000 (omega arith)
    (more-digits 3 1000 (omega arith) (more-digits 2 100 (omega arith) (more-digits 1 10 (omega arith) decimal-1)))

-- ---- a key
pub hexes-step : (key : Bytes) (i : ℕ) → i < length key
    → hexes (drop i key) ≡ hex_byte (get_or key i 0) ++ hexes (drop (i + 1) key)
unfolding hexes
hexes-step key i l =
    ap hexes (drop-cons key i 0 l) ∙ ap (λ (n : ℕ). hex_byte (get_or key i 0) ++ hexes (drop n key)) (sym (add-one i))

pub hexes-end : (key : Bytes) (i : ℕ) → i ≡ length key → hexes (drop i key) ≡ []
unfolding hexes
hexes-end key i e = ap hexes (ap (λ (n : ℕ). drop n key) e ∙ drop-length key)

pub length-hex_byte : (b : ℕ) → length (hex_byte b) ≡ 2
unfolding hex_byte
length-hex_byte b = refl

pub length-hexes : (key : Bytes) → length (hexes key) ≡ 2 * length key
unfolding hexes
length-hexes [] = refl
length-hexes (b ∷ bs) =
    length-append (hex_byte b) (hexes bs) ∙ ap₂ ◌+◌ (length-hex_byte b) (length-hexes bs) ∙ omega arith
