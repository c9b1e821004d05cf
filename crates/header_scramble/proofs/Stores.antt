-- The image that create leaves, as the code makes it: zeros, then the header and the scramble stored number by number.
--     number-stored       one more of a list of numbers
--     header-digits       the header's fifteen numbers
--     drawn-stored        one more scramble number
--     fresh-stored        zeros, header and scramble are the fresh image
-- Assumes nothing.
use mathlib.Core.Path.{◌≡◌, refl, sym, ap, ap₂, ◌∙◌}
use mathlib.Core.List.{List, [], ◌∷◌, ◌++◌, append_assoc, append-nil}
use Prim.Native.Nat.{ℕ, zero, suc, ◌+◌, ◌-◌, ◌*◌, ◌≤◌, ◌<◌}
use native.Mathlib.Nat.{add-zero, zero-add, add-suc, suc-add}
use native.Mathlib.Numerals.{add-one}
use native.Mathlib.Omega.{arith}
use lib.ListN.{length, get_or, take, drop, length-append, replicate-append-replicate}
use lib.Seq.{take-suc, take_at, drop_at, length-take-le}
use Rattle.std.proofs.lemmas.List.{drop-replicate}
use Rattle.spec_file.specs.Bytes.{Bytes, store, digits, zeros}
use Rattle.spec_file.specs.Image.{set_field, data_start}
use Rattle.spec_file.specs.Create.{step, state, drawn, drawn_bytes, fresh_header, fresh_image}
use Rattle.header_scramble.specs.Numbers.{all_digits}
use Rattle.law_file.proofs.Bytes.{length_digits, length-zeros}
use Rattle.law_file.proofs.Stores.{store-none, store-append}
use Rattle.law_file.proofs.Fresh.{length-drawn_bytes, length-fresh_header}

-- a store right behind another one, at q
store-next : (b : Bytes) (p : ℕ) (u v : Bytes) (q : ℕ) → q ≡ p + length u → q + length v ≤ length b
    → store (store b p u) q v ≡ store b p (u ++ v)
store-next b p u v q e h = ap (λ (n : ℕ). store (store b p u) n v) e ∙ store-append b p u v (omega arith)

-- ---- the scramble

drawn-more : (seed i n : ℕ) → drawn_bytes seed i (suc n) ≡ drawn_bytes seed i n ++ digits 4 (drawn seed (i + n))
unfolding drawn_bytes
drawn-more seed i zero =
    append-nil (digits 4 (drawn seed i)) ∙ ap (λ (k : ℕ). digits 4 (drawn seed k)) (sym (add-zero i))
drawn-more seed i (suc n) =
    ap (λ (t : Bytes). digits 4 (drawn seed i) ++ t) (drawn-more seed (suc i) n)
    ∙ sym (append_assoc (digits 4 (drawn seed i)) (drawn_bytes seed (suc i) n) (digits 4 (drawn seed (suc i + n))))
    ∙ ap (λ (k : ℕ). (digits 4 (drawn seed i) ++ drawn_bytes seed (suc i) n) ++ digits 4 (drawn seed k))
    (suc-add i n ∙ sym (add-suc i n))

-- none yet
pub drawn-none : (b : Bytes) (seed : ℕ) → b ≡ store b 512 (drawn_bytes seed 0 0)
unfolding drawn_bytes
drawn-none b seed = sym (store-none b 512)

-- the generator's state before the first step, and after one more
pub state-zero : (seed : ℕ) → seed ≡ state seed 0
unfolding state
state-zero seed = refl

pub state-more : (seed n : ℕ) → step (state seed n) ≡ state seed (n + 1)
unfolding state
state-more seed n = ap (state seed) (sym (add-one n))

drawn-state : (seed n : ℕ) → state seed (n + 1) ≡ drawn seed n
unfolding drawn
drawn-state seed n = ap (state seed) (add-one n)

-- number n, stored behind those before it
pub drawn-stored : (b : Bytes) (seed n x : ℕ) → x ≡ state seed (n + 1) → 512 + 4 * (n + 1) ≤ length b
    → set_field (store b 512 (drawn_bytes seed 0 n)) (512 + 4 * n) x ≡ store b 512 (drawn_bytes seed 0 (n + 1))
unfolding set_field
drawn-stored b seed n x e h =
    ap (λ (m : ℕ). store (store b 512 (drawn_bytes seed 0 n)) (512 + 4 * n) (digits 4 m)) (e ∙ drawn-state seed n)
    ∙ store-next b 512 (drawn_bytes seed 0 n) (digits 4 (drawn seed n)) (512 + 4 * n)
    (ap (λ (m : ℕ). 512 + m) (sym (length-drawn_bytes seed 0 n)))
    (rw length_digits (omega arith))
    ∙ ap (store b 512)
    (ap (λ (m : ℕ). drawn_bytes seed 0 n ++ digits 4 (drawn seed m)) (sym (zero-add n))
    ∙ sym (drawn-more seed 0 n)
    ∙ ap (drawn_bytes seed 0) (sym (add-one n)))

-- ---- numbers one behind the other

pub all-digits-none : (b : Bytes) (at : ℕ) → b ≡ store b at (all_digits [])
unfolding all_digits
all-digits-none b at = sym (store-none b at)

length-all-digits : (xs : List ℕ) → length (all_digits xs) ≡ 4 * length xs
unfolding all_digits
length-all-digits [] = refl
length-all-digits (x ∷ xs) =
    length-append (digits 4 x) (all_digits xs) ∙ ap₂ ◌+◌ (length_digits 4 x) (length-all-digits xs) ∙ omega arith

all-digits-more : (xs : List ℕ) (x : ℕ) → all_digits (xs ++ (x ∷ [])) ≡ all_digits xs ++ digits 4 x
unfolding all_digits
all-digits-more [] x = append-nil (digits 4 x)
all-digits-more (y ∷ xs) x =
    ap (λ (t : Bytes). digits 4 y ++ t) (all-digits-more xs x)
    ∙ sym (append_assoc (digits 4 y) (all_digits xs) (digits 4 x))

-- number i, stored behind those before it
pub number-stored : (b : Bytes) (at : ℕ) (xs : List ℕ) (i : ℕ) → i < length xs → at + 4 * length xs ≤ length b
    → set_field (store b at (all_digits (take i xs))) (at + 4 * i) (get_or xs i 0)
    ≡ store b at (all_digits (take (i + 1) xs))
unfolding set_field
number-stored b at xs i p h =
    let l : length (take i xs) ≡ i = length-take-le i xs (omega arith) in
    store-next b at (all_digits (take i xs)) (digits 4 (get_or xs i 0)) (at + 4 * i)
    (ap (λ (m : ℕ). at + m) (ap (λ (m : ℕ). 4 * m) (sym l) ∙ sym (length-all-digits (take i xs))))
    (rw length_digits (omega arith))
    ∙ ap (store b at)
    (sym (all-digits-more (take i xs) (get_or xs i 0))
    ∙ ap all_digits (sym (take-suc xs i 0 p) ∙ ap (λ (m : ℕ). take m xs) (sym (add-one i))))

-- the header, with "BHTF", v and the version bytes as two numbers
pub header-digits : (K N D : ℕ) → D ≡ data_start K N
    → all_digits
    (0x42485446 ∷ 0x76010002 ∷ 0 ∷ K ∷ N ∷ 0 ∷ 0x01000193 ∷ 0x811C9DC5
    ∷ 32 ∷ 126 ∷ 512 ∷ 2048 ∷ D ∷ D ∷ 0xFFFFFFFF ∷ [])
    ≡ fresh_header K N
unfolding all_digits digits fresh_header
header-digits K N D e = rw e

-- ---- the fresh image

drop-zeros : (n m : ℕ) → drop n (zeros m) ≡ zeros (m - n)
unfolding zeros
drop-zeros n m = drop-replicate n m 0

zeros-zeros : (n m : ℕ) → zeros n ++ zeros m ≡ zeros (n + m)
unfolding zeros
zeros-zeros n m = replicate-append-replicate n m 0

module _ (L K N seed : ℕ) (h : 892 ≤ L) where
  -- the header and the zeros up to the scramble
  front : Bytes
  front = fresh_header K N ++ zeros 452

  length_front : length front ≡ 512
  unfolding front
  length_front = length-append (fresh_header K N) (zeros 452) ∙ ap₂ ◌+◌ (length-fresh_header K N) (length-zeros 452)

  header-zeros : store (zeros L) 0 (fresh_header K N) ≡ front ++ zeros (L - 512)
  unfolding store front
  header-zeros =
      let e : L - 60 ≡ 452 + (L - 512) = omega arith in
      ap (λ (n : ℕ). fresh_header K N ++ drop n (zeros L)) (length-fresh_header K N)
      ∙ ap (λ (t : Bytes). fresh_header K N ++ t)
      (drop-zeros 60 L
      ∙ ap zeros e
      ∙ sym (zeros-zeros 452 (L - 512)))
      ∙ sym (append_assoc (fresh_header K N) (zeros 452) (zeros (L - 512)))

  pub fresh-stored : store (store (zeros L) 0 (fresh_header K N)) 512 (drawn_bytes seed 0 95) ≡ fresh_image L K N seed
  unfolding store fresh_image front
  fresh-stored =
      let S : Bytes = drawn_bytes seed 0 95 in
      let e : L - 512 - 380 ≡ L - 892 = omega arith in
      ap (λ (t : Bytes). take 512 t ++ (S ++ drop (length S) (drop 512 t))) header-zeros
      ∙ ap₂ (λ (x y : Bytes). x ++ (S ++ drop (length S) y))
      (take_at front (zeros (L - 512)) 512 length_front)
      (drop_at front (zeros (L - 512)) 512 length_front)
      ∙ ap (λ (t : Bytes). front ++ (S ++ t))
      (ap (λ (n : ℕ). drop n (zeros (L - 512))) (length-drawn_bytes seed 0 95) ∙ drop-zeros 380 (L - 512) ∙ ap zeros e)
      ∙ sym (append_assoc front S (zeros (L - 892)))
