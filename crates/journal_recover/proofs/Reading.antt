-- A journal read pair by pair.
--     left j i             the pairs from number i on
--     left_step, left_end  pair i and those behind it; none behind the last
--     asking               what is left of the test on content and pairs, with its turns
-- Assumes nothing.
use mathlib.Core.Path.{◌≡◌, refl, ap, ap₂, ◌∙◌}
use Prim.Native.Nat.{ℕ, suc, ◌+◌, ◌-◌, ◌*◌, ◌≤◌, ◌<◌}
use native.Mathlib.Omega.{arith}
use mathlib.Core.Bool.{Bool, true, false, ◌&&◌, and-false}
use mathlib.Core.List.{List, [], ◌∷◌}
use lib.ListN.{length, take, drop}
use lib.Seq.{drop-drop}
use lib.Dec.{leb}
use borrow.Author.Tests.{le-leb, lt-leb, leb-true}
use Rattle.spec_file.specs.Bytes.{Bytes, part, number}
use Rattle.spec_file.specs.Image.{field}
use Rattle.spec_changes.specs.Changes.{Pair}
use Rattle.spec_changes.specs.Journal.{pair_count, pairs_from, pairs_of, bytes_start, total, content_inside, in_order, journal_sound}
use Rattle.law_file.proofs.Tests.{and_left, and_right}

-- the count is the first number
pub count-field : (j : Bytes) → field j 0 ≡ pair_count j
unfolding field pair_count
count-field j = refl

-- ---- pairs that are left

abbrev pub left : Bytes → ℕ → List Pair
left j i = pairs_from (pair_count j - i) (drop (4 + 8 * i) j)

abbrev pub pair_at : Bytes → ℕ → Pair
pair_at j i = record { at = field j (4 + 8 * i); size = field j (8 + 8 * i) }

pub left_step : (j : Bytes) (i : ℕ) → i < pair_count j → left j i ≡ pair_at j i ∷ left j (i + 1)
unfolding pairs_from part field
left_step j i h =
    let m : ℕ = pair_count j - (i + 1) in
    let more : pair_count j - i ≡ suc m = omega arith in
    let place : 4 + 8 * i + 4 ≡ 8 + 8 * i = omega arith in
    let next : 4 + 8 * i + 8 ≡ 4 + 8 * (i + 1) = omega arith in
    ap (λ (n : ℕ). pairs_from n (drop (4 + 8 * i) j)) more
    ∙ ap₂ (λ (x y : Bytes).
    record { at = number (take 4 (drop (4 + 8 * i) j)); size = number (take 4 x) } ∷ pairs_from m y)
    (drop-drop 4 (4 + 8 * i) j ∙ ap (λ (n : ℕ). drop n j) place)
    (drop-drop 8 (4 + 8 * i) j ∙ ap (λ (n : ℕ). drop n j) next)

pub left_end : (j : Bytes) (i : ℕ) → pair_count j ≤ i → left j i ≡ []
unfolding pairs_from
left_end j i h =
    let none' : pair_count j - i ≡ 0 = omega arith in
    ap (λ (n : ℕ). pairs_from n (drop (4 + 8 * i) j)) none'

pub left-all : (j : Bytes) → pairs_of j ≡ left j 0
unfolding pairs_of
left-all j = let e : pair_count j ≡ pair_count j - 0 = omega arith in ap (λ (n : ℕ). pairs_from n (drop 4 j)) e

-- ---- room and place

-- every pair lies in an image of so many bytes
abbrev pub Inside : ℕ → List Pair → Type 0
Inside L [] = Unit {0}
Inside L (r ∷ rs) = (r.at + r.size ≤ L) × Inside L rs

pub order-inside : (L from : ℕ) (rs : List Pair) → in_order L from rs ≡ true → Inside L rs
unfolding in_order
order-inside L from [] h = tt
order-inside L from (r ∷ rs) h =
    let b = and_right (leb from r.at) (leb (r.at + r.size) L && in_order L (r.at + r.size) rs) h in (
      leb-true (r.at + r.size) L (and_left (leb (r.at + r.size) L) (in_order L (r.at + r.size) rs) b),
      order-inside L (r.at + r.size) rs (and_right (leb (r.at + r.size) L) (in_order L (r.at + r.size) rs) b),
    )

-- what a sound journal has room for: its count, and its pairs
pub sound-room : (L : ℕ) (j : Bytes) → journal_sound L j ≡ true
    → bytes_start (pair_count j) + total (pairs_of j) + 1 ≤ length j
unfolding journal_sound content_inside
sound-room L j h =
    leb-true (bytes_start (pair_count j) + total (pairs_of j) + 1) (length j)
    (and_left (leb (bytes_start (pair_count j) + total (pairs_of j) + 1) (length j)) (in_order L 0 (pairs_of j)) h)

pub sound-start : (L : ℕ) (j : Bytes) → journal_sound L j ≡ true → 4 + 8 * pair_count j + 1 ≤ length j
unfolding bytes_start
sound-start L j h = omega (arith, sound-room L j h)

-- ---- the test on content and pairs

pub asking : ℕ → Bytes → ℕ → ℕ → ℕ → Bool
asking L j from last i = leb (from + total (left j i) + 1) (length j) && in_order L last (left j i)

-- a journal that has no room for its pairs
pub unsound-short : (L : ℕ) (j : Bytes) → length j ≤ 4 + 8 * pair_count j → journal_sound L j ≡ false
unfolding journal_sound content_inside bytes_start
unsound-short L j h =
    ap (λ (b : Bool). b && in_order L 0 (pairs_of j))
    (lt-leb (4 + 8 * pair_count j + total (pairs_of j) + 1) (length j) (omega arith))

pub asking-start : (L : ℕ) (j : Bytes) → journal_sound L j ≡ asking L j (4 + 8 * pair_count j) 0 0
unfolding journal_sound content_inside bytes_start asking
asking-start L j =
    ap (λ (l : List Pair). leb (4 + 8 * pair_count j + total l + 1) (length j) && in_order L 0 l) (left-all j)

module _ (L : ℕ) (j : Bytes) (from last i : ℕ) (h : i < pair_count j) where
  abbrev q : Pair
  q = pair_at j i

  opened : asking L j from last i
      ≡ (leb (from + (q.size + total (left j (i + 1))) + 1) (length j)
      && (leb last q.at && (leb (q.at + q.size) L && in_order L (q.at + q.size) (left j (i + 1)))))
  unfolding asking total in_order
  opened = ap (λ (l : List Pair). leb (from + total l + 1) (length j) && in_order L last l) (left_step j i h)

  pub asking-low : (pair_at j i).at < last → asking L j from last i ≡ false
  asking-low f =
      opened
      ∙ ap (λ (b : Bool). leb (from + (q.size + total (left j (i + 1))) + 1) (length j)
      && (b && (leb (q.at + q.size) L && in_order L (q.at + q.size) (left j (i + 1)))))
      (lt-leb last q.at f)
      ∙ and-false (leb (from + (q.size + total (left j (i + 1))) + 1) (length j))

  pub asking-high : L < (pair_at j i).at + (pair_at j i).size → asking L j from last i ≡ false
  asking-high f =
      opened
      ∙ ap (λ (b : Bool). leb (from + (q.size + total (left j (i + 1))) + 1) (length j)
      && (leb last q.at && (b && in_order L (q.at + q.size) (left j (i + 1)))))
      (lt-leb (q.at + q.size) L f)
      ∙ ap (λ (b : Bool). leb (from + (q.size + total (left j (i + 1))) + 1) (length j) && b)
      (and-false (leb last q.at))
      ∙ and-false (leb (from + (q.size + total (left j (i + 1))) + 1) (length j))

  pub asking-mark : length j ≤ from + (pair_at j i).size → asking L j from last i ≡ false
  asking-mark f =
      opened
      ∙ ap (λ (b : Bool). b && (leb last q.at
      && (leb (q.at + q.size) L && in_order L (q.at + q.size) (left j (i + 1)))))
      (lt-leb (from + (q.size + total (left j (i + 1))) + 1) (length j) (omega arith))

  pub asking-more : last ≤ (pair_at j i).at → (pair_at j i).at + (pair_at j i).size ≤ L
      → asking L j from last i
      ≡ asking L j (from + (pair_at j i).size) ((pair_at j i).at + (pair_at j i).size) (i + 1)
  unfolding asking
  asking-more f g =
      let sum : from + (q.size + total (left j (i + 1))) + 1 ≡ from + q.size + total (left j (i + 1)) + 1 =
      omega arith in
      opened
      ∙ ap₂ (λ (a b : Bool). leb (from + (q.size + total (left j (i + 1))) + 1) (length j)
      && (a && (b && in_order L (q.at + q.size) (left j (i + 1)))))
      (le-leb last q.at f) (le-leb (q.at + q.size) L g)
      ∙ ap (λ (n : ℕ). leb n (length j) && in_order L (q.at + q.size) (left j (i + 1))) sum

pub asking-end : (L : ℕ) (j : Bytes) (from last i : ℕ) → pair_count j ≤ i → from < length j
    → asking L j from last i ≡ true
unfolding asking total in_order
asking-end L j from last i h f =
    ap (λ (l : List Pair). leb (from + total l + 1) (length j) && in_order L last l) (left_end j i h)
    ∙ ap (λ (b : Bool). b && true) (le-leb (from + 0 + 1) (length j) (omega arith))
