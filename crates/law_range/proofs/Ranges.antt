-- Keys in ranges, position by position.
--     all-which, all-below, all-fails      a test over the numbers below n
--     range-facts, facts-range             a byte in its range, as two comparisons
--     LiesAt lowest highest key p          the byte at position p lies in its range
--     key-lies, lies-key, key-outside      a key in its ranges, and one that is not
--     Paired K lowest highest              question 22 as facts; allowed-paired, paired-allowed, not-paired
-- Assumes nothing.
use mathlib.Core.Path.{◌≡◌, refl, ap, ◌∙◌}
use Prim.Native.Nat.{ℕ, zero, suc, ◌≤◌, ◌<◌}
use native.Mathlib.Omega.{arith}
use mathlib.Core.Bool.{Bool, true, false, ◌&&◌}
use lib.ListN.{length, get_or}
use lib.Dec.{leb, eqb}
use borrow.Author.Tests.{le-leb, leb-true, eq-eqb, eqb-true}
use Rattle.spec_file.specs.Bytes.{Bytes}
use Rattle.law_file.proofs.Tests.{by_bool, by-eq, and_left, and_right, and-true, not-both}
use Rattle.spec_range.specs.Listed.{LiesIn}
use Rattle.spec_range.specs.Ranges.{all_below, in_range, byte_in_range, key_in_ranges, ranges_allowed}

-- ---- a test over the numbers below n

module _ (p : ℕ → Bool) where
  pub all-which : (n : ℕ) → all_below p n ≡ true → (k : ℕ) → k < n → p k ≡ true
  unfolding all_below
  all-which zero h k l = absurd (omega arith)
  all-which (suc n) h k l =
      let ih : k < n → p k ≡ true = all-which n (and_right (p n) (all_below p n) h) k in
      by-eq k n (λ e. ap p e ∙ and_left (p n) (all_below p n) h) (λ e. ih (omega arith))

  pub all-below : (n : ℕ) → ((k : ℕ) → k < n → p k ≡ true) → all_below p n ≡ true
  unfolding all_below
  all-below zero h = refl
  all-below (suc n) h = and-true (p n) (all_below p n) (h n (omega arith)) (all-below n (λ k l. h k (omega arith)))

  pub all-fails : (n k : ℕ) → k < n → p k ≡ false → all_below p n ≡ false
  all-fails n k l f = by_bool (all_below p n) (λ y. absurd (not-both (p k) (all-which n y k l) f)) (λ no'. no')

-- ---- a byte in its range

module _ (lowest highest byte : ℕ) where
  pub range-facts : in_range lowest highest byte ≡ true → (lowest ≤ byte) × (byte ≤ highest)
  unfolding in_range
  range-facts h = (
    leb-true lowest byte (and_left (leb lowest byte) (leb byte highest) h),
    leb-true byte highest (and_right (leb lowest byte) (leb byte highest) h),
  )

  pub facts-range : lowest ≤ byte → byte ≤ highest → in_range lowest highest byte ≡ true
  unfolding in_range
  facts-range a b = and-true (leb lowest byte) (leb byte highest) (le-leb lowest byte a) (le-leb byte highest b)

-- ---- a key in its ranges

module _ (lowest highest : Bytes) where
  -- the byte at position p of the key lies in its range
  abbrev pub LiesAt : Bytes → ℕ → Type 0
  LiesAt key p = (get_or lowest p 0 ≤ get_or key p 0) × (get_or key p 0 ≤ get_or highest p 0)

  pub byte-lies : (key : Bytes) (p : ℕ) → byte_in_range lowest highest key p ≡ true → LiesAt key p
  unfolding byte_in_range
  byte-lies key p h = range-facts (get_or lowest p 0) (get_or highest p 0) (get_or key p 0) h

  pub lies-byte : (key : Bytes) (p : ℕ) → LiesAt key p → byte_in_range lowest highest key p ≡ true
  unfolding byte_in_range
  lies-byte key p h = facts-range (get_or lowest p 0) (get_or highest p 0) (get_or key p 0) h.0 h.1

  pub key-lies : (key : Bytes) → key_in_ranges lowest highest key ≡ true → LiesIn lowest highest key
  unfolding key_in_ranges
  key-lies key h p l = byte-lies key p (all-which (byte_in_range lowest highest key) (length key) h p l)

  pub lies-key : (key : Bytes) → LiesIn lowest highest key → key_in_ranges lowest highest key ≡ true
  unfolding key_in_ranges
  lies-key key h = all-below (byte_in_range lowest highest key) (length key) (λ p l. lies-byte key p (h p l))

  -- one byte that does not is enough
  pub key-outside : (key : Bytes) (p : ℕ) → p < length key → byte_in_range lowest highest key p ≡ false
      → key_in_ranges lowest highest key ≡ false
  unfolding key_in_ranges
  key-outside key p l f = all-fails (byte_in_range lowest highest key) (length key) p l f

-- ---- question 22

pub record Paired (K : ℕ) (lowest highest : Bytes) : Type 0 where
  pub lowest-length : length lowest ≡ K
  pub highest-length : length highest ≡ K
  pub ordered : (p : ℕ) → p < K → get_or lowest p 0 ≤ get_or highest p 0

module _ (K : ℕ) (lowest highest : Bytes) where
  -- at one position
  abbrev test : ℕ → Bool
  test p = leb (get_or lowest p 0) (get_or highest p 0)

  abbrev counts : Bool
  counts = eqb (length lowest) K && eqb (length highest) K

  pub allowed-paired : ranges_allowed K lowest highest ≡ true → Paired K lowest highest
  unfolding ranges_allowed
  allowed-paired h =
      let n = and_left counts (all_below test K) h in
      record {
        lowest-length = eqb-true (length lowest) K (and_left (eqb (length lowest) K) (eqb (length highest) K) n);
        highest-length = eqb-true (length highest) K (and_right (eqb (length lowest) K) (eqb (length highest) K) n);
        ordered = λ p l.
            leb-true (get_or lowest p 0) (get_or highest p 0)
            (all-which test K (and_right counts (all_below test K) h) p l);
      }

  pub paired-allowed : Paired K lowest highest → ranges_allowed K lowest highest ≡ true
  unfolding ranges_allowed
  paired-allowed f =
      and-true counts (all_below test K)
      (and-true (eqb (length lowest) K) (eqb (length highest) K) (eq-eqb (length lowest) K f.lowest-length)
      (eq-eqb (length highest) K f.highest-length))
      (all-below test K (λ p l. le-leb (get_or lowest p 0) (get_or highest p 0) (f.ordered p l)))

  -- what is not so refuses
  pub not-paired : (Paired K lowest highest → ⊥) → ranges_allowed K lowest highest ≡ false
  not-paired n = by_bool (ranges_allowed K lowest highest) (λ y. absurd (n (allowed-paired y))) (λ no'. no')
