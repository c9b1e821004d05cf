-- One byte more at its place. Each place is written once, and the bytes that are placed stay so.
--     record-place, column-place             the places of a byte are within the bytes
--     block-first, block-next, block-done    no record placed; the next block; all its records placed
--     reached-first, reached-all             of a block's records none; all
--     Turn, turn-first, turn_last            of the w bytes of one record those before byte c: none of them; all
--     written-more, read_more, read_next     byte c written to the columns, or read from them
--     written_one, read_one                  the same where w is 1
--     written_all, read_all                  all records placed
-- Assumes nothing.
use Prim.Native.Nat.{ℕ, ◌+◌, ◌*◌, ◌≤◌, ◌<◌}
use native.Mathlib.Nat.{mul_comm}
use native.Mathlib.Omega.{arith}
use mathlib.Core.Path.{◌≡◌, refl, sym, ◌∙◌}
use lib.ListN.{length, get_or, set, length-set}
use lib.Seq.{get_or-set_same, get_or-set_other}
use Rattle.spec_file.specs.Bytes.{Bytes}
use Rattle.law_file.proofs.Tests.{by_le}
use Rattle.spec_columns.specs.Columns.{width_of, columns, records}
use Rattle.spec_columns.specs.Places.{AtPlace, Agree, Sized, BlockNext, BlockTo, RunTo}
use Rattle.law_columns.proofs.Grid.{place-below, same_row, same_byte}
use Rattle.law_columns.proofs.Turned.{columns-only, records-only}

-- ---- places

pub record-place : {W n : ℕ} {recs stored : Bytes} (r j : ℕ) → Sized W n recs stored → r < n → j < W
    → r * W + j < length recs
record-place {W} {n} r j s p q = omega (arith, place-below n W r j p q)

pub column-place : {W n : ℕ} {recs stored : Bytes} (r j : ℕ) → Sized W n recs stored → r < n → j < W
    → 1 + j * n + r < length stored
column-place {W} {n} r j s p q = omega (arith, place-below W n j r q p, mul_comm W n)

-- ---- blocks

pub block-first : (W n : ℕ) (recs stored : Bytes) → length recs ≡ n * W → length stored ≡ 1 + n * W
    → BlockNext W n recs stored 0 0
block-first W n recs stored l m =
    record {
      sized = record { records-length = l; stored-length = m };
      begin = omega arith;
      end = omega arith;
      placed = λ r j p q. absurd (omega arith);
    }

pub block-next : {W n : ℕ} {recs stored : Bytes} {a : ℕ} (e : ℕ) → BlockNext W n recs stored a a → a ≤ e → e ≤ n
    → BlockNext W n recs stored a e
block-next e b p q =
    record {
      sized = b.sized;
      begin = p;
      end = q;
      placed = b.placed;
    }

pub block-done : {W n : ℕ} {recs stored : Bytes} {a e : ℕ} (j : ℕ) → BlockTo W n recs stored a e j → W ≤ j
    → BlockNext W n recs stored e e
block-done j (b, all) h =
    record {
      sized = b.sized;
      begin = omega arith;
      end = b.end;
      placed = λ r k p q. all r k p (omega arith);
    }

-- ---- within a block

pub reached-first : (W n : ℕ) (recs stored : Bytes) (a e j w : ℕ) → BlockTo W n recs stored a e j → j + w ≤ W
    → RunTo W n recs stored a e j w a
reached-first W n recs stored a e j w b wide =
    record {
      begun = b;
      wide = wide;
      from = omega arith;
      upto = b.0.begin;
      this = λ r k p q. b.0.placed r k p (omega arith);
    }

pub reached-all : {W n : ℕ} {recs stored : Bytes} {a e j w r : ℕ} → RunTo W n recs stored a e j w r → e ≤ r
    → BlockTo W n recs stored a e (j + w)
reached-all s h = (s.begun.0, λ i k p q. s.this i k (omega arith) q)

-- of record r the bytes before byte c
pub record Turn (W n : ℕ) (recs stored : Bytes) (a e j w r c : ℕ) : Type 0 where
  pub reached : RunTo W n recs stored a e j w r
  pub within : r < e
  pub row : Agree W n recs stored (r + 1) c

pub turn-first : {W n : ℕ} {recs stored : Bytes} {a e j w r : ℕ} → RunTo W n recs stored a e j w r → r < e
    → Turn W n recs stored a e j w r j
turn-first s h = record { reached = s; within = h; row = λ i k p q. s.begun.1 i k (omega arith) q }

pub turn_last : {W n : ℕ} {recs stored : Bytes} {a e j w r c : ℕ} (r' : ℕ) → Turn W n recs stored a e j w r c
    → j + w ≤ c → r' ≡ r + 1 → RunTo W n recs stored a e j w r'
turn_last r' t l x =
    record {
      begun = t.reached.begun;
      wide = t.reached.wide;
      from = omega arith;
      upto = omega arith;
      this = λ i k p q. t.row i k (omega arith) (omega arith);
    }

-- byte c of record r comes to its place, and what is placed stays so
turn_more : (W n : ℕ) (recs stored recs' stored' : Bytes) (a e j w r c : ℕ) → Turn W n recs stored a e j w r c
    → j ≤ c → c < j + w → length recs' ≡ length recs → length stored' ≡ length stored → AtPlace W n recs' stored' r c
    → ((i k : ℕ) → i < n → k < W → (i ≡ r → k ≡ c → ⊥) → AtPlace W n recs stored i k → AtPlace W n recs' stored' i k)
    → Turn W n recs' stored' a e j w r (c + 1)
turn_more W n recs stored recs' stored' a e j w r c t lo hi lr ls here kept =
    let s = t.reached in
    let b = s.begun.0 in
    let next : BlockNext W n recs' stored' a e =
    record {
      sized =
          record {
            records-length = lr ∙ b.sized.records-length;
            stored-length = ls ∙ b.sized.stored-length;
          };
      begin = b.begin;
      end = b.end;
      placed = λ i k p q. kept i k (omega arith) q (λ x y. omega arith) (b.placed i k p q);
    }
    in
    record {
      reached =
          record {
            begun = (next, λ i k p q. kept i k (omega arith) (omega arith) (λ x y. omega arith) (s.begun.1 i k p q));
            wide = s.wide;
            from = s.from;
            upto = s.upto;
            this = λ i k p q. kept i k (omega arith) (omega arith) (λ x y. omega arith) (s.this i k p q);
          };
      within = t.within;
      row =
          λ i k p q.
          by_le c k
          (λ x.
          by_le r i
          (λ y.
          let record' : r ≡ i = omega arith in
          let byte : c ≡ k = omega arith in
          rw (← record', ← byte) here)
          (λ y. kept i k (omega arith) (omega arith) (λ u v. omega arith) (s.this i k y (omega arith))))
          (λ x. kept i k (omega arith) (omega arith) (λ u v. omega arith) (t.row i k p x));
    }

module _ (W n : ℕ) (recs stored : Bytes) (a e j w r c : ℕ) (t : Turn W n recs stored a e j w r c) (lo : j ≤ c)
    (hi : c < j + w) where
  -- the byte written to the columns
  pub written-more : Turn W n recs (set stored (1 + c * n + r) (get_or recs (r * W + c) 0)) a e j w r (c + 1)
  written-more =
      let at : ℕ = 1 + c * n + r in
      let b : ℕ = get_or recs (r * W + c) 0 in
      let z : r < n = omega arith in
      turn_more W n recs stored recs (set stored at b) a e j w r c t lo hi refl (length-set stored at b)
      (sym (get_or-set_same stored at b 0 (column-place r c t.reached.begun.0.sized z (omega arith))))
      (λ i k p q other placed.
      placed ∙ sym
      (get_or-set_other stored at (1 + k * n + i) b 0
      (λ x.
      let y : k * n + i ≡ c * n + r = omega arith in
      other (same_byte n k i c r p z y) (same_row n k i c r p z y))))

  -- the byte read from them
  pub read_more : Turn W n (set recs (r * W + c) (get_or stored (1 + c * n + r) 0)) stored a e j w r (c + 1)
  read_more =
      let at : ℕ = r * W + c in
      let b : ℕ = get_or stored (1 + c * n + r) 0 in
      let z : c < W = omega arith in
      turn_more W n recs stored (set recs at b) stored a e j w r c t lo hi (length-set recs at b) refl
      (get_or-set_same recs at b 0 (record-place r c t.reached.begun.0.sized (omega arith) z))
      (λ i k p q other placed.
      get_or-set_other recs at (i * W + k) b 0
      (λ x. other (same_row W i k r c q z x) (same_byte W i k r c q z x)) ∙ placed)

-- one more byte of record r, as the code leaves it
pub read_next : {W n : ℕ} {recs stored : Bytes} {a e j w r c : ℕ} (c' : ℕ) → Turn W n recs stored a e j w r c → j ≤ c
    → c < j + w → c' ≡ c + 1 → (recs' : Bytes) → recs' ≡ set recs (r * W + c) (get_or stored (1 + c * n + r) 0)
    → Turn W n recs' stored a e j w r c'
read_next c' t lo hi x recs' y = rw (y, x) (read_more _ _ _ _ _ _ _ _ _ _ t lo hi)

-- ---- a turn of one byte

module _ {W n : ℕ} {recs stored : Bytes} {a e j r : ℕ} (r' : ℕ) (s : RunTo W n recs stored a e j 1 r) (h : r < e)
    (x : r' ≡ r + 1) where
  pub written_one : (stored' : Bytes) → stored' ≡ set stored (1 + j * n + r) (get_or recs (r * W + j) 0)
      → RunTo W n recs stored' a e j 1 r'
  written_one stored' y =
      let t = written-more W n recs stored a e j 1 r j (turn-first s h) (omega arith) (omega arith) in
      rw y (turn_last r' t (omega arith) x)

  pub read_one : (recs' : Bytes) → recs' ≡ set recs (r * W + j) (get_or stored (1 + j * n + r) 0)
      → RunTo W n recs' stored a e j 1 r'
  read_one recs' y =
      let t = read_more W n recs stored a e j 1 r j (turn-first s h) (omega arith) (omega arith) in
      rw y (turn_last r' t (omega arith) x)

-- ---- all records placed

pub written_all : (W n : ℕ) (recs stored : Bytes) (a : ℕ) → BlockNext W n recs stored a a → n ≤ a → 0 < W
    → set stored 0 W ≡ columns W recs
unfolding width_of
written_all W n recs stored a b h pos =
    sym
    (columns-only W n recs (set stored 0 W) (get_or-set_same stored 0 W 0 (omega (arith, b.sized.stored-length))) pos
    b.sized.records-length (length-set stored 0 W ∙ b.sized.stored-length)
    (λ r j p q.
    b.placed r j (omega arith) q ∙ sym (get_or-set_other stored 0 (1 + j * n + r) W 0 (λ x. omega arith))))

pub read_all : (W n : ℕ) (recs stored : Bytes) (a : ℕ) → BlockNext W n recs stored a a → n ≤ a → width_of stored ≡ W
    → 0 < W → recs ≡ records stored
read_all W n recs stored a b h first pos =
    sym
    (records-only W n recs stored first pos b.sized.records-length b.sized.stored-length
    (λ r j p q. b.placed r j (omega arith) q))
