-- Records and stored bytes that agree on some of the places: what holds in the middle of rearranging them.
--     AtPlace W n recs stored r j      byte j of record r, of n, stands at its place of the columns
--     Agree W n recs stored k w       so do the first w bytes of each of the first k records
--     Sized W n recs stored           they are as long as n records of W bytes, and their columns
--     BlockNext W n recs stored a e       the block of records from a to e is next: those before it are placed
--     BlockTo W n recs stored a e j     and so are the first j bytes of each of its records
--     RunTo W n recs stored a e j w r      and so are the next w bytes of those of its records that stand before r
-- Assumes nothing.
use Rattle.std.specs.Prelude.{ℕ, ◌+◌, ◌*◌, ◌≤◌, ◌<◌, ◌≡◌, length, get_or}
use Rattle.spec_file.specs.Bytes.{Bytes}

abbrev pub AtPlace : ℕ → ℕ → Bytes → Bytes → ℕ → ℕ → Type 0
AtPlace W n recs stored r j = get_or recs (r * W + j) 0 ≡ get_or stored (1 + j * n + r) 0

abbrev pub Agree : ℕ → ℕ → Bytes → Bytes → ℕ → ℕ → Type 0
Agree W n recs stored k w = (r j : ℕ) → r < k → j < w → AtPlace W n recs stored r j

pub record Sized (W n : ℕ) (recs stored : Bytes) : Type 0 where
  pub records-length : length recs ≡ n * W
  pub stored-length : length stored ≡ 1 + n * W

pub record BlockNext (W n : ℕ) (recs stored : Bytes) (a e : ℕ) : Type 0 where
  pub sized : Sized W n recs stored
  pub begin : a ≤ e
  pub end : e ≤ n
  pub placed : Agree W n recs stored a W

abbrev pub BlockTo : ℕ → ℕ → Bytes → Bytes → ℕ → ℕ → ℕ → Type 0
BlockTo W n recs stored a e j = BlockNext W n recs stored a e × Agree W n recs stored e j

pub record RunTo (W n : ℕ) (recs stored : Bytes) (a e j w r : ℕ) : Type 0 where
  pub begun : BlockTo W n recs stored a e j
  pub wide : j + w ≤ W
  pub from : a ≤ r
  pub upto : r ≤ e
  pub this : Agree W n recs stored r (j + w)
