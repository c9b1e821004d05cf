-- What a window lo .. hi shows of one stretch start .. stop.
--     within_low, within-high, within_in      a start that lies in the window, and one that does not
--     piece-carried, piece-here, piece-none      the three cases
--     unseen-on      one more slot of which it shows nothing
-- Assumes nothing.
use mathlib.Core.Path.{◌≡◌, subst}
use Prim.Native.Nat.{ℕ, ◌+◌, ◌≤◌, ◌<◌}
use native.Mathlib.Omega.{arith}
use mathlib.Core.Bool.{and-false}
use lib.Dec.{leb}
use borrow.Author.Tests.{le-leb, lt-leb, lt-ltb, le-ltb}
use Rattle.law_file.proofs.Tests.{by_le}
use Rattle.message_stretch.specs.Windows.{within, Piece, Unseen}

module _ (lo hi start : ℕ) where
  pub within_low : start < lo → within lo hi start ≡ hi
  unfolding within
  within_low h = rw (lt-leb lo start h)

  pub within-high : hi ≤ start → within lo hi start ≡ hi
  unfolding within
  within-high h = rw (le-ltb start hi h, and-false (leb lo start))

  pub within_in : lo ≤ start → start < hi → within lo hi start ≡ start
  unfolding within
  within_in h k = rw (le-leb lo start h, lt-ltb start hi k)

  -- a start that is not in the window
  pub within-not : (lo ≤ start → start < hi → ⊥) → within lo hi start ≡ hi
  within-not n = by_le lo start (λ h. by_le hi start (λ k. within-high k) (λ k. absurd (n h k))) (λ h. within_low h)

  -- and back
  pub within-at : within lo hi start < hi → (lo ≤ start) × (start < hi) × (within lo hi start ≡ start)
  within-at l =
      by_le lo start
      (λ h. by_le hi start (λ k. absurd (omega (arith, within-high k))) (λ k. (h, k, within_in h k)))
      (λ h. absurd (omega (arith, within_low h)))

module _ (start stop lo hi : ℕ) (window : lo ≤ hi) where
  pub piece-carried : start < lo → lo < stop → Piece start stop lo hi lo stop
  piece-carried a b =
      record {
        low = omega arith;
        high = window;
        order = omega arith;
        inside = λ q c d e f. (c, f);
        only = λ q c d e. (omega arith, d);
        past = λ c d. d;
        crosses = λ c. (omega arith, c);
      }

  pub piece-here : lo ≤ start → start < hi → start ≤ stop → Piece start stop lo hi start stop
  piece-here a b o =
      record {
        low = a;
        high = omega arith;
        order = o;
        inside = λ q c d e f. (e, f);
        only = λ q c d e. (c, d);
        past = λ c d. d;
        crosses = λ c. (b, c);
      }

  -- it neither starts in the window nor comes in from below
  pub piece-none : (lo ≤ start → start < hi → ⊥) → (start < lo → lo < stop → ⊥) → Piece start stop lo hi hi hi
  piece-none a b =
      record {
        low = window;
        high = omega arith;
        order = omega arith;
        inside = λ q c d e f. absurd (by_le lo start (λ k. a k (omega arith)) (λ k. b k (omega arith)));
        only = λ q c d e. absurd (omega arith);
        past = λ c d. absurd (by_le lo start (λ k. a k c) (λ k. b k (omega arith)));
        crosses = λ c. absurd (omega arith);
      }

pub unseen-on : (start stop : ℕ → ℕ) (lo hi from i : ℕ) → Unseen start stop lo hi from i
    → Piece (start i) (stop i) lo hi hi hi → Unseen start stop lo hi from (i + 1)
unseen-on start stop lo hi from i u p j a b =
    by_le i j
    (λ h. subst (λ (n : ℕ). Piece (start n) (stop n) lo hi hi hi) (omega arith) p)
    (λ h. u j a h)
