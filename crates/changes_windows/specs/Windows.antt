-- The windows of an image in which a call may have written, as stretches; and the bytes before the call, which stand
-- in a working slice where a window is, and else in the image after it.
--     windows_of w         the windows as stretches
--     before w work new   the image before the call
--     Sorted w L          in order, in an image of L bytes
--     Kept w work new     so, and the working slice is no shorter
--     Ahead w L i from end     from .. end is what is left, from i on, of the first window that ends above i
-- Assumes nothing.
use Rattle.std.specs.Prelude.{◌≡◌, true, false, ℕ, ◌-◌, ◌≤◌, ◌<◌, List, [], ◌∷◌, length}
use Rattle.spec_file.specs.Bytes.{Bytes}
use Rattle.spec_changes.specs.Changes.{Pair, covered, copied}
use Rattle.changes_windows.specs.declared.Windows.{Windows}

abbrev pub stretch : ℕ → ℕ → Pair
stretch from end = record { at = from; size = end - from }

unfoldable pub windows_of : Windows → List Pair
windows_of w =
    stretch 0 w.end1
    ∷ stretch w.from2 w.end2
    ∷ stretch w.from3 w.end3
    ∷ stretch w.from4 w.end4
    ∷ []

abbrev pub before : Windows → Bytes → Bytes → Bytes
before w work new = copied (windows_of w) work new

pub record Sorted (w : Windows) (L : ℕ) : Type 0 where
  pub gap1 : w.end1 ≤ w.from2
  pub second : w.from2 ≤ w.end2
  pub gap2 : w.end2 ≤ w.from3
  pub third : w.from3 ≤ w.end3
  pub gap3 : w.end3 ≤ w.from4
  pub fourth : w.from4 ≤ w.end4
  pub high : w.end4 ≤ L

-- the windows lie in the image, and the working slice is no shorter than it
pub record Kept (w : Windows) (work new : Bytes) : Type 0 where
  pub sorted : Sorted w (length new)
  pub roomy : length new ≤ length work

pub record Ahead (w : Windows) (L i from end : ℕ) : Type 0 where
  pub low : i ≤ from
  pub order : from ≤ end
  pub high : end ≤ L
  pub more : i < L → i < end
  pub outside : (j : ℕ) → i ≤ j → j < from → covered (windows_of w) j ≡ false
  pub inside : (j : ℕ) → from ≤ j → j < end → covered (windows_of w) j ≡ true
