-- A sweep over the data area, window by window, of slots with the stretches start i .. stop i.
--     Piece      of one slot's stretch, what a window lo .. hi shows
--     Unseen      of which slots it shows nothing
--     Clear, Swept      what is known of the stretches below `at`
-- Assumes nothing.
use Rattle.std.specs.Prelude.{◌≡◌, cond, ◌&&◌, ℕ, ◌≤◌, ◌<◌, leb, ltb}
use Rattle.spec_file.specs.Bytes.{Bytes}
use Rattle.header_layout.specs.declared.shape.Shape.{Shape}
use Rattle.message_stretch.specs.Checked.{start_in, end_in, Checked}

-- a start that lies in the window lo .. hi, else hi
unfoldable pub within : ℕ → ℕ → ℕ → ℕ
within lo hi start = cond (leb lo start && ltb start hi) start hi

-- from .. end is start .. stop as far as the window shows it; the end may lie past the window
pub record Piece (start stop lo hi from end : ℕ) : Type 0 where
  pub low : lo ≤ from
  pub high : from ≤ hi
  pub order : from ≤ end
  pub inside : (q : ℕ) → lo ≤ q → q < hi → start ≤ q → q < stop → (from ≤ q) × (q < end)
  pub only : (q : ℕ) → from ≤ q → q < end → q < hi → (start ≤ q) × (q < stop)
  pub past : start < hi → hi < stop → hi < end
  pub crosses : hi < end → (start < hi) × (hi < stop)

-- of the slots from `from` on, below `to`, the window shows nothing
abbrev pub Unseen : (ℕ → ℕ) → (ℕ → ℕ) → ℕ → ℕ → ℕ → ℕ → Type 0
Unseen start stop lo hi from to = (j : ℕ) → from ≤ j → j < to → Piece (start j) (stop j) lo hi hi hi

-- slot i is the carried one exactly where its stretch goes on across lo
pub record Carried (start stop lo i carried : ℕ) : Type 0 where
  pub is : start < lo → lo < stop → i ≡ carried
  pub crosses : i ≡ carried → (start < lo) × (lo < stop)

-- No two slots below `best` share a place below `at`; and `carried` is the one slot below it, if there is one, whose
-- stretch goes on across `at`.
pub record Clear (start stop : ℕ → ℕ) (at best carried : ℕ) : Type 0 where
  pub apart : (i j q : ℕ) → i < j → j < best → q < at → start i ≤ q → q < stop i → start j ≤ q → q < stop j → ⊥
  pub carries : (i : ℕ) → i < best → start i < at → at < stop i → i ≡ carried
  pub crosses : carried < best → (start carried < at) × (at < stop carried)

-- and `best` is the bound, or a slot below it whose stretch meets a lower one's
pub record Swept (start stop : ℕ → ℕ) (bound at best carried : ℕ) : Type 0 where
  pub low : best ≤ bound
  pub found : best < bound → (j : ℕ) × (j < best) × (start j < stop best) × (start best < stop j)
  pub clear : Clear start stop at best carried

-- what a pass through the window lo .. hi asks
pub record Window (img : Bytes) (s : Shape) (lo hi best carried : ℕ) : Type 0 where
  pub checked : Checked img s best
  pub low : 0 < lo
  pub order : lo < hi
  pub clear : Clear (start_in img) (end_in img) lo best carried
