-- A target in the middle of a conversion: the messages that begin below a place are carried.
--     carried_below img L p      the target, of L bytes, then
--     Converting      t is that target, of an accepted conversion; what the code asks and leaves
--     Carriable, carried_to      the message of a slot that can be carried, and the target with it
--     Passed      a number passed: the slot's message carried, or nothing where it is no slot's
--     Visits      numbers that name, in order, the slots that start in a window
-- Assumes nothing.
use Rattle.std.specs.Prelude.{◌≡◌, true, cond, ℕ, ◌+◌, ◌-◌, ◌≤◌, ◌<◌, length, get_or}
use Rattle.spec_file.specs.Bytes.{Bytes}
use Rattle.spec_file.specs.Image.{layout_of}
use Rattle.spec_file.specs.Messages.{length_at, text_at, is_active}
use Rattle.spec_file.specs.Questions.{message_sound}
use Rattle.spec_conversion.specs.Convert.{other_layout, bare_image, carried, carried_from, convert_number}
use Rattle.header_layout.specs.Shapes.{Open}
use Rattle.header_layout.specs.declared.shape.Shape.{Shape}
use Rattle.table_search.specs.Slots.{key_in, offset_in}
use Rattle.message_write.specs.Fits.{Fits}

unfoldable pub carried_below : Bytes → ℕ → ℕ → Bytes
carried_below img L p =
    carried_from (layout_of img) (other_layout img) img (p - (layout_of img).D) (layout_of img).D (bare_image img L)

pub record Converting (img t : Bytes) (from to : Shape) (p : ℕ) : Type 0 where
  pub source : Open img from
  pub bytes : (i : ℕ) → get_or img i 0 < 256
  pub accepted : convert_number img (length t) ≡ 0
  pub target : Open t to
  pub low : (layout_of img).D ≤ p
  pub same : t ≡ carried_below img (length t) p

-- ---- one message

-- the message at o of the source can be carried into slot i of the target
pub record Carriable (img t : Bytes) (from to : Shape) (i o : ℕ) : Type 0 where
  pub source : Open img from
  pub target : Open t to
  pub there : i < to.slots
  pub sound : message_sound (layout_of img) img o ≡ true
  pub fits : is_active img o ≡ true → Fits t to (length_at (layout_of img) img o)

-- its text in new space of the target, and the slot's offset, which leads there; nothing where it is not active
unfoldable pub carried_to : Bytes → Bytes → ℕ → ℕ → Bytes
carried_to img t i o =
    cond (is_active img o) (carried (layout_of t) t i (key_in t i) (text_at (layout_of img) img o)) t

pub record Passed (img : Bytes) (from : Shape) (t t' : Bytes) (i : ℕ) : Type 0 where
  pub none : from.slots ≤ i → t' ≡ t
  pub one : i < from.slots → t' ≡ carried_to img t i (offset_in img i)

-- ---- a window

-- m numbers: the one numbered k names the slot, of n, that starts from place k up to place k + 1, if there is one
pub record Visits (start : ℕ → ℕ) (n lo hi m : ℕ) (name place : ℕ → ℕ) : Type 0 where
  pub first : place 0 ≡ lo
  pub rises : (k : ℕ) → k < m → place k ≤ place (k + 1)
  pub above : (k : ℕ) → k ≤ m → lo ≤ place k
  pub named : (k : ℕ) → k < m → name k < n → (place k ≤ start (name k)) × (start (name k) < place (k + 1))
  pub only : (k j : ℕ) → k < m → j < n → place k ≤ start j → start j < place (k + 1) → j ≡ name k
  pub last : place m ≤ hi
  pub rest : (j : ℕ) → j < n → place m ≤ start j → start j < hi → ⊥
