-- An image in the middle of a compaction, told by its messages: those that begin below a place s stand packed from D
-- on, and their slots say so; the others are as at first; no slot has an inactive message any more.
--     offset_now, slot_now      a slot at that stage
--     Stage g img img' s q      img' is img at that stage; q is the next free place
--     Forgotten      the first one
--     Staged      a stage of a sound image
--     Onward      what a step leaves of a stage
--     Movable, moved_to      the message of a slot that can be moved down to q, and the image with it moved
-- Assumes nothing.
use Rattle.std.specs.Prelude.{◌≡◌, Bool, true, cond, not, ◌&&◌, ℕ, ◌+◌, ◌-◌, ◌*◌, ◌≤◌, ◌<◌, length, get_or, ltb, eqb}
use Rattle.spec_file.specs.Bytes.{Bytes, part, store, zeros}
use Rattle.spec_file.specs.Limits.{table_start, free_field}
use Rattle.spec_file.specs.Image.{field, Layout, layout_of, slot_size, slot, put_slot, key_of, offset_of, slot_bytes}
use Rattle.spec_file.specs.Messages.{head_size, length_at, is_active}
use Rattle.spec_file.specs.Inspect.{taken, check, sound}
use Rattle.spec_compaction.specs.Compact.{packed_below, packed_offset, packed, lower_free}
use Rattle.header_layout.specs.Shapes.{Open}
use Rattle.header_layout.specs.declared.shape.Shape.{Shape}

-- ---- slots

-- the message offset and the key of slot i, and how many bytes its message has
abbrev pub offset_in : Bytes → ℕ → ℕ
offset_in img i = offset_of (layout_of img) (slot (layout_of img) img i)

abbrev pub key_in : Bytes → ℕ → Bytes
key_in img i = key_of (layout_of img) (slot (layout_of img) img i)

abbrev pub span_in : Bytes → ℕ → ℕ
span_in img i = head_size (layout_of img) + length_at (layout_of img) img (offset_in img i)

-- slot i has an inactive message
unfoldable pub dead_in : Bytes → ℕ → Bool
dead_in img i =
    taken (layout_of img) img i && (not (eqb (offset_in img i) 0) && not (is_active img (offset_in img i)))

-- how many bytes its active message has, 0 where it has none
unfoldable pub active_in : Bytes → ℕ → ℕ
active_in img i = cond (taken (layout_of img) img i && is_active img (offset_in img i)) (span_in img i) 0

-- ---- stages

unfoldable pub offset_now : Layout → Bytes → ℕ → ℕ → ℕ
offset_now g img s o = cond (is_active img o) (cond (ltb o s) (g.D + length (packed_below g img o)) o) 0

unfoldable pub slot_now : Layout → Bytes → ℕ → ℕ → Bytes
slot_now g img s i =
    let was : Bytes = slot g img i in
    cond (taken g img i) (slot_bytes (key_of g was) (offset_now g img s (offset_of g was))) was

-- where the table ends
abbrev pub table_end : Layout → ℕ
table_end g = table_start + g.N * slot_size g

pub record Stage (g : Layout) (img img' : Bytes) (s q : ℕ) : Type 0 where
  pub size : length img' ≡ length img
  pub front : part img' 0 table_start ≡ part img 0 table_start
  pub slots : (i : ℕ) → i < g.N → slot g img' i ≡ slot_now g img s i
  pub behind : part img' (table_end g) (g.D - table_end g) ≡ part img (table_end g) (g.D - table_end g)
  pub place : q ≡ g.D + length (packed_below g img s)
  pub filled : part img' g.D (length (packed_below g img s)) ≡ packed_below g img s
  pub waiting : (i : ℕ) → i < g.N → taken g img i ≡ true → is_active img (offset_of g (slot g img i)) ≡ true
      → s ≤ offset_of g (slot g img i)
      → part img' (offset_of g (slot g img i)) (head_size g + length_at g img (offset_of g (slot g img i)))
      ≡ part img (offset_of g (slot g img i)) (head_size g + length_at g img (offset_of g (slot g img i)))

-- bytes that the check calls sound, and their shape
pub record Sound (img : Bytes) (s : Shape) : Type 0 where
  pub opened : Open img s
  pub bytes : (i : ℕ) → get_or img i 0 < 256
  pub checked : check img ≡ sound

-- the first stage: only the offsets of inactive messages are gone. The active ones have n bytes
pub record Forgotten (img img' : Bytes) (n : ℕ) : Type 0 where
  pub stage : Stage (layout_of img) img img' (layout_of img).D (layout_of img).D
  pub area : (p m : ℕ) → (layout_of img).D ≤ p → part img' p m ≡ part img p m
  pub bytes : n ≡ length (packed (layout_of img) img)

-- a stage of a sound image
pub record Staged (img img' : Bytes) (s : Shape) (lo q : ℕ) : Type 0 where
  pub sound : Sound img s
  pub low : (layout_of img).D ≤ lo
  pub stage : Stage (layout_of img) img img' lo q

-- whatever image lo and q are a stage of, hi and r are one of it afterwards
abbrev pub Onward : Shape → Bytes → Bytes → ℕ → ℕ → ℕ → ℕ → Type 0
Onward s img' img'' lo q hi r = (img : Bytes) → Staged img img' s lo q → Stage (layout_of img) img img'' hi r

-- the first stage of a sound image; and whatever image it is one of, the last stage of it afterwards
abbrev pub Begun : Bytes → Bytes → Shape → Type 0
Begun img img' s = Staged img img' s (layout_of img).D (layout_of img).D

abbrev pub Swept : Shape → Bytes → Bytes → ℕ → Type 0
Swept s img' img'' r = (img : Bytes) → Begun img img' s → Stage (layout_of img) img img'' (field img free_field) r

-- ---- a message moved

-- what a move asks: the message lies in the image, and q is in the data area, not above it
pub record Movable (img : Bytes) (s : Shape) (i q : ℕ) : Type 0 where
  pub opened : Open img s
  pub low : i < s.slots
  pub above : (layout_of img).D ≤ q
  pub down : q ≤ offset_in img i
  pub end : offset_in img i + span_in img i ≤ length img

-- n bytes copied down from `from` to q, and q written into slot i
unfoldable pub carried : Bytes → ℕ → ℕ → ℕ → ℕ → Bytes
carried img i from q n =
    put_slot (layout_of img) (store img q (part img from n)) i (slot_bytes (key_in img i) q)

unfoldable pub moved_to : Bytes → ℕ → ℕ → Bytes
moved_to img i q = cond (eqb q (offset_in img i)) img (carried img i (offset_in img i) q (span_in img i))

-- a cell passed: the slot that it names moved, or nothing where it names none
pub record Passed (s : Shape) (img img' : Bytes) (i q r : ℕ) : Type 0 where
  pub none : s.slots ≤ i → (img' ≡ img) × (r ≡ q)
  pub one : i < s.slots → (img' ≡ moved_to img i q) × (r ≡ q + span_in img i)

-- ---- the end

-- zeros from x on, and x as X
unfoldable pub finished : Bytes → ℕ → Bytes
finished img x = lower_free (layout_of img).D (store img x (zeros (length img - x))) x
