-- Slot i of an image, by the layout that its header gives: its key, whether it is empty, its message offset.
--     Placed img s      s is the image's shape, and its table lies in the image: what a write to a slot asks
-- Assumes nothing.
use Rattle.std.specs.Prelude.{◌≡◌, ℕ, ◌+◌, ◌*◌, ◌≤◌, length, Bool}
use Rattle.spec_file.specs.Bytes.{Bytes}
use Rattle.spec_file.specs.Limits.{most_key, most_slots, table_start}
use Rattle.spec_file.specs.Image.{layout_of, slot, key_of, offset_of, slot_bytes, vacant, home, put_slot, blank}
use Rattle.header_layout.specs.Shapes.{shape_of}
use Rattle.header_layout.specs.declared.shape.Shape.{Shape}

pub record Placed (img : Bytes) (s : Shape) : Type 0 where
  pub shape : s ≡ shape_of img
  pub key-high : s.keylen ≤ most_key
  pub slots-high : s.slots ≤ most_slots
  pub table : table_start + s.slots * (s.keylen + 4) ≤ length img

abbrev pub key_in : Bytes → ℕ → Bytes
key_in img i = key_of (layout_of img) (slot (layout_of img) img i)

abbrev pub vacant_in : Bytes → ℕ → Bool
vacant_in img i = vacant (layout_of img) (slot (layout_of img) img i)

abbrev pub offset_in : Bytes → ℕ → ℕ
offset_in img i = offset_of (layout_of img) (slot (layout_of img) img i)

-- the home of its entry
abbrev pub home_in : Bytes → ℕ → ℕ
home_in img i = home (layout_of img) (key_in img i)

-- the image with another offset in slot i
unfoldable pub with_offset : Bytes → ℕ → ℕ → Bytes
with_offset img i o = put_slot (layout_of img) img i (slot_bytes (key_in img i) o)

-- the image with slot i zeroed
abbrev pub cleared_in : Bytes → ℕ → Bytes
cleared_in img i = put_slot (layout_of img) img i (blank (layout_of img))
