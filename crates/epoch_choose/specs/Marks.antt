-- Four bytes of a name by which others are told, and what a function that looks at a slot asks.
--     Marks name m          the bytes of the name before `end`, as a number; nothing where `end` is below 4
--     Told key name m       a key with room for the name, and the name's mark
--     Named img s name      an opened image whose keys have an epoch after a name as long as this one
--     SlotAt img s name m i     its slot i, and the name's mark
-- Assumes nothing.
use Rattle.std.specs.Prelude.{◌≡◌, ℕ, ◌+◌, ◌-◌, ◌≤◌, ◌<◌, length}
use Rattle.spec_file.specs.Bytes.{Bytes, part}
use Rattle.spec_epoch.specs.Epochs.{epoch_size}
use Rattle.bytes_compare.specs.Little.{little}
use Rattle.header_layout.specs.Shapes.{Open}
use Rattle.header_layout.specs.declared.shape.Shape.{Shape}
use Rattle.epoch_choose.specs.declared.Mark.{Mark}

pub record Marks (name : Bytes) (m : Mark) : Type 0 where
  pub ends : m.end ≤ length name
  pub is : 4 ≤ m.end → m.block ≡ little (part name (m.end - 4) 4)

pub record Told (key name : Bytes) (m : Mark) : Type 0 where
  pub room : length name ≤ length key
  pub marks : Marks name m

pub record Named (img : Bytes) (s : Shape) (name : Bytes) : Type 0 where
  pub opened : Open img s
  pub size : length name + epoch_size ≡ s.keylen

pub record SlotAt (img : Bytes) (s : Shape) (name : Bytes) (m : Mark) (i : ℕ) : Type 0 where
  pub named : Named img s name
  pub below : i < s.slots
  pub marks : Marks name m
