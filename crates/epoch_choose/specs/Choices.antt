-- The best slot so far as the code keeps it: how it was found, and its epoch.
--     kept_of best i e        the best so far, or slot i with epoch e if that is larger
--     Kept img best          its epoch is that of its slot
--     Looking img s name m i best     before slot i is looked at
--     Looked img name t i best r      after it
--     Chooses img name t r   after all slots
-- Assumes nothing.
use Rattle.std.specs.Prelude.{◌≡◌, ℕ, true, cond, ◌&&◌, leb}
use Rattle.spec_file.specs.Bytes.{Bytes}
use Rattle.spec_file.specs.Image.{layout_of}
use Rattle.spec_file.specs.Search.{is_met, slot_of}
use Rattle.spec_epoch.specs.Epochs.{epoch_at, eligible, later, chosen}
use Rattle.header_layout.specs.declared.places.Slot.{Slot}
use Rattle.header_layout.specs.declared.shape.Shape.{Shape}
use Rattle.table_search.specs.declared.Found.TheVariants.{Met}
use Rattle.table_search.specs.Probes.{probe_of}
use Rattle.epoch_choose.specs.declared.Chosen.{Chosen}
use Rattle.epoch_choose.specs.declared.Mark.{Mark}
use Rattle.epoch_choose.specs.Marks.{SlotAt}

unfoldable pub kept_of : Chosen → Slot → ℕ → Chosen
kept_of best i e =
    cond (is_met (probe_of best.found) && leb e best.epoch) best (record { found = Met i; epoch = e })

unfoldable pub Kept : Bytes → Chosen → Type 0
Kept img best =
    is_met (probe_of best.found) ≡ true → best.epoch ≡ epoch_at (layout_of img) img (slot_of (probe_of best.found))

pub record Looking (img : Bytes) (s : Shape) (name : Bytes) (m : Mark) (i : ℕ) (best : Chosen) : Type 0 where
  pub slot : SlotAt img s name m i
  pub kept : Kept img best

pub record Looked (img name : Bytes) (t i : ℕ) (best r : Chosen) : Type 0 where
  pub found : probe_of r.found
      ≡ cond (eligible (layout_of img) img name t i) (later (layout_of img) img (probe_of best.found) i)
      (probe_of best.found)
  pub kept : Kept img r

pub record Chooses (img name : Bytes) (t : ℕ) (r : Chosen) : Type 0 where
  pub found : probe_of r.found ≡ chosen (layout_of img) img name t
  pub kept : Kept img r
