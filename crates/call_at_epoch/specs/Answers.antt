-- The call's answer as the code has it, by the specification's.
--     Answers d r      r's numbers are d's
--     Picked img s c   the entry that was chosen of an opened image
--     shown_of img s    what questions 14 and 11 leave of the entry that was chosen, those before them answered yes
-- Assumes nothing.
use Rattle.std.specs.Prelude.{◌≡◌, ℕ, cond, eqb}
use Rattle.spec_file.specs.Bytes.{Bytes}
use Rattle.spec_file.specs.Image.{layout_of}
use Rattle.spec_file.specs.Search.{Probe, slot_of}
use Rattle.spec_file.specs.Questions.{first_no, shown_asks}
use Rattle.spec_epoch.specs.Epochs.{Dated, shown_at, refused_dated}
use Rattle.header_layout.specs.Shapes.{Open}
use Rattle.header_layout.specs.declared.shape.Shape.{Shape}
use Rattle.table_search.specs.Probes.{probe_of, Within}
use Rattle.epoch_choose.specs.Choices.{Kept}
use Rattle.epoch_choose.specs.declared.Chosen.{Chosen}
use Rattle.call_at_epoch.specs.declared.Dated as code

pub record Answers (d : Dated) (r : code.Dated) : Type 0 where
  pub number : r.located.number ≡ d.number
  pub epoch : r.epoch ≡ d.epoch
  pub start : r.located.start.0 ≡ d.start
  pub length : r.located.length ≡ d.length

pub record Picked (img : Bytes) (s : Shape) (c : Chosen) : Type 0 where
  pub opened : Open img s
  pub within : Within s.slots (probe_of c.found)
  pub kept : Kept img c

unfoldable pub shown_of : Bytes → Probe → Dated
shown_of img s =
    let n : ℕ = first_no (shown_asks (layout_of img) img s) in
    cond (eqb n 0) (shown_at (layout_of img) img (slot_of s)) (refused_dated n)
