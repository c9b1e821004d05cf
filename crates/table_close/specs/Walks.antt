-- One look of delete's walk at a taken slot j: the image and the hole from then on.
--     Beside s hole j       the hole and another slot
--     Looked img hole j hole' img'       what a look leaves
-- Assumes nothing.
use Rattle.std.specs.Prelude.{◌≡◌, ℕ, ◌<◌, Bool, cond}
use Rattle.spec_file.specs.Bytes.{Bytes}
use Rattle.spec_file.specs.Image.{Layout, layout_of, slot, key_of, home}
use Rattle.spec_file.specs.Delete.{stays, moved}
use Rattle.spec_file.specs.Search.{next}
use Rattle.header_layout.specs.declared.shape.Shape.{Shape}

unfoldable pub looked_image : Layout → Bytes → ℕ → ℕ → Bytes
looked_image g img hole j = cond (stays g img hole j) img (moved g img hole j)

unfoldable pub looked_hole : Layout → Bytes → ℕ → ℕ → ℕ
looked_hole g img hole j = cond (stays g img hole j) hole j

pub record Beside (s : Shape) (hole j : ℕ) : Type 0 where
  pub hole-lt : hole < s.slots
  pub slot_lt : j < s.slots
  pub other : hole ≡ j → ⊥

pub record Looked (img : Bytes) (hole j hole' : ℕ) (img' : Bytes) : Type 0 where
  pub hole-is : hole' ≡ looked_hole (layout_of img) img hole j
  pub image-is : img' ≡ looked_image (layout_of img) img hole j
