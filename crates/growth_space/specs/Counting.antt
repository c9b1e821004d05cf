-- What an offset counts in the space of active messages, and what its count asks.
--     active_here g img o     header and length of the message at o, if it is active and passes 11; else 0
--     Counted img s n        the image is opened, and the message at n, whose letter is read as "d", passes 11
-- Assumes nothing.
use Rattle.std.specs.Prelude.{◌≡◌, ℕ, ◌+◌, true, cond, ◌&&◌}
use Rattle.spec_file.specs.Bytes.{Bytes}
use Rattle.spec_file.specs.Image.{Layout, layout_of}
use Rattle.spec_file.specs.Messages.{head_size, length_at, is_active}
use Rattle.spec_file.specs.Questions.{message_sound}
use Rattle.header_layout.specs.Shapes.{Open}
use Rattle.header_layout.specs.declared.shape.Shape.{Shape}

unfoldable pub active_here : Layout → Bytes → ℕ → ℕ
active_here g img o = cond (is_active img o && message_sound g img o) (head_size g + length_at g img o) 0

pub record Counted (img : Bytes) (s : Shape) (n : ℕ) : Type 0 where
  pub opened : Open img s
  pub sound : message_sound (layout_of img) img n ≡ true
