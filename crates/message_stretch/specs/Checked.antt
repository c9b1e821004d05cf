-- What the code asks of an image before it reads stretches: an accepted header, and messages that pass question 11.
--     start_in, end_in      a slot's stretch, by the layout that the image's header gives
--     Readable img s i      of slot i
--     Checked img s bound      of every slot below a bound
-- Assumes nothing.
use Rattle.std.specs.Prelude.{◌≡◌, ℕ, ◌≤◌, ◌<◌, true}
use Rattle.spec_file.specs.Bytes.{Bytes}
use Rattle.spec_file.specs.Image.{layout_of, slot, offset_of}
use Rattle.spec_file.specs.Questions.{message_sound}
use Rattle.spec_file.specs.Inspect.{taken, stretch_start, stretch_end}
use Rattle.header_layout.specs.Shapes.{Open}
use Rattle.header_layout.specs.declared.shape.Shape.{Shape}

abbrev pub start_in : Bytes → ℕ → ℕ
start_in img i = stretch_start (layout_of img) img i

abbrev pub end_in : Bytes → ℕ → ℕ
end_in img i = stretch_end (layout_of img) img i

-- the message of slot i, where it is taken, passes question 11
abbrev pub SoundAt : Bytes → ℕ → Type 0
SoundAt img i =
    taken (layout_of img) img i ≡ true
    → message_sound (layout_of img) img (offset_of (layout_of img) (slot (layout_of img) img i)) ≡ true

pub record Readable (img : Bytes) (s : Shape) (i : ℕ) : Type 0 where
  pub opened : Open img s
  pub low : i < s.slots
  pub message : SoundAt img i

pub record Checked (img : Bytes) (s : Shape) (bound : ℕ) : Type 0 where
  pub opened : Open img s
  pub low : bound ≤ s.slots
  pub messages : (i : ℕ) → i < bound → SoundAt img i
