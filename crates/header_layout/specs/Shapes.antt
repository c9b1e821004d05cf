-- The numbers of an image's header that the code hands about, by the specification's layout and fields.
--     shape_of img      the shape that an image's header gives
--     Open img s       the header is accepted, and s is its shape: what a function on an opened image asks
--     mask_by, most_by   the bits of a length and the largest length, by the size of a message's header
--     Tells head m     a header of that size can tell the length m
-- Assumes nothing.
use Rattle.std.specs.Prelude.{◌≡◌, ℕ, ◌+◌, ◌≤◌, ◌<◌, cond, eqb}
use Rattle.spec_file.specs.Bytes.{Bytes}
use Rattle.spec_file.specs.Limits.{most_length, wide_width, most_wide, multiplier_field, start_field, first_field, last_field}
use Rattle.spec_file.specs.Image.{field, layout_of}
use Rattle.spec_file.specs.Messages.{head_size}
use Rattle.spec_file.specs.Questions.{open_number}
use Rattle.header_layout.specs.declared.shape.Shape.{Shape}

-- by the size of a message's header, a letter and W bytes: the bits of a length, and the largest length
unfoldable pub mask_by : ℕ → ℕ
mask_by head = cond (eqb head (wide_width + 1)) 4294967295 16777215

unfoldable pub most_by : ℕ → ℕ
most_by head = cond (eqb head (wide_width + 1)) most_wide most_length

unfoldable pub shape_of : Bytes → Shape
shape_of img =
    record {
      keylen = (layout_of img).K;
      slots = (layout_of img).N;
      area = record { 0 = (layout_of img).D };
      head = head_size (layout_of img);
      multiplier = field img multiplier_field;
      basis = field img start_field;
      first = field img first_field;
      last = field img last_field;
    }

-- questions 1, 5 and 6 are answered yes
pub record Open (img : Bytes) (s : Shape) : Type 0 where
  pub accepted : open_number img ≡ 0
  pub shape : s ≡ shape_of img

-- a header of that size, a letter and 3 or 4 bytes, can tell the length m
pub record Tells (head m : ℕ) : Type 0 where
  pub low : 4 ≤ head
  pub high : head ≤ 5
  pub short : head ≡ 4 → m < 16777216
  pub small : m < 4294967296
