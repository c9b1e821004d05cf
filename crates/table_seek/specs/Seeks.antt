-- What `seek` answers, of any image and key.
--     SoughtIs img key known r      r is a refusal with the first no's number; or the header is accepted, and r tells
--                                   its shape, how the search ended and how many slots it read
--     read_of r                      how many slots it says its search read, 0 where it is a refusal
-- Assumes nothing.
use Rattle.std.specs.Prelude.{◌≡◌, ℕ, Bool}
use Rattle.spec_file.specs.Bytes.{Bytes}
use Rattle.spec_file.specs.Image.{layout_of}
use Rattle.spec_file.specs.Search.{search, slots_read}
use Rattle.spec_file.specs.Questions.{seek_number}
use Rattle.header_layout.specs.Shapes.{Open}
use Rattle.header_layout.specs.declared.shape.Shape.{Shape}
use Rattle.table_search.specs.declared.Found.{Found}
use Rattle.table_search.specs.Probes.{probe_of, Within}
use Rattle.table_seek.specs.declared.Sought.{Sought}
use Rattle.table_seek.specs.declared.Sought.TheVariants.{Refused, At}

pub record Reached (img key : Bytes) (known : Bool) (s : Shape) (f : Found) (n : ℕ) : Type 0 where
  pub asked : seek_number img key known ≡ 0
  pub opened : Open img s
  pub ended : probe_of f ≡ search (layout_of img) img key
  pub within : Within s.slots (probe_of f)
  pub counted : n ≡ slots_read (layout_of img) img key

unfoldable pub SoughtIs : Bytes → Bytes → Bool → Sought → Type 0
SoughtIs img key known (Refused n) = (n ≡ seek_number img key known) × (n ≡ 0 → ⊥)
SoughtIs img key known (At s f n) = Reached img key known s f n

unfoldable pub read_of : Sought → ℕ
read_of (Refused n) = 0
read_of (At s f n) = n
