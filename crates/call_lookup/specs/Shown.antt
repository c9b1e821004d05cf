-- What lookup shows by how its search ended, on an image whose header is accepted.
--     shown_offset g img s      the offset of the message that is shown, 0 where none is, or where 14 or 11 refuses
--     Shows g img s n start m  the number, the start of the text and its length
-- Assumes nothing.
use Rattle.std.specs.Prelude.{◌≡◌, ℕ, ◌+◌, cond, ◌&&◌, eqb}
use Rattle.spec_file.specs.Bytes.{Bytes}
use Rattle.spec_file.specs.Image.{Layout, slot, offset_of}
use Rattle.spec_file.specs.Search.{Probe, slot_of}
use Rattle.spec_file.specs.Messages.{head_size, is_active, held}
use Rattle.spec_file.specs.Questions.{first_no, shown_asks}

unfoldable pub shown_offset : Layout → Bytes → Probe → ℕ
shown_offset g img s =
    let o : ℕ = offset_of g (slot g img (slot_of s)) in
    cond (eqb (first_no (shown_asks g img s)) 0 && is_active img o) o 0

pub record Shows (g : Layout) (img : Bytes) (s : Probe) (n start m : ℕ) : Type 0 where
  pub number : n ≡ first_no (shown_asks g img s)
  pub begins : start ≡ cond (eqb (shown_offset g img s) 0) 0 (shown_offset g img s + head_size g)
  pub counts : m ≡ held g img (shown_offset g img s)
