-- The calls, each as a function from the image's bytes and the arguments to the answer and every byte afterwards.
--     Answer        what a call answers: its number; count's C or lookup's length; lookup's text, or none; the epoch of
--                   what is shown, where a call shows one (document 02, Job 14), else 0
--     Outcome S     the state afterwards (a file's: the image), and the answer
--     create, add, delete, lookup, count     for any bytes, names, data and modes
--     add_read, delete_read, lookup_read        how many slots a call's search read
-- Assumes nothing.
use Rattle.std.specs.Prelude.{ℕ, ◌+◌, Bool, true, cond, ◌&&◌, length, eqb}
use Rattle.std.proofs.Math.Option.{Option, none, some}
use Rattle.spec_file.specs.Bytes.{Bytes, part}
use Rattle.spec_file.specs.Limits.{points_field}
use Rattle.spec_file.specs.Image.{field, Layout, layout_of, slot, offset_of}
use Rattle.spec_file.specs.Create.{slots_asked, fresh_image}
use Rattle.spec_file.specs.Search.{search, slots_read, slot_of}
use Rattle.spec_file.specs.Messages.{head_size, is_active, held, added}
use Rattle.spec_file.specs.Delete.{deleted}
use Rattle.spec_file.specs.Questions.{mode_known, create_number, open_number, seek_number, add_number, delete_number, lookup_number}

pub record Answer : Type 0 where
  pub number : ℕ
  pub amount : ℕ
  pub text : Option Bytes
  pub epoch : ℕ

pub record Outcome (S : Type 0) : Type 0 where
  pub after : S
  pub answer : Answer

-- "An accepted create, add or delete answers 0"; of a refused call the part is "the image's first 0 bytes"
unfoldable pub plain : ℕ → Answer
plain n = record { number = n; amount = 0; text = none; epoch = 0 }

-- "A refused call .. changes no byte": the image as it was, or as an accepted call leaves it
unfoldable pub settled : ℕ → Bytes → Bytes → Bytes
settled n img after = cond (eqb n 0) after img

unfoldable pub create : Bytes → ℕ → ℕ → ℕ → Outcome Bytes
create img K N seed =
    let n : ℕ = create_number (length img) K (slots_asked N) in
    record { after = settled n img (fresh_image (length img) K (slots_asked N) seed); answer = plain n }

unfoldable pub add : Bytes → Bytes → Bytes → ℕ → Outcome Bytes
add img key data' mode =
    let n : ℕ = add_number img key data' mode in
    record { after = settled n img (added (layout_of img) img key data' mode); answer = plain n }

unfoldable pub delete : Bytes → Bytes → Outcome Bytes
delete img key =
    let n : ℕ = delete_number img key in
    record { after = settled n img (deleted (layout_of img) img (search (layout_of img) img key)); answer = plain n }

-- the point's message offset, where lookup is accepted and the message active; else 0
unfoldable pub lookup_offset : Bytes → Bytes → ℕ
lookup_offset img key =
    let g : Layout = layout_of img in
    let o : ℕ = offset_of g (slot g img (slot_of (search g img key))) in
    cond (eqb (lookup_number img key) 0 && is_active img o) o 0

-- "Lookup answers the message length, 0 for none, and hands back the message bytes as a part of the lent image. With no
-- message, or refused, the part is the image's first 0 bytes." Where the part starts, and its length.
unfoldable pub lookup_start : Bytes → Bytes → ℕ
lookup_start img key = cond (eqb (lookup_offset img key) 0) 0 (lookup_offset img key + head_size (layout_of img))

unfoldable pub lookup_length : Bytes → Bytes → ℕ
lookup_length img key = held (layout_of img) img (lookup_offset img key)

-- 02: "Lookup tells an empty message from none."
unfoldable pub lookup_text : Bytes → Bytes → Option Bytes
lookup_text img key =
    cond (eqb (lookup_offset img key) 0) none (some (part img (lookup_start img key) (lookup_length img key)))

unfoldable pub lookup : Bytes → Bytes → Outcome Bytes
lookup img key =
    record {
      after = img;
      answer =
          record {
            number = lookup_number img key;
            amount = lookup_length img key;
            text = lookup_text img key;
            epoch = 0;
          };
    }

-- "count answers C, and 0 beside the number when refused"
unfoldable pub count_of : Bytes → ℕ
count_of img = cond (eqb (open_number img) 0) (field img points_field) 0

unfoldable pub count : Bytes → Outcome Bytes
count img =
    record { after = img; answer = record { number = open_number img; amount = count_of img; text = none; epoch = 0 } }

-- ---- how long a search was

-- Document 02, Job 7: "The search, and lookup, add and delete above it, report the number of slots that the search
-- read, or 0 when refused before it": with 1, 5, 6 or 7, or add's 8. Refused behind it, with 9 to 14, a call reports
-- too. "Demand 3 doesn't compare this number, since the book has no slots": it is beside the `Answer` and not in it.
unfoldable pub sought_read : Bytes → Bytes → Bool → ℕ
sought_read img key known = cond (eqb (seek_number img key known) 0) (slots_read (layout_of img) img key) 0

unfoldable pub add_read : Bytes → Bytes → ℕ → ℕ
add_read img key mode = sought_read img key (mode_known mode)

unfoldable pub delete_read : Bytes → Bytes → ℕ
delete_read img key = sought_read img key true

unfoldable pub lookup_read : Bytes → Bytes → ℕ
lookup_read img key = sought_read img key true
