-- Question 6 up to the offsets: the header's fields that are compared with each other or with a fixed number.
-- Assumes nothing.
use Rattle.std.specs.Prelude.{Bool, ◌&&◌, leb, eqb}
use Rattle.spec_file.specs.Bytes.{Bytes}
use Rattle.spec_file.specs.Limits.{most_character, scramble_start, table_start}
use Rattle.spec_file.specs.Limits.{key_field, slots_field, points_field, first_field, last_field, scramble_field, table_field}
use Rattle.spec_file.specs.Image.{field}
use Rattle.spec_file.specs.Questions.{key_allowed, slots_allowed}

unfoldable pub ranges_sound : Bytes → Bool
ranges_sound img =
    key_allowed (field img key_field)
    && (leb 1 (field img slots_field) && slots_allowed (field img slots_field))
    && leb (field img points_field) (field img slots_field)
    && (leb (field img first_field) (field img last_field) && leb (field img last_field) most_character)
    && (eqb (field img scramble_field) scramble_start && eqb (field img table_field) table_start)
