-- Delete's number on a pair of images, as its code comes to it.
--     remove_number     the named move's number, then delete's own
-- Assumes nothing.
use Rattle.std.specs.Prelude.{ℕ}
use Rattle.spec_file.specs.Bytes.{Bytes}
use Rattle.spec_file.specs.Image.{layout_of}
use Rattle.spec_file.specs.Search.{search}
use Rattle.spec_file.specs.Questions.{first_no, removed_asks}
use Rattle.spec_growth.specs.Growth.{old_probe, named_number, ready, first_of}
use Rattle.growth_named.specs.Names.{pair_of}

abbrev pub remove_number : Bytes → Bytes → Bytes → ℕ
remove_number old new key =
    let new' : Bytes = (ready (pair_of old new) key).new in
    first_of (named_number (pair_of old new) (old_probe (pair_of old new) key))
    (first_no (removed_asks (layout_of new') new' (search (layout_of new') new' key)))
