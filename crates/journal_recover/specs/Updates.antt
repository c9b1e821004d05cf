-- Image and journal afterwards, as a definition has them.
-- Assumes nothing.
use Rattle.std.specs.Prelude.{◌≡◌}
use Rattle.spec_file.specs.Bytes.{Bytes}
use Rattle.spec_changes.specs.Journal.{Disk}

pub record Updates (d : Disk) (image journal : Bytes) : Type 0 where
  pub image-is : image ≡ d.image
  pub journal-is : journal ≡ d.journal
