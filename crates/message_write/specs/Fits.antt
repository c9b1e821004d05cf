-- What taking new space asks: questions 12 and 13 of a message of m bytes, as facts.
-- Assumes nothing.
use Rattle.std.specs.Prelude.{ℕ, ◌+◌, ◌≤◌, length}
use Rattle.spec_file.specs.Bytes.{Bytes}
use Rattle.spec_file.specs.Limits.{free_field}
use Rattle.spec_file.specs.Image.{field}
use Rattle.header_layout.specs.Shapes.{most_by}
use Rattle.header_layout.specs.declared.shape.Shape.{Shape}

pub record Fits (img : Bytes) (s : Shape) (m : ℕ) : Type 0 where
  pub small : m ≤ most_by s.head
  pub room : field img free_field + s.head + m ≤ length img
