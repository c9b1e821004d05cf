-- Where a list of calls on one image may start. Assumes nothing.
use Rattle.std.specs.Prelude.{◌⊎◌}
use Rattle.spec_book.specs.Book.{Book}
use Rattle.spec_book.specs.Reopened.{Created, Reopened}
use Rattle.spec_alone.specs.Steps.{State, alone}

unfoldable pub Starts : State → Book → Type 0
Starts (alone img) b = Created img b ⊎ Reopened img b
