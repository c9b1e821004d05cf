-- `call_walk::next_taken` meets its contract: questions 1, 5 and 6, then the lowest taken slot.
-- Assumes nothing.
use mathlib.Core.Path.{sym, ◌∙◌}
use Rattle.call_walk.specs.Stops.{stop_of}
use Rattle.call_walk.proofs.Stopping.{walk-closed, walk-open}
use borrow.Author.Rules.{rules}
use Rattle.call_walk.proofs.next_taken.Statement.{statement}
use Rattle.call_walk.proofs.next_taken.Tie as tie

open-number-requires : tie.Need-open_number-number-requires
open-number-requires c κs = search rules

returns : tie.Need-returns-then-number-ne0
unfolding stop_of
returns c =
    let A = c.args in
    walk-closed A.image.now A.from c.open_number-number.result c.open_number-number.ensures
    c.if-number-ne0.true

read-shape-requires : tie.Need-read_shape-requires
read-shape-requires c κs =
    sym c.open_number-number.ensures ∙ c.if-number-ne0.false

lowest-taken-requires : tie.Need-lowest_taken-requires
lowest-taken-requires c κs =
    record {
      accepted = sym c.open_number-number.ensures
          ∙ c.if-number-ne0.false;
      shape = c.read_shape.ensures;
    }

returns-2 : tie.Need-returns
returns-2 c =
    let A = c.args in
    c.lowest_taken.ensures
    ∙ walk-open A.image.now A.from
    (sym c.open_number-number.ensures ∙ c.if-number-ne0.false)

pub next_taken_spec : {M : Type 1} → statement M
next_taken_spec =
    tie.close
    (tie.spec
    open-number-requires
    returns
    read-shape-requires
    lowest-taken-requires
    returns-2)
