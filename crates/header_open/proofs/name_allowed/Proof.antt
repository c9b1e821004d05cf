-- A length other than K is a no; else the bytes decide. Assumes nothing.
use borrow.Author.Rules.{rules}
use borrow.Author.Tests.{eq-eqb, ne_eqb}
use lib.ListN.{length}
use Rattle.spec_file.specs.Questions.{name_allowed}
use Rattle.header_open.proofs.name_allowed.Statement.{statement}
use Rattle.header_open.proofs.name_allowed.Tie as tie

returns : tie.Need-returns-then-key-size
unfolding name_allowed
returns c = let A = c.args in rw (ne_eqb (length A.key.now) A.size c.if-key-size.true)

all-zero-requires : tie.Need-all_zero-requires
all-zero-requires c κs = search rules

returns-2 : tie.Need-returns
unfolding name_allowed
returns-2 c =
    let A = c.args in
    rw (eq-eqb (length A.key.now) A.size c.if-key-size.false, c.all_zero.ensures)

pub name_allowed_spec : {M : Type 1} → statement M
name_allowed_spec =
    tie.close
    (tie.spec
    returns
    all-zero-requires
    returns-2)
