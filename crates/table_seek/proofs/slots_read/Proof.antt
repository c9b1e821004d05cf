-- `table_seek::slots_read` meets its contract, case by case. Assumes nothing.
use mathlib.Core.Path.{sym, ap}
use borrow.Author.Rules.{rules}
use Rattle.table_seek.specs.Seeks.{read_of}
use Rattle.table_seek.proofs.slots_read.Statement.{statement}
use Rattle.table_seek.proofs.slots_read.Tie as tie

enum_told : tie.Need-enum_told-1
enum_told c = search rules

enum-known-sought : tie.Need-enum_known-sought
enum-known-sought c = search rules

returns : tie.Need-returns-in-Refused
unfolding read_of
returns c = sym (ap read_of c.in-Refused.is)

returns-2 : tie.Need-returns-in-At
unfolding read_of
returns-2 c = sym (ap read_of c.in-At.is)

pub slots_read_spec : {M : Type 1} → statement M
slots_read_spec =
    tie.close
    (tie.spec
    enum_told
    enum-known-sought
    returns
    returns-2)
