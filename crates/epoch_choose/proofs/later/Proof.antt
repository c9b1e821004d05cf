-- `epoch_choose::later` meets its contract: slot i where there is none yet, or where its epoch is larger.
-- Assumes nothing.
use mathlib.Core.Path.{ap}
use borrow.Author.Rules.{rules}
use Rattle.spec_file.specs.Search.{is_met}
use Rattle.table_search.proofs.Taken.{other-met, met-is}
use Rattle.epoch_choose.proofs.Best.{kept-first, kept-best, kept_new}
use Rattle.epoch_choose.proofs.later.Statement.{statement}
use Rattle.epoch_choose.proofs.later.Tie as tie

enum-known-found : tie.Need-enum_known-found
enum-known-found c = search rules

returns : tie.Need-returns-in_default
returns c =
    let A = c.args in
    kept-first A.best A.i A.epoch (other-met A.best.found c.in_default.in_default-own.keys2)

returns-2 : tie.Need-returns-then-epoch-best
unfolding is_met
returns-2 c =
    let A = c.args in
    kept-best A.best A.i A.epoch (ap is_met (met-is c.in-Met.is))
    c.if-epoch-best.true

returns-3 : tie.Need-returns
unfolding is_met
returns-3 c =
    let A = c.args in
    kept_new A.best A.i A.epoch (ap is_met (met-is c.in-Met.is)) c.if-epoch-best.false

pub later_spec : {M : Type 1} → statement M
later_spec =
    tie.close
    (tie.spec
    enum-known-found
    returns
    returns-2
    returns-3)
