-- The search's end, case by case. Assumes nothing.
use mathlib.Core.Path.{sym, ap}
use borrow.Author.Rules.{rules}
use Rattle.spec_file.specs.Search.{is_met}
use Rattle.table_search.specs.Probes.{probe_of}
use Rattle.table_search.specs.declared.Found.{Found}
use Rattle.call_grow_lookup.proofs.is_met.Statement.{statement}
use Rattle.call_grow_lookup.proofs.is_met.Tie as tie

enum_told : tie.Need-enum_told-1
enum_told c = search rules

enum-told-2 : tie.Need-enum_told-in-Empty
enum-told-2 c = search rules

enum-told-3 : tie.Need-enum_told-in-Exhausted
enum-told-3 c = search rules

returns : tie.Need-returns-in-Met
unfolding is_met probe_of
returns c = sym (ap (λ (f : Found). is_met (probe_of f)) c.in-Met.is)

returns-2 : tie.Need-returns-in-Empty
unfolding is_met probe_of
returns-2 c = sym (ap (λ (f : Found). is_met (probe_of f)) c.in-Empty.is)

returns-3 : tie.Need-returns-in-Exhausted
unfolding is_met probe_of
returns-3 c = sym (ap (λ (f : Found). is_met (probe_of f)) c.in-Exhausted.is)

pub is_met_spec : {M : Type 1} → statement M
is_met_spec =
    tie.close
    (tie.spec
    enum_told
    enum-told-2
    enum-told-3
    returns
    returns-2
    returns-3)
