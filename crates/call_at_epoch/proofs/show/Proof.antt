-- `call_at_epoch::show` meets its contract: what lookup answers of the slot, with its epoch. Assumes nothing.
use mathlib.Core.Path.{refl}
use borrow.Author.Rules.{rules}
use Rattle.table_search.specs.Probes.{probe_of}
use Rattle.call_at_epoch.proofs.Showing.{showing-refused, showing}
use Rattle.call_at_epoch.proofs.show.Statement.{statement}
use Rattle.call_at_epoch.proofs.show.Tie as tie

locate-found-requires : tie.Need-locate_found-located-requires
locate-found-requires c κs = let S = c in (S.requires.opened, S.requires.within)

returns : tie.Need-returns-then-located-ne0
returns c =
    let F = c in
    let A = F.args in
    showing-refused A.image.now (probe_of A.chosen.found) _ F.locate_found-located.ensures c.if-located-ne0.true refl

returns-2 : tie.Need-returns
returns-2 c =
    let F = c in
    let S = c in
    let A = S.args in
    showing A.image.now (probe_of A.chosen.found) _ F.locate_found-located.ensures c.if-located-ne0.false A.chosen refl
    S.requires.kept refl

pub show_spec : {M : Type 1} → statement M
show_spec =
    tie.close
    (tie.spec
    locate-found-requires
    returns
    returns-2)
