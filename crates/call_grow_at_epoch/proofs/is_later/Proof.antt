-- The definition, test by test. Assumes nothing.
use mathlib.Core.Path.{◌≡◌, refl, sym, ◌∙◌}
use mathlib.Core.Bool.{Bool, true, false, not, ◌&&◌, ◌||◌}
use lib.Dec.{ltb}
use borrow.Author.Rules.{rules}
use Rattle.spec_file.specs.Search.{is_met}
use Rattle.law_file.proofs.Tests.{was-no, was-yes}
use Rattle.table_search.specs.Probes.{probe_of}
use Rattle.epoch_choose.specs.declared.Chosen.{Chosen}
use Rattle.call_grow_at_epoch.specs.Dates.{later_of}
use Rattle.call_grow_at_epoch.proofs.is_later.Statement.{statement}
use Rattle.call_grow_at_epoch.proofs.is_later.Tie as tie

-- ---- the definition by its tests
module _ (s s' : Chosen) where
  none-later : is_met (probe_of s'.found) ≡ false → false ≡ later_of s s'
  unfolding later_of
  none-later h = sym (rw h refl)

  only-later : is_met (probe_of s'.found) ≡ true → is_met (probe_of s.found) ≡ false → true ≡ later_of s s'
  unfolding later_of
  only-later h k = sym (rw (h, k) refl)

  both-met : is_met (probe_of s'.found) ≡ true → is_met (probe_of s.found) ≡ true
      → ltb s.epoch s'.epoch ≡ later_of s s'
  unfolding later_of
  both-met h k = sym (rw (h, k) refl)

is-met-requires : tie.Need-is_met-requires
is-met-requires c κs = search rules

returns : tie.Need-returns-then-not-is_met
returns c =
    let A = c.args in
    none-later A.first A.second (was-no c.is_met.ensures c.if-not-is_met.true)

is-met-requires-2 : tie.Need-is_met-requires-2
is-met-requires-2 c κs = search rules

returns-2 : tie.Need-returns-then-not-is_met-2
returns-2 c =
    let E = c in
    let A = E.args in
    only-later A.first A.second (was-yes E.is_met.ensures E.if-not-is_met.false)
    (was-no c.is_met-2.ensures c.if-not-is_met-2.true)

returns-3 : tie.Need-returns
returns-3 c =
    let N = c in
    let E = c in
    let A = E.args in
    both-met A.first A.second (was-yes E.is_met.ensures E.if-not-is_met.false)
    (was-yes N.is_met-2.ensures N.if-not-is_met-2.false)

pub is_later_spec : {M : Type 1} → statement M
is_later_spec =
    tie.close
    (tie.spec
    is-met-requires
    returns
    is-met-requires-2
    returns-2
    returns-3)
