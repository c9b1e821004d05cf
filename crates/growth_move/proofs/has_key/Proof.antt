-- Whether the search met the key. Assumes nothing.
use borrow.Author.Rules.{rules}
use mathlib.Core.Path.{◌≡◌, refl, sym, ap, ◌∙◌}
use Rattle.spec_file.specs.Search.{is_met}
use Prim.Native.Nat.{ℕ}
use native.Mathlib.Omega.{arith}
use mathlib.Core.Bool.{true}
use mathlib.Core.List.{[], ◌∷◌}
use denote.Enum.Declared.{tag_of}
use types.Run.{OneOf}
use Rattle.table_search.specs.declared.Found.{Found}
use Rattle.table_search.specs.declared.Found.TheVariants.{Met, Empty, Exhausted}
use Rattle.table_search.specs.Probes.{probe_of}
use Rattle.table_search.specs.contracts.Found.{the_type}
use Rattle.table_search.proofs.Taken.{other-met}
use Rattle.growth_move.proofs.has_key.Statement.{statement}
use Rattle.growth_move.proofs.has_key.Tie as tie

search-requires : tie.Need-search-probed-requires
search-requires c κs = search rules

enum_told : tie.Need-enum_told-1
enum_told c = search rules

returns : tie.Need-returns-in_default
returns c = sym (ap is_met (sym c.search-probed.ensures.0) ∙ other-met _ c.in_default.in_default-own.keys2)

is-met : (f : Found) → OneOf (0 ∷ []) (tag_of the_type f) → is_met (probe_of f) ≡ true
unfolding probe_of is_met
is-met (Met s) h = refl
is-met (Empty s) h = let z : ◌≡◌ {A = ℕ} 1 0 = h in absurd (omega arith)
is-met Exhausted h = let z : ◌≡◌ {A = ℕ} 2 0 = h in absurd (omega arith)

returns-2 : tie.Need-returns
returns-2 c = sym (ap is_met (sym c.search-probed.ensures.0) ∙ is-met _ c.in-Met.in-Met-own.keys1)

pub has_key_spec : {M : Type 1} → statement M
has_key_spec =
    tie.close
    (tie.spec
    search-requires
    enum_told
    returns
    returns-2)
