-- The part from the start that `locate_pair` answers, as long as it says, of the image that it names. Assumes nothing.
use native.Mathlib.Omega.{arith}
use mathlib.Core.Path.{◌≡◌, sym, ap₂, ◌∙◌}
use Prim.Native.Nat.{◌+◌, ◌≤◌}
use mathlib.Core.Bool.{Bool, true, false}
use lib.ListN.{length}
use borrow.Author.Rules.{rules}
use Rattle.spec_file.specs.Bytes.{Bytes, part}
use Rattle.spec_moves.specs.Moves.{Pair}
use Rattle.spec_growth.specs.Growth.{held_in_new, holder, grow_name_number}
use Rattle.law_file.proofs.Tests.{by_bool}
use Rattle.law_file.proofs.Stores.{part-lent}
use Rattle.call_grow_lookup.proofs.Holding.{holder-old, holder-new, pair_inside, shows-pair}
use Rattle.call_grow_lookup.proofs.lookup_pair.Statement.{statement}
use Rattle.call_grow_lookup.proofs.lookup_pair.Tie as tie

-- ---- the stages
abbrev start : tie.After-locate_pair-held → tie.Start
start c = c.before.before.before.before

abbrev located : tie.After-at-start → tie.After-locate_pair-held
located c = c.before.before.before

abbrev pair : tie.After-at-start → Pair
pair c = let A = (start (located c)).args in record { old = A.old.now; new = A.new.now }

abbrev key : tie.After-at-start → Bytes
key c = (start (located c)).args.key.now

-- the part ends in the image that holds the point
ends : (c : tie.After-at-start) (img : Bytes) → (grow_name_number (pair c) (key c) ≡ 0 → holder (pair c) (key c) ≡ img)
    → c.at-start.result + (located c).locate_pair-held.result.located.length ≤ length img
ends c img h =
    let L = (located c).locate_pair-held.ensures in
    omega (arith, pair_inside (pair c) (key c) img h, c.at-start.ensures, L.start, L.length)

-- which image it is
named_new : (c : tie.After-at-start) → (located c).locate_pair-held.result.in_new ≡ true
    → grow_name_number (pair c) (key c) ≡ 0 → holder (pair c) (key c) ≡ (pair c).new
named_new c t z = holder-new (pair c) (key c) (sym ((located c).locate_pair-held.ensures.held z) ∙ t)

named-old : (c : tie.After-at-start) → (located c).locate_pair-held.result.in_new ≡ false
    → grow_name_number (pair c) (key c) ≡ 0 → holder (pair c) (key c) ≡ (pair c).old
named-old c t z = holder-old (pair c) (key c) (sym ((located c).locate_pair-held.ensures.held z) ∙ t)

-- ---- the needs
locate-pair-requires : tie.Need-locate_pair-held-requires
locate-pair-requires c κs = search rules

at-requires : tie.Need-at-start-requires
at-requires c κs = search rules

add-end : tie.Need-overflow_add-end
add-end c =
    let P = c.before in
    by_bool (held_in_new (pair P) (key P))
    (λ h. omega (arith, ends P (pair P).new (λ z. holder-new (pair P) (key P) h)))
    (λ h. omega (arith, ends P (pair P).old (λ z. holder-old (pair P) (key P) h)))

sub-result : tie.Need-slice_bounds-result-count
sub-result c = search rules

part-result-start : tie.Need-slice_bounds-result-start
part-result-start c = search rules

part-result-end : tie.Need-slice_bounds-result-end
part-result-end c =
    let P = c.before.before in
    omega (arith, ends P (pair P).new (named_new P c.if-held.true))

returns : tie.Need-returns-then-held
returns c =
    let T = c in
    let P = c.before.before.before in
    let L = (located P).locate_pair-held in
    let start' = P.at-start.ensures ∙ L.ensures.start in
    shows-pair (pair P) (key P) (pair P).new (named_new P T.if-held.true) _ _ _ L.ensures.number start'
    (part-lent (pair P).new P.at-start.result L.result.located.length
    ∙ ap₂ (part (pair P).new) start' L.ensures.length)

sub-result-2 : tie.Need-slice_bounds-result-count-2
sub-result-2 c = search rules

part-result-start-2 : tie.Need-slice_bounds-result-start-2
part-result-start-2 c = search rules

part-result-end-2 : tie.Need-slice_bounds-result-end-2
part-result-end-2 c =
    let P = c.before.before in
    omega (arith, ends P (pair P).old (named-old P c.if-held.false))

returns-2 : tie.Need-returns
returns-2 c =
    let T = c in
    let P = c.before.before.before in
    let L = (located P).locate_pair-held in
    let start' = P.at-start.ensures ∙ L.ensures.start in
    shows-pair (pair P) (key P) (pair P).old (named-old P T.if-held.false) _ _ _ L.ensures.number start'
    (part-lent (pair P).old P.at-start.result L.result.located.length
    ∙ ap₂ (part (pair P).old) start' L.ensures.length)

pub lookup_pair_spec : {M : Type 1} → statement M
lookup_pair_spec =
    tie.close
    (tie.spec
    locate-pair-requires
    at-requires
    add-end
    sub-result
    part-result-start
    part-result-end
    returns
    sub-result-2
    part-result-start-2
    part-result-end-2
    returns-2)
