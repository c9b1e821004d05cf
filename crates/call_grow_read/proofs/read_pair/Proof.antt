-- Refused as lookup is; else the slice is filled from the text that lookup shows. Assumes nothing.
use native.Mathlib.Omega.{arith}
use mathlib.Core.Path.{◌≡◌, sym, ap₂, ◌∙◌}
use Prim.Native.Nat.{◌+◌, ◌≤◌}
use mathlib.Core.Bool.{true, false}
use lib.ListN.{length}
use borrow.Author.Rules.{rules}
use Rattle.spec_file.specs.Bytes.{Bytes, part}
use Rattle.spec_moves.specs.Moves.{Pair}
use Rattle.spec_growth.specs.Growth.{held_in_new, holder, grow_name_number}
use Rattle.law_file.proofs.Tests.{by_bool}
use Rattle.law_file.proofs.Stores.{part-lent}
use Rattle.call_grow_lookup.proofs.Holding.{holder-old, holder-new, pair_inside}
use Rattle.call_grow_read.proofs.Reading.{pair-refused, pair-filled}
use Rattle.call_grow_read.proofs.read_pair.Statement.{statement}
use Rattle.call_grow_read.proofs.read_pair.Tie as tie

-- ---- the stages
abbrev start : tie.After-locate_pair-held → tie.Start
start c = c.before.before.before.before.before

abbrev located : tie.After-at-start → tie.After-locate_pair-held
located c = c.before.before.before.before

abbrev pair_of : tie.Start → Pair
pair_of S = record { old = S.args.old.now; new = S.args.new.now }

abbrev pair : tie.After-at-start → Pair
pair c = pair_of (start (located c))

abbrev key : tie.After-at-start → Bytes
key c = (start (located c)).args.key.now

-- the part ends in the image that holds the point
ends : (c : tie.After-at-start) (img : Bytes) → (grow_name_number (pair c) (key c) ≡ 0 → holder (pair c) (key c) ≡ img)
    → c.at-start.result + (located c).locate_pair-held.result.located.length ≤ length img
ends c img h =
    let L = (located c).locate_pair-held.ensures in
    omega (arith, pair_inside (pair c) (key c) img h, c.at-start.ensures, L.start, L.length)

-- which image it is
named_new : (c : tie.After-at-start) → (located c).locate_pair-held.result.in_new ≡ true
    → grow_name_number (pair c) (key c) ≡ 0 → holder (pair c) (key c) ≡ (pair c).new
named_new c t z = holder-new (pair c) (key c) (sym ((located c).locate_pair-held.ensures.held z) ∙ t)

named-old : (c : tie.After-at-start) → (located c).locate_pair-held.result.in_new ≡ false
    → grow_name_number (pair c) (key c) ≡ 0 → holder (pair c) (key c) ≡ (pair c).old
named-old c t z = holder-old (pair c) (key c) (sym ((located c).locate_pair-held.ensures.held z) ∙ t)

-- ---- the needs
locate-pair-requires : tie.Need-locate_pair-held-requires
locate-pair-requires c κs = search rules

refused-requires : tie.Need-refused-requires
refused-requires c κs = search rules

returns : tie.Need-returns-then-number-ne0
returns c =
    let T = c in
    let L = c.before.before.before in
    let A = (start L).args in
    let r = c.refused.ensures in
    pair-refused (pair_of (start L)) A.key.now A.out.now _ _ (r.0 ∙ L.locate_pair-held.ensures.number)
    (λ z. T.if-number-ne0.true (sym r.0 ∙ z)) r.1

at-requires : tie.Need-at-start-requires
at-requires c κs = search rules

add-end : tie.Need-overflow_add-end
add-end c =
    let P = c.before in
    by_bool (held_in_new (pair P) (key P))
    (λ h. omega (arith, ends P (pair P).new (λ z. holder-new (pair P) (key P) h)))
    (λ h. omega (arith, ends P (pair P).old (λ z. holder-old (pair P) (key P) h)))

sub-fill : tie.Need-slice_bounds-fill-count
sub-fill c = search rules

part-fill-start : tie.Need-slice_bounds-fill-start
part-fill-start c = search rules

part-fill-end : tie.Need-slice_bounds-fill-end
part-fill-end c =
    let T = c in
    let P = c.before.before.before in
    omega (arith, ends P (pair P).new (named_new P T.if-held.true))

fill-requires : tie.Need-fill-requires
fill-requires c κs = search rules

same_length : tie.Need-shape_of-out-then-held
same_length c = search rules

returns-2 : tie.Need-returns-then-held
returns-2 c =
    let F = c in
    let T = c in
    let P = c.before.before.before.before.before.before.before in
    let L = located P in
    pair-filled (pair P) (key P) (start L).args.out.now
    (sym L.locate_pair-held.ensures.number ∙ P.if-number-ne0.false) (pair P).new _ _ _ _
    (named_new P T.if-held.true)
    (part-lent (pair P).new P.at-start.result L.locate_pair-held.result.located.length
    ∙ ap₂ (part (pair P).new) (P.at-start.ensures ∙ L.locate_pair-held.ensures.start) L.locate_pair-held.ensures.length)
    F.fill.ensures

sub-fill-2 : tie.Need-slice_bounds-fill-count-2
sub-fill-2 c = search rules

part-fill-start-2 : tie.Need-slice_bounds-fill-start-2
part-fill-start-2 c = search rules

part-fill-end-2 : tie.Need-slice_bounds-fill-end-2
part-fill-end-2 c =
    let T = c in
    let P = c.before.before.before in
    omega (arith, ends P (pair P).old (named-old P T.if-held.false))

fill-requires-2 : tie.Need-fill-requires-2
fill-requires-2 c κs = search rules

same-length-2 : tie.Need-shape_of-out
same-length-2 c = search rules

returns-3 : tie.Need-returns
returns-3 c =
    let F = c in
    let T = c in
    let P = c.before.before.before.before.before.before.before in
    let L = located P in
    pair-filled (pair P) (key P) (start L).args.out.now
    (sym L.locate_pair-held.ensures.number ∙ P.if-number-ne0.false) (pair P).old _ _ _ _
    (named-old P T.if-held.false)
    (part-lent (pair P).old P.at-start.result L.locate_pair-held.result.located.length
    ∙ ap₂ (part (pair P).old) (P.at-start.ensures ∙ L.locate_pair-held.ensures.start) L.locate_pair-held.ensures.length)
    F.fill-2.ensures

pub read_pair_spec : {M : Type 1} → statement M
read_pair_spec =
    tie.close
    (tie.spec
    locate-pair-requires
    refused-requires
    returns
    at-requires
    add-end
    sub-fill
    part-fill-start
    part-fill-end
    fill-requires
    same_length
    returns-2
    sub-fill-2
    part-fill-start-2
    part-fill-end-2
    fill-requires-2
    same-length-2
    returns-3)
