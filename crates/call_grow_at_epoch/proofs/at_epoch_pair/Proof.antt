-- The part from the start that `locate_pair_at` answers, as long as it says, of the image that it names.
-- Assumes nothing.
use native.Mathlib.Omega.{arith}
use mathlib.Core.Path.{◌≡◌, sym, ap, ap₂, ◌∙◌}
use Prim.Native.Nat.{ℕ, ◌+◌, ◌≤◌}
use mathlib.Core.Bool.{true, false, not}
use lib.ListN.{length}
use lib.Dec.{eqb}
use borrow.Author.Rules.{rules}
use Rattle.spec_file.specs.Bytes.{Bytes, part}
use Rattle.spec_file.specs.Messages.{bytes_of, is_text}
use Rattle.spec_epoch.specs.Epochs.{Dated}
use Rattle.spec_moves.specs.Moves.{Pair}
use Rattle.spec_growth.specs.Growth.{dated_in_new, dated_holder, grow_dated_number, grow_at_epoch}
use Rattle.law_file.proofs.Tests.{by_bool}
use Rattle.law_file.proofs.Stores.{part-lent}
use Rattle.call_grow_at_epoch.proofs.Choosing.{holder-old, holder-new, pair-at-inside, pair-at-part, pair-at-shown, pair-at-length}
use Rattle.call_grow_at_epoch.proofs.at_epoch_pair.Statement.{statement}
use Rattle.call_grow_at_epoch.proofs.at_epoch_pair.Tie as tie

-- ---- the stages
abbrev located : tie.After-at-start → tie.After-locate_pair_at-found
located c = c.before.before.before.before

abbrev start : tie.After-at-start → tie.Start
start c = c.before.before.before.before.before.before.before.before

abbrev pair : tie.After-at-start → Pair
pair c = record { old = (start c).args.old.now; new = (start c).args.new.now }

abbrev name : tie.After-at-start → Bytes
name c = (start c).args.name.now

abbrev t : tie.After-at-start → ℕ
t c = (start c).args.t

abbrev Holds : tie.After-at-start → Bytes → Type 0
Holds c img = grow_dated_number (pair c) (name c) ≡ 0 → dated_holder (pair c) (name c) (t c) ≡ img

-- the part ends in the image that has the entry
ends : (c : tie.After-at-start) (img : Bytes) → Holds c img
    → c.at-start.result + (located c).locate_pair_at-found.result.dated.located.length ≤ length img
ends c img h =
    let L = (located c).locate_pair_at-found.ensures.answers in
    omega (arith, pair-at-inside (pair c) (name c) (t c) img h, c.at-start.ensures, L.start, L.length)

-- which image it is
named_new : (c : tie.After-at-start) → (located c).locate_pair_at-found.result.in_new ≡ true → Holds c (pair c).new
named_new c y z = holder-new (pair c) (name c) (t c) (sym ((located c).locate_pair_at-found.ensures.held z) ∙ y)

named-old : (c : tie.After-at-start) → (located c).locate_pair_at-found.result.in_new ≡ false → Holds c (pair c).old
named-old c y z = holder-old (pair c) (name c) (t c) (sym ((located c).locate_pair_at-found.ensures.held z) ∙ y)

-- the answer, of a part of the image that has the entry
abbrev Answered : (c : tie.After-at-start) → Bytes → Type 0
Answered c text =
    let d = grow_at_epoch (pair c) (name c) (t c) in
    let r = (located c).locate_pair_at-found.result.dated in
    (r.located.number ≡ d.number)
    × ((r.epoch ≡ d.epoch)
    × ((not (eqb c.at-start.result 0) ≡ is_text d.text) × ((text ≡ bytes_of d.text) × (length text ≡ d.length))))

answered : (c : tie.After-at-start) (img text : Bytes) → Holds c img
    → text ≡ part img c.at-start.result (located c).locate_pair_at-found.result.dated.located.length → Answered c text
answered c img text h e =
    let L = (located c).locate_pair_at-found.ensures.answers in
    let begins = c.at-start.ensures ∙ L.start in
    let shown = e ∙ ap₂ (part img) begins L.length ∙ pair-at-part (pair c) (name c) (t c) img h in (
      L.number,
      (
        L.epoch,
        (
          ap (λ (n : ℕ). not (eqb n 0)) begins ∙ pair-at-shown (pair c) (name c) (t c) img h,
          (shown, ap length shown ∙ pair-at-length (pair c) (name c) (t c) img h),
        ),
      ),
    )

-- ---- the needs
locate-pair-at-requires : tie.Need-locate_pair_at-found-requires
locate-pair-at-requires c κs = search rules

at-requires : tie.Need-at-start-requires
at-requires c κs = search rules

add-end : tie.Need-overflow_add-end
add-end c =
    let P = c.before in
    by_bool (dated_in_new (pair P) (name P) (t P))
    (λ h. omega (arith, ends P (pair P).new (λ z. holder-new (pair P) (name P) (t P) h)))
    (λ h. omega (arith, ends P (pair P).old (λ z. holder-old (pair P) (name P) (t P) h)))

sub-result : tie.Need-slice_bounds-result-count
sub-result c = search rules

part-result-start : tie.Need-slice_bounds-result-start
part-result-start c = search rules

part-result-end : tie.Need-slice_bounds-result-end
part-result-end c =
    let P = c.before.before in
    omega (arith, ends P (pair P).new (named_new P c.if-found.true))

returns : tie.Need-returns-then-found
returns c =
    let T = c in
    let P = c.before.before.before in
    answered P (pair P).new _ (named_new P T.if-found.true)
    (part-lent (pair P).new P.at-start.result (located P).locate_pair_at-found.result.dated.located.length)

sub-result-2 : tie.Need-slice_bounds-result-count-2
sub-result-2 c = search rules

part-result-start-2 : tie.Need-slice_bounds-result-start-2
part-result-start-2 c = search rules

part-result-end-2 : tie.Need-slice_bounds-result-end-2
part-result-end-2 c =
    let P = c.before.before in
    omega (arith, ends P (pair P).old (named-old P c.if-found.false))

returns-2 : tie.Need-returns
returns-2 c =
    let T = c in
    let P = c.before.before.before in
    answered P (pair P).old _ (named-old P T.if-found.false)
    (part-lent (pair P).old P.at-start.result (located P).locate_pair_at-found.result.dated.located.length)

pub at_epoch_pair_spec : {M : Type 1} → statement M
at_epoch_pair_spec =
    tie.close
    (tie.spec
    locate-pair-at-requires
    at-requires
    add-end
    sub-result
    part-result-start
    part-result-end
    returns
    sub-result-2
    part-result-start-2
    part-result-end-2
    returns-2)
