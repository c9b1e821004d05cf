-- The slot's message, or nothing where the number is no slot's. Assumes nothing.
use native.Mathlib.Omega.{arith}
use Prim.Native.Nat.{ℕ, ◌<◌}
use mathlib.Core.Path.{◌≡◌, refl, sym, ap, ap₂, ◌∙◌, subst}
use borrow.Author.Rules.{rules}
use Rattle.table_search.specs.Slots.{offset_in}
use Rattle.convert_stages.specs.Stages.{Carriable, carried_to}
use Rattle.convert_message.proofs.carry_slot.Statement.{statement}
use Rattle.convert_message.proofs.carry_slot.Tie as tie

returns : tie.Need-returns-then-from-i
returns c = record { none = λ n. refl; one = λ n. absurd (omega (arith, n, c.if-from-i.true)) }

new-requires : tie.Need-new-slot-requires
new-requires c κs = tt

abbrev start : tie.After-offset_of → tie.Start
start c = c.before.before.before.before.before.before.before

low : (c : tie.After-carry_message-arg-1) → c.args.i
    < c.args.from.slots
low c = omega (arith, c.if-from-i.false)

offset-of-requires : tie.Need-offset_of-requires
offset-of-requires c κs =
    let S = c in
    ((S.requires (low c)).source, omega (arith, low c, c.new-slot.ensures))

-- the slot and its offset
slot_is : (c : tie.After-offset_of) → c.new-slot.result.0 ≡ (start c).args.i
slot_is c = c.new-slot.ensures

offset-is : (c : tie.After-offset_of)
    → c.offset_of.result.0 ≡ offset_in (start c).args.source.now (start c).args.i
offset-is c = c.offset_of.ensures ∙ ap (offset_in (start c).args.source.now) (slot_is c)

carry-message-requires : tie.Need-carry_message-requires
carry-message-requires c κs =
    let A = (start c).args in
    subst (λ (i : ℕ). Carriable A.source.now A.target.now A.from A.to i c.offset_of.result.0)
    (sym (slot_is c))
    (subst (Carriable A.source.now A.target.now A.from A.to A.i) (sym (offset-is c))
    ((start c).requires (low c.before)))

same_length : tie.Need-shape_of-target
same_length c = search rules

returns-2 : tie.Need-returns
returns-2 c =
    let P = c in
    let O = c.before.before.before in
    let A = (start O).args in
    record {
      none = λ n. absurd (omega (arith, n, low c.before.before.before.before));
      one = λ n.
          P.carry_message.ensures
          ∙ ap₂ (carried_to A.source.now A.target.now) (slot_is O) (offset-is O);
    }

pub carry_slot_spec : {M : Type 1} → statement M
carry_slot_spec =
    tie.close
    (tie.spec
    returns
    new-requires
    offset-of-requires
    carry-message-requires
    same_length
    returns-2)
