-- `convert_need::slot_need` meets its contract. Assumes nothing.
use native.Mathlib.Omega.{arith}
use mathlib.Core.Path.{◌≡◌, sym, ap, ap₂, ◌∙◌}
use Prim.Native.Nat.{ℕ, ◌+◌, ◌≤◌}
use mathlib.Core.Bool.{true, false}
use lib.ListN.{length}
use lib.Dec.{leb}
use borrow.Author.Rules.{rules}
use Rattle.spec_file.specs.Bytes.{Bytes}
use Rattle.spec_file.specs.Image.{layout_of}
use Rattle.spec_file.specs.Messages.{length_at, is_active}
use Rattle.law_file.proofs.Tests.{was-no, was-yes}
use Rattle.law_file.proofs.Opened.{opened-facts}
use Rattle.law_file.proofs.Effects.{message-fits}
use Rattle.header_layout.proofs.Shaped.{shape-head, head-range}
use Rattle.table_search.specs.Slots.{vacant_in, offset_in}
use Rattle.convert_need.proofs.Needing.{slot-taken, need-vacant, need-quiet, need-active, other-head, active-length}
use Rattle.convert_need.proofs.slot_need.Statement.{statement}
use Rattle.convert_need.proofs.slot_need.Tie as tie

is-vacant-requires : tie.Need-is_vacant-requires
is-vacant-requires c κs = search rules

returns : tie.Need-returns-then-is_vacant
returns c =
    let A = c.args in
    let n = need-vacant A.source.now A.i.0 (sym c.is_vacant.ensures ∙ c.if-is_vacant.true) in
    (sym n.0, sym n.1)

offset-of-requires : tie.Need-offset_of-at-requires
offset-of-requires c κs = search rules

-- a taken slot's message header lies in the source
inside : (c : tie.After-offset_of-at)
    → let S = c in
    c.offset_of-at.result.0 + S.args.shape.head ≤ length S.args.source.now
inside c =
    let E = c in
    let S = c in
    let img = S.args.source.now in
    let r = S.requires.0 in
    let t = slot-taken img S.args.i.0 (sym E.is_vacant.ensures ∙ E.if-is_vacant.false) in
    omega (
      arith,
      message-fits img (opened-facts img r.opened.accepted) (offset_in img S.args.i.0) (r.message t),
      c.offset_of-at.ensures,
      shape-head r.opened,
    )

is-active-requires : tie.Need-is_active-requires
is-active-requires c κs =
    omega (arith, inside c, head-range c.requires.0.opened)

returns-2 : tie.Need-returns-then-not-is_active
returns-2 c =
    let O = c in
    let A = O.args in
    let img = A.source.now in
    let n = need-quiet img A.i.0
    (ap (is_active img) (sym O.offset_of-at.ensures) ∙ was-no c.is_active.ensures c.if-not-is_active.true) in
    (sym n.0, sym n.1)

-- what is known once the message is known to be active
module _ (c : tie.Else-not-is_active) where
  abbrev O : tie.After-offset_of-at
  O = c.before.before

  abbrev S : tie.Start
  S = O.before.before.before.before

  abbrev img : Bytes
  img = S.args.source.now

  abbrev i : ℕ
  i = S.args.i.0

  slot-some : vacant_in img i ≡ false
  slot-some = sym O.is_vacant.ensures ∙ O.if-is_vacant.false

  active-yes : is_active img (offset_in img i) ≡ true
  active-yes =
      ap (is_active img) (sym O.offset_of-at.ensures) ∙ was-yes c.is_active.ensures c.if-not-is_active.false

length-at-requires : tie.Need-length_at-m-requires
length-at-requires c κs = ((S c).requires.0.opened, inside (O c))

length-is : (c : tie.After-length_at-m)
    → c.length_at-m.result
    ≡ length_at (layout_of (img c.before)) (img c.before) (offset_in (img c.before) (i c.before))
length-is c =
    let E = c.before in
    c.length_at-m.ensures ∙ ap (length_at (layout_of (img E)) (img E)) (O E).offset_of-at.ensures

add-bytes : tie.Need-overflow_add-bytes
add-bytes c =
    let E = c.before in
    omega (
      arith,
      length-is c,
      (S E).requires.1,
      other-head (img E),
      active-length (img E) (S E).args.shape (i E) (S E).requires.0 (slot-some E) (active-yes E),
    )

returns-3 : tie.Need-returns
returns-3 c =
    let E = c.before in
    let n = need-active (img E) (i E) (slot-some E) (active-yes E) in
    (ap₂ ◌+◌ (S E).requires.1 (length-is c) ∙ sym n.0, ap₂ leb (length-is c) (S E).requires.2 ∙ sym n.1)

pub slot_need_spec : {M : Type 1} → statement M
slot_need_spec =
    tie.close
    (tie.spec
    is-vacant-requires
    returns
    offset-of-requires
    is-active-requires
    returns-2
    length-at-requires
    add-bytes
    returns-3)
