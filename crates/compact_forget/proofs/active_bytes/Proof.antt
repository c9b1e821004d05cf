-- `compact_forget::active_bytes` meets its contract. Assumes nothing.
use native.Mathlib.Omega.{arith}
use mathlib.Core.Path.{◌≡◌, sym, ap, ap₂, ◌∙◌}
use Prim.Native.Nat.{ℕ, ◌+◌}
use mathlib.Core.Bool.{true, false}
use borrow.Author.Rules.{rules}
use Rattle.spec_file.specs.Bytes.{Bytes}
use Rattle.spec_file.specs.Image.{layout_of, slot, vacant}
use Rattle.spec_file.specs.Messages.{length_at, is_active}
use Rattle.law_file.proofs.Tests.{was-no, was-yes}
use Rattle.header_layout.proofs.Shaped.{shape-head, head-range}
use Rattle.compact_stages.specs.Stages.{offset_in, active_in}
use Rattle.compact_stages.proofs.Entries.{vacant-taken, active-vacant, active-quiet, active-is}
use Rattle.compact_forget.proofs.active_bytes.Statement.{statement}
use Rattle.compact_forget.proofs.active_bytes.Tie as tie

is-vacant-requires : tie.Need-is_vacant-requires
is-vacant-requires c κs = search rules

returns : tie.Need-returns-then-is_vacant
returns c =
    let A = c.args in
    sym (active-vacant A.image.now A.i.0 (sym c.is_vacant.ensures ∙ c.if-is_vacant.true))

offset-of-requires : tie.Need-offset_of-at-requires
offset-of-requires c κs = search rules

is-active-requires : tie.Need-is_active-requires
is-active-requires c κs =
    let E = c in
    let S = c in
    let img = S.args.image.now in
    omega (
      arith,
      c.offset_of-at.ensures,
      head-range S.requires.0,
      S.requires.2 (vacant-taken img S.args.i.0 (sym E.is_vacant.ensures ∙ E.if-is_vacant.false)),
    )

returns-2 : tie.Need-returns-then-not-is_active
returns-2 c =
    let O = c in
    let A = O.args in
    let img = A.image.now in
    sym (active-quiet img A.i.0
    (ap (is_active img) (sym O.offset_of-at.ensures) ∙ was-no c.is_active.ensures c.if-not-is_active.true))

-- what is known once the message is known to be active
module _ (c : tie.Else-not-is_active) where
  abbrev O : tie.After-offset_of-at
  O = c.before.before

  abbrev E : tie.Else-is_vacant
  E = O.before

  abbrev S : tie.Start
  S = E.before.before.before

  abbrev img : Bytes
  img = S.args.image.now

  abbrev i : ℕ
  i = S.args.i.0

  slot-some : vacant (layout_of img) (slot (layout_of img) img i) ≡ false
  slot-some = sym E.is_vacant.ensures ∙ E.if-is_vacant.false

  active-yes : is_active img (offset_in img i) ≡ true
  active-yes =
      ap (is_active img) (sym O.offset_of-at.ensures) ∙ was-yes c.is_active.ensures c.if-not-is_active.false

length-at-requires : tie.Need-length_at-requires
length-at-requires c κs =
    let A = S c in
    (A.requires.0, omega (arith, (O c).offset_of-at.ensures, A.requires.2 (vacant-taken (img c) (i c) (slot-some c))))

-- head and length together
sum_is : (c : tie.After-length_at)
    → (S c.before).args.shape.head + c.length_at.result ≡ active_in (img c.before) (i c.before)
sum_is c =
    let E = c.before in
    ap₂ ◌+◌ (shape-head (S E).requires.0)
    (c.length_at.ensures ∙ ap (length_at (layout_of (img E)) (img E)) (O E).offset_of-at.ensures)
    ∙ sym (active-is (img E) (i E) (slot-some E) (active-yes E))

add-result : tie.Need-overflow_add-result
add-result c = omega (arith, sum_is c.before, (S c.before.before).requires.3)

returns-3 : tie.Need-returns
returns-3 c = sum_is c.before

pub active_bytes_spec : {M : Type 1} → statement M
active_bytes_spec =
    tie.close
    (tie.spec
    is-vacant-requires
    returns
    offset-of-requires
    is-active-requires
    returns-2
    length-at-requires
    add-result
    returns-3)
