-- The slot's key, then whether it is zeros. Assumes nothing.
use native.Mathlib.Omega.{arith}
use Prim.Native.Nat.{◌<◌}
use mathlib.Core.Path.{◌≡◌, sym, ap, ◌∙◌}
use lib.ListN.{length}
use borrow.Author.Rules.{rules}
use Rattle.spec_file.specs.Image.{layout_of, slot, key_of}
use Rattle.law_file.proofs.Tests.{was-no, was-yes}
use Rattle.law_file.proofs.Slots.{length-slot, length-key_of}
use Rattle.table_search.proofs.Headers.{layout-key, layout-slots, room}
use Rattle.call_select.proofs.Selecting.{selects-outside, selects-inside}
use Rattle.call_select.proofs.is_selected.Statement.{statement}
use Rattle.call_select.proofs.is_selected.Tie as tie

key-of-requires : tie.Need-key_of-key-requires
key-of-requires c κs = search rules

key-in-ranges-requires : tie.Need-key_in_ranges-requires
key-in-ranges-requires c κs =
    let S = c in
    let img = S.args.image.now in
    let g = layout_of img in
    let s = S.args.shape in
    let i = S.args.i.0 in
    let f = S.requires.2 in
    let o = S.requires.0 in
    let below : i < g.N = omega (arith, S.requires.1, layout-slots img s o.shape) in
    let size : length (key_of g (slot g img i)) ≡ g.K =
    length-key_of g (slot g img i) (length-slot g img (room img o.accepted) i below) in (
      f.asked,
      ap length c.key_of-key.ensures ∙ size ∙ layout-key img s o.shape ∙ sym f.lowest-length,
      f.highest-length ∙ sym f.lowest-length,
    )

returns : tie.Need-returns-then-not-key_in_ranges
returns c =
    let R = c in
    let A = R.args in
    selects-outside (layout_of A.image.now) A.image.now A.lowest.now A.highest.now A.i.0 _
    R.key_of-key.ensures (was-no R.key_in_ranges.ensures c.if-not-key_in_ranges.true)

all-zero-requires : tie.Need-all_zero-requires
all-zero-requires c κs = search rules

returns-2 : tie.Need-returns
returns-2 c =
    let E = c in
    let R = c in
    let A = R.args in
    selects-inside (layout_of A.image.now) A.image.now A.lowest.now A.highest.now A.i.0 _
    R.key_of-key.ensures (was-yes R.key_in_ranges.ensures E.if-not-key_in_ranges.false) _ c.all_zero.ensures

pub is_selected_spec : {M : Type 1} → statement M
is_selected_spec =
    tie.close
    (tie.spec
    key-of-requires
    key-in-ranges-requires
    returns
    all-zero-requires
    returns-2)
