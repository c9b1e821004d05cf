-- `check_order::step` meets its contract: the keys in use are as many as the starts. Assumes nothing.
use Prim.Native.Nat.{◌≤◌}
use native.Mathlib.Omega.{arith}
use mathlib.Core.Path.{◌≡◌, sym, ◌∙◌}
use lib.ListN.{length, take}
use lib.Seq.{length-take-le}
use borrow.Author.Rules.{rules}
use Rattle.table_search.proofs.Headers.{header}
use Rattle.message_stretch.specs.Checked.{start_in}
use Rattle.starts_list.proofs.Counting.{starts-few}
use Rattle.check_order.proofs.step.Statement.{statement}
use Rattle.check_order.proofs.step.Tie as tie

list-starts-requires : tie.Need-list_starts-n-requires
list-starts-requires c κs = search rules

abbrev start : tie.After-list_starts-n → tie.Start
start c = c.before.before.before.before

-- the starts are no more than the slots
few : (c : tie.After-list_starts-n) → c.list_starts-n.result ≤ 1048576
few c =
    let S = start c in
    let A = S.args in
    omega (
      arith,
      c.list_starts-n.ensures,
      starts-few (start_in A.image.now) A.lo A.hi A.shape.slots,
      (header A.image.now A.shape S.requires.0.opened).slots-high,
    )

sub-next-width : tie.Need-overflow_sub-hi
sub-next-width c = search rules

next-width-requires : tie.Need-next_width-width-requires
next-width-requires c κs =
    let P = c.before.before in
    let S = start P in
    (omega (arith, S.requires.2), omega (arith, S.requires.3), omega (arith, few P))

same_length : tie.Need-shape_of-keys-then-keys-n
same_length c = search rules

returns : tie.Need-returns-then-keys-n
returns c = search rules

slice-relend-prefix-pass-window : tie.Need-slice_bounds-pass_window-end
slice-relend-prefix-pass-window c = search rules

-- the keys in use
in_use : (c : tie.After-pass_window-arg-1)
    → let P = c in
    length (take P.list_starts-n.result P.list_starts-n.new.keys) ≡ P.list_starts-n.result
in_use c =
    let E = c in
    let P = c in
    length-take-le P.list_starts-n.result P.list_starts-n.new.keys (omega (arith, E.if-keys-n.false))

slice-aggregate-pass-window : tie.Need-slice_bounds-pass_window-end-2
slice-aggregate-pass-window c = sym (in_use c)

pass-window-requires : tie.Need-pass_window-end-requires
pass-window-requires c κs =
    let P = c.before.before.before.before.before in
    let S = start P in (
      S.requires.0,
      S.requires.1,
      omega (arith, S.requires.2),
      omega (arith, in_use c, few P),
      in_use c ∙ P.list_starts-n.ensures,
    )

same-length-2 : tie.Need-shape_of-keys
same-length-2 c = search rules

returns-2 : tie.Need-returns
returns-2 c = search rules

pub step_spec : {M : Type 1} → statement M
step_spec =
    tie.close
    (tie.spec
    list-starts-requires
    sub-next-width
    next-width-requires
    same_length
    returns
    slice-relend-prefix-pass-window
    slice-aggregate-pass-window
    pass-window-requires
    same-length-2
    returns-2)
