-- The add that a move is: without a text where the message is inactive, else with it, lent from the old image. Assumes
-- nothing.
use borrow.Author.Rules.{rules}
use Prim.Native.Nat.{◌+◌, ◌≤◌}
use native.Mathlib.Omega.{arith}
use mathlib.Core.Path.{◌≡◌, refl, sym, ap, ap₂, ◌∙◌}
use lib.ListN.{length}
use Rattle.spec_file.specs.Bytes.{part}
use Rattle.spec_file.specs.Image.{layout_of}
use Rattle.spec_file.specs.Limits.{free_field}
use Rattle.spec_file.specs.Messages.{head_size, length_at, text_at}
use Rattle.law_file.proofs.Tests.{was-no, was-yes}
use Rattle.law_file.proofs.Opened.{opened-facts}
use Rattle.law_file.proofs.Stores.{part-lent}
use Rattle.law_file.proofs.Effects.{message-head, message-fits, message-end, active-some}
use Rattle.header_layout.proofs.Shaped.{shape-head}
use Rattle.growth_move.proofs.Texts.{taken_none, taken-some, text-is}
use Rattle.growth_move.proofs.take_in.Statement.{statement}
use Rattle.growth_move.proofs.take_in.Tie as tie

is-active-requires : tie.Need-is_active-requires
is-active-requires c κs =
    let S = c in
    omega (arith, message-head S.args.old.now (opened-facts _ S.requires.0.accepted) S.args.o.0 S.requires.1)

slice-aggregate-add : tie.Need-slice_bounds-add-end
slice-aggregate-add c = search rules

add-requires : tie.Need-add-requires
add-requires c κs = search rules

same_length : tie.Need-shape_of-new-then-not-is_active
same_length c = search rules

returns : tie.Need-returns-then-not-is_active
returns c =
    let T = c in
    let S = c in
    taken_none S.args.new.now S.args.key.now S.args.old.now S.args.o.0 _ _ _
    (was-no T.is_active.ensures T.if-not-is_active.true) refl c.add.ensures

at-requires : tie.Need-at-requires
at-requires c κs = search rules

add_start : tie.Need-overflow_add-start
add_start c =
    let S = c in
    omega (
      arith,
      c.at.ensures,
      shape-head S.requires.0,
      message-fits S.args.old.now (opened-facts _ S.requires.0.accepted) S.args.o.0 S.requires.1,
      (opened-facts _ S.requires.0.accepted).size-high,
    )

length-at-requires : tie.Need-length_at-requires
length-at-requires c κs =
    let S = c in (
      S.requires.0,
      omega (
        arith,
        shape-head S.requires.0,
        message-fits S.args.old.now (opened-facts _ S.requires.0.accepted) S.args.o.0 S.requires.1,
      ),
    )

add-end : tie.Need-overflow_add-end
add-end c =
    let T = c in
    let S = c in
    let img = S.args.old.now in
    let f = opened-facts _ S.requires.0.accepted in
    let z = active-some img S.args.o.0 (was-yes T.is_active.ensures T.if-not-is_active.false) in
    omega (
      arith,
      c.at.ensures,
      c.length_at.ensures,
      shape-head S.requires.0,
      message-end img f S.args.o.0 S.requires.1 z,
      f.free-high,
      f.size-high,
    )

sub-add : tie.Need-slice_bounds-add-count
sub-add c = search rules

part-add-start : tie.Need-slice_bounds-add-start
part-add-start c = search rules

part-add-end : tie.Need-slice_bounds-add-end-2
part-add-end c =
    let T = c in
    let S = c in
    let img = S.args.old.now in
    let f = opened-facts _ S.requires.0.accepted in
    let z = active-some img S.args.o.0 (was-yes T.is_active.ensures T.if-not-is_active.false) in
    omega (
      arith,
      c.at.ensures,
      c.length_at.ensures,
      shape-head S.requires.0,
      message-end img f S.args.o.0 S.requires.1 z,
      f.free-high,
      f.size-high,
    )

add-requires-2 : tie.Need-add-requires-2
add-requires-2 c κs = search rules

same-length-2 : tie.Need-shape_of-new
same-length-2 c = search rules

returns-2 : tie.Need-returns
returns-2 c =
    let M = c in
    let T = c in
    let S = c in
    let img = S.args.old.now in
    let a = was-yes T.is_active.ensures T.if-not-is_active.false in
    let P = c in
    taken-some S.args.new.now S.args.key.now img S.args.o.0 _ _ _ a
    (part-lent img (P.at.result + S.args.shape.head) M.length_at.result
    ∙ text-is img S.args.o.0 _ _ (omega (arith, P.at.ensures, shape-head S.requires.0)) M.length_at.ensures)
    c.add-2.ensures

pub take_in_spec : {M : Type 1} → statement M
take_in_spec =
    tie.close
    (tie.spec
    is-active-requires
    slice-aggregate-add
    add-requires
    same_length
    returns
    at-requires
    add_start
    length-at-requires
    add-end
    sub-add
    part-add-start
    part-add-end
    add-requires-2
    same-length-2
    returns-2)
