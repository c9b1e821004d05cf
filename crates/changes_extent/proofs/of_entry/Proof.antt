-- The slot's place, the message's, and X, as the shape and the header have them. Assumes nothing.
use native.Mathlib.Omega.{arith}
use Prim.Native.Nat.{◌+◌, ◌≤◌, ◌<◌}
use mathlib.Core.Path.{◌∙◌}
use lib.ListN.{length}
use Rattle.spec_file.specs.Image.{layout_of}
use Rattle.spec_file.specs.Messages.{length_at}
use Rattle.law_file.proofs.Opened.{opened-facts}
use Rattle.law_file.proofs.Effects.{message-fits}
use Rattle.header_layout.proofs.Shaped.{shape-head, head-range}
use Rattle.table_search.proofs.Headers.{header, spot}
use Rattle.message_read.proofs.Sound.{length-bound}
use Rattle.changes_extent.proofs.Places.{message-small, shown-few, of_entry}
use borrow.Author.Rules.{rules}
use Rattle.changes_extent.proofs.of_entry.Statement.{statement}
use Rattle.changes_extent.proofs.of_entry.Tie as tie

-- the message's header lies in the image
fits : (S : tie.Start) → S.args.o.0 + S.args.shape.head ≤ length S.args.image.now
fits S =
    omega (
      arith,
      message-fits S.args.image.now (opened-facts _ S.requires.0.accepted) S.args.o.0 S.requires.2,
      shape-head S.requires.0,
    )

abbrev start : tie.After-length_at → tie.Start
start c = c.before.before.before.before.before

-- four bytes tell the length
bound : (c : tie.After-length_at)
    → length_at (layout_of (start c).args.image.now) (start c).args.image.now (start c).args.o.0
    < 4294967296
bound c =
    let S = start c in
    length-bound S.args.image.now S.args.o.0
    (λ i. omega (arith, c.shared_slice_known-1.given i))
    (omega (arith, fits S, shape-head S.requires.0))

start-requires : tie.Need-start-requires
start-requires c κs =
    let S = c in
    omega (arith, spot S.args.image.now S.args.shape S.args.i.0 S.requires.0 S.requires.1)

at-requires : tie.Need-at-start-requires
at-requires c κs = search rules

read-u32-requires : tie.Need-read_u32-free-requires
read-u32-requires c κs =
    let S = c in
    omega (arith, (opened-facts _ S.requires.0.accepted).size_low)

cast-free : tie.Need-overflow_cast-free
cast-free c = search rules

length-at-requires : tie.Need-length_at-requires
length-at-requires c κs =
    let S = c.before.before.before.before in
    (S.requires.0, fits S)

add-of-message : tie.Need-overflow_add-head
add-of-message c =
    omega (arith, c.length_at.ensures, bound c, head-range (start c).requires.0)

of-message-requires : tie.Need-of_message-message-requires
of-message-requires c κs =
    let S = start c in
    message-small S.args.image.now S.args.shape S.requires.0 S.args.o.0 S.requires.2 _
    (omega (arith, c.length_at.ensures, shape-head S.requires.0))

shown-length-requires : tie.Need-shown_length-shown-requires
shown-length-requires c κs =
    let S = start c.before in
    (S.requires.0, fits S)

add-space-end : tie.Need-overflow_add-head-2
add-space-end c =
    let S = start c.before.before in
    omega (
      arith,
      c.shown_length-shown.ensures,
      shown-few S.args.image.now S.args.o.0,
      bound c.before.before,
      head-range S.requires.0,
    )

space-end-requires : tie.Need-space_end-end-requires
space-end-requires c κs =
    let S = start c.before.before in
    omega (arith, c.read_u32-free.ensures, (opened-facts _ S.requires.0.accepted).free-high)

add-t15 : tie.Need-overflow_add-result
add-t15 c =
    let S = start c.before.before.before in
    omega (arith, (header S.args.image.now S.args.shape S.requires.0).key-high)

add-t16 : tie.Need-overflow_add-result-2
add-t16 c =
    let L = c.before.before.before in
    let S = start L in
    let A = c in
    let at = spot S.args.image.now S.args.shape S.args.i.0 S.requires.0 S.requires.1 in
    omega (arith, at.ends, A.at-start.ensures, A.start.ensures, (header _ _ S.requires.0).size-high)

returns : tie.Need-returns
returns c =
    let L = c.before.before.before in
    let A = c in
    let S = start L in
    of_entry S.args.image.now S.args.shape S.requires.0 S.args.o.0 S.requires.2 S.args.i.0
    S.requires.1 _ (A.at-start.ensures ∙ A.start.ensures) S.args.m _ _ _ _ _ _ L.read_u32-free.ensures
    L.length_at.ensures c.shown_length-shown.ensures c.of_message-message.ensures
    c.space_end-end.ensures

pub of_entry_spec : {M : Type 1} → statement M
of_entry_spec =
    tie.close
    (tie.spec
    start-requires
    at-requires
    read-u32-requires
    cast-free
    length-at-requires
    add-of-message
    of-message-requires
    shown-length-requires
    add-space-end
    space-end-requires
    add-t15
    add-t16
    returns)
