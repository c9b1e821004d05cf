-- `message_stretch::end_of` meets its contract. Assumes nothing.
use native.Mathlib.Omega.{arith}
use mathlib.Core.Path.{◌≡◌, sym, ◌∙◌}
use borrow.Author.Rules.{rules}
use Prim.Native.Nat.{◌+◌}
use Rattle.header_layout.proofs.Shaped.{shape-head, head-range}
use Rattle.message_stretch.specs.Checked.{start_in, end_in}
use Rattle.message_stretch.proofs.Reading.{start-taken, Stretched, stretched, end_read}
use Rattle.message_stretch.proofs.end_of.Statement.{statement}
use Rattle.message_stretch.proofs.end_of.Tie as tie

offset-of-requires : tie.Need-offset_of-o-requires
offset-of-requires c κs =
    let r = c.requires.0 in
    (r.opened, r.low)

-- the offset read is the stretch's start
start-read : (c : tie.After-offset_of-o)
    → let A = c.args in
    (c.offset_of-o.result.0 ≡ start_in A.image.now A.i.0) × Stretched A.image.now A.i.0
start-read c =
    let S = c in
    let A = S.args in
    let z = S.requires.1 in (
      c.offset_of-o.ensures ∙ sym (start-taken A.image.now A.i.0 z).1,
      stretched A.image.now A.shape A.i.0 S.requires.0 z,
    )

text-start-requires : tie.Need-text_start-requires
text-start-requires c κs =
    let w = start-read c in (
      omega (arith, w.0, w.1.order, w.1.small),
      omega (arith, head-range c.requires.0.opened),
    )

at-requires : tie.Need-at-requires
at-requires c κs = search rules

length-at-requires : tie.Need-length_at-requires
length-at-requires c κs =
    let w = start-read c.before.before in
    let o = c.requires.0.opened in
    (o, omega (arith, w.0, w.1.order, w.1.inside, shape-head o))

-- the sum is the stretch's end
sum-read : (c : tie.After-length_at)
    → let S : tie.Start = c.before.before.before.before.before in
    c.at.result + c.length_at.result ≡ end_in S.args.image.now S.args.i.0
sum-read c =
    let O = c in
    let S = c in
    let A = S.args in
    omega (
      arith,
      c.at.ensures,
      c.text_start.ensures,
      shape-head S.requires.0.opened,
      end_read A.image.now A.i.0 S.requires.1 O.offset_of-o.result.0 c.length_at.result
          O.offset_of-o.ensures
          c.length_at.ensures,
    )

add-result : tie.Need-overflow_add-result
add-result c = omega (arith, sum-read c, (start-read c.before.before.before).1.small)

returns : tie.Need-returns
returns c = sum-read c

pub end_of_spec : {M : Type 1} → statement M
end_of_spec =
    tie.close
    (tie.spec
    offset-of-requires
    text-start-requires
    at-requires
    length-at-requires
    add-result
    returns)
