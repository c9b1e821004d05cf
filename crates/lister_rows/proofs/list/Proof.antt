-- Refused, or the heading and the lines. Assumes nothing.
use native.Mathlib.Omega.{arith}
use mathlib.Core.Path.{refl, sym, ap, ◌∙◌}
use lib.ListN.{length, length-append}
use Rattle.spec_file.specs.Image.{layout_of}
use Rattle.table_search.proofs.Headers.{layout-slots}
use Rattle.lister_rows.specs.Listed.{heading, lines}
use Rattle.lister_text.proofs.Putting.{put_same, put_on}
use Rattle.lister_rows.proofs.Rows.{listed-closed, listed-open}
use borrow.Author.Rules.{rules}
use Rattle.lister_rows.proofs.list.Statement.{statement}
use Rattle.lister_rows.proofs.list.Tie as tie

open-number-requires : tie.Need-open_number-number-requires
open-number-requires c κs = search rules

put-refused-requires : tie.Need-put_refused-requires
put-refused-requires c κs =
    let I = c in
    let O = c in
    let S = c in
    let img = S.args.image.now in
    let text = listed-closed img O.open_number-number.result O.open_number-number.ensures I.if-number-ne0.true in
    omega (arith, S.requires, ap length text)

same_length : tie.Need-shape_of-out-then-number-ne0
same_length c = search rules

returns : tie.Need-returns-then-number-ne0
returns c =
    let P = c in
    let I = c in
    let O = c in
    let S = c in
    let img = S.args.image.now in
    let text = listed-closed img O.open_number-number.result O.open_number-number.ensures I.if-number-ne0.true in
    put_same (sym text) P.put_refused.ensures

put-bytes-requires : tie.Need-put_bytes-at-requires
put-bytes-requires c κs =
    let I = c in
    let O = c in
    let S = c in
    let img = S.args.image.now in
    let open₀ = sym O.open_number-number.ensures ∙ I.if-number-ne0.false in
    let text = listed-open img (layout_of img).N open₀ refl in
    omega (arith, S.requires, ap length text, length-append heading (lines (layout_of img) img (layout_of img).N 0))

read-shape-requires : tie.Need-read_shape-requires
read-shape-requires c κs =
    let I = c in
    let O = c in
    let S = c in
    let img = S.args.image.now in
    let open₀ = sym O.open_number-number.ensures ∙ I.if-number-ne0.false in
    open₀

put-lines-requires : tie.Need-put_lines-requires
put-lines-requires c κs =
    let R = c in
    let P = c in
    let I = c in
    let O = c in
    let S = c in
    let img = S.args.image.now in
    let open₀ = sym O.open_number-number.ensures ∙ I.if-number-ne0.false in
    let shape = R.read_shape.result in
    let text = listed-open img shape.slots open₀ (layout-slots img shape R.read_shape.ensures) in
    let room = length-append heading (lines (layout_of img) img shape.slots 0) in
    let H = P.put_bytes-at in (
      record { accepted = open₀; shape = R.read_shape.ensures },
      omega (arith, S.requires, ap length text, room, H.ensures.ends, H.auto.out),
    )

same-length-2 : tie.Need-shape_of-out
same-length-2 c = search rules

returns-2 : tie.Need-returns
returns-2 c =
    let L = c in
    let R = c in
    let P = c in
    let I = c in
    let O = c in
    let S = c in
    let img = S.args.image.now in
    let open₀ = sym O.open_number-number.ensures ∙ I.if-number-ne0.false in
    let shape = R.read_shape.result in
    let text = listed-open img shape.slots open₀ (layout-slots img shape R.read_shape.ensures) in
    put_same (sym text) (put_on P.put_bytes-at.ensures L.put_lines.ensures (omega (arith, S.requires, ap length text)))

pub list_spec : {M : Type 1} → statement M
list_spec =
    tie.close
    (tie.spec
    open-number-requires
    put-refused-requires
    same_length
    returns
    put-bytes-requires
    read-shape-requires
    put-lines-requires
    same-length-2
    returns-2)
