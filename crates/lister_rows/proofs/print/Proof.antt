-- An input that is too long, or the text of the image. Assumes nothing.
use native.Mathlib.Omega.{arith}
use mathlib.Core.Path.{sym}
use Rattle.lister_rows.proofs.Bounds.{listed-bound, printed-bound, printed-listed, printed-long}
use Rattle.lister_text.proofs.Putting.{put_same, put-within}
use borrow.Author.Rules.{rules}
use Rattle.lister_rows.proofs.print.Statement.{statement}
use Rattle.lister_rows.proofs.print.Tie as tie

put-bytes-requires : tie.Need-put_bytes-requires
put-bytes-requires c κs = search rules

same_length : tie.Need-shape_of-out-then-input-gt-MOST_LISTED
same_length c = search rules

returns : tie.Need-returns-then-input-gt-MOST_LISTED
returns c =
    let P = c in
    let T = c in
    let S = c in
    let bytes = S.args.input.now in
    let text = put_same (sym (printed-long bytes T.if-input-gt-MOST_LISTED.true)) P.put_bytes.ensures in
    (text, put-within text (omega (arith, S.requires, printed-bound bytes)))

list-requires : tie.Need-list-requires
list-requires c κs =
    let S = c in
    let bytes = S.args.input.now in
    omega (arith, S.requires, listed-bound bytes c.if-input-gt-MOST_LISTED.false)

same-length-2 : tie.Need-shape_of-out
same-length-2 c = search rules

returns-2 : tie.Need-returns
returns-2 c =
    let P = c in
    let E = c in
    let S = c in
    let bytes = S.args.input.now in
    let text = put_same (sym (printed-listed bytes E.if-input-gt-MOST_LISTED.false)) P.list.ensures in
    (text, put-within text (omega (arith, S.requires, printed-bound bytes)))

pub print_spec : {M : Type 1} → statement M
print_spec =
    tie.close
    (tie.spec
    put-bytes-requires
    same_length
    returns
    list-requires
    same-length-2
    returns-2)
