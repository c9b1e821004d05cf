-- A vacant slot has no line. Assumes nothing.
use native.Mathlib.Omega.{arith}
use mathlib.Core.Path.{sym, ap}
use lib.ListN.{length}
use Rattle.law_file.proofs.Tests.{was-no, was-yes}
use Rattle.spec_file.specs.Image.{layout_of}
use Rattle.lister_text.proofs.Putting.{put_same, put-none}
use Rattle.lister_rows.proofs.Rows.{row-taken, row-vacant}
use borrow.Author.Rules.{rules}
use Rattle.lister_rows.proofs.put_row.Statement.{statement}
use Rattle.lister_rows.proofs.put_row.Tie as tie

is-taken-requires : tie.Need-is_taken-requires
is-taken-requires c κs = search rules

returns : tie.Need-returns-then-not-is_taken
returns c =
    let T = c in
    let S = c in
    let img = S.args.image.now in
    let i = S.args.i.0 in
    let text = row-vacant (layout_of img) img i (was-no T.is_taken.ensures c.if-not-is_taken.true) in
    put_same (sym text) (put-none S.args.out.now S.args.at)

put-line-requires : tie.Need-put_line-requires
put-line-requires c κs =
    let E = c in
    let T = c in
    let S = c in
    let img = S.args.image.now in
    let i = S.args.i.0 in
    let text = row-taken (layout_of img) img i (was-yes T.is_taken.ensures E.if-not-is_taken.false) in
    (S.requires.0, S.requires.1, omega (arith, S.requires.2, ap length text))

same_length : tie.Need-shape_of-out
same_length c = search rules

returns-2 : tie.Need-returns
returns-2 c =
    let P = c in
    let E = c in
    let T = c in
    let S = c in
    let img = S.args.image.now in
    let i = S.args.i.0 in
    let text = row-taken (layout_of img) img i (was-yes T.is_taken.ensures E.if-not-is_taken.false) in
    put_same (sym text) P.put_line.ensures

pub put_row_spec : {M : Type 1} → statement M
put_row_spec =
    tie.close
    (tie.spec
    is-taken-requires
    returns
    put-line-requires
    same_length
    returns-2)
