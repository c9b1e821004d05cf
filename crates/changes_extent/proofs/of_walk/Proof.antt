-- The slots from i up to the walk's end, or round the table's end. Assumes nothing.
use native.Mathlib.Omega.{arith}
use mathlib.Core.Path.{◌∙◌}
use Rattle.spec_file.specs.Messages.{head_size}
use Rattle.table_search.proofs.Headers.{spot}
use Rattle.changes_extent.proofs.Places.{message-small, of-walk-up, of-walk-round}
use borrow.Author.Rules.{rules}
use Rattle.changes_extent.proofs.of_walk.Statement.{statement}
use Rattle.changes_extent.proofs.of_walk.Tie as tie

abbrev start : tie.After-walk_end-last → tie.Start
start W = W.before.before.before.before.before

start-requires : tie.Need-start-requires
start-requires c κs =
    let S = c in
    omega (arith, spot S.args.image.now S.args.shape S.args.i.0 S.requires.0 S.requires.1)

at-requires : tie.Need-at-start-requires
at-requires c κs = search rules

walk-end-requires : tie.Need-walk_end-last-requires
walk-end-requires c κs = search rules

start-requires-2 : tie.Need-start-requires-2
start-requires-2 c κs =
    let S = start c in
    omega (arith, spot S.args.image.now S.args.shape _ S.requires.0 c.walk_end-last.ensures.0)

at-requires-2 : tie.Need-at-end-requires
at-requires-2 c κs = search rules

of-message-requires : tie.Need-of_message-message-requires
of-message-requires c κs =
    let S = start c.before.before in
    message-small S.args.image.now S.args.shape S.requires.0 S.args.o.0 S.requires.2 1
    (unfold head_size in omega arith)

returns : tie.Need-returns-then-start-end
returns c =
    let M = c in
    let E = c in
    let W = c.before.before.before.before in
    let A = c in
    let S = start W in
    of-walk-up S.args.image.now S.args.shape S.requires.0 S.args.o.0 S.requires.2 S.args.i.0
    S.requires.1 _ (A.at-start.ensures ∙ A.start.ensures) _ W.walk_end-last.ensures.0 _
    (E.at-end.ensures ∙ E.start-2.ensures) W.walk_end-last.ensures.1 _ _ M.of_message-message.ensures
    c.if-start-end.true

at-requires-3 : tie.Need-at-requires
at-requires-3 c κs = search rules

returns-2 : tie.Need-returns
returns-2 c =
    let T = c in
    let M = c in
    let E = c in
    let W = c.before.before.before.before.before in
    let A = c in
    let S = start W in
    of-walk-round S.args.image.now S.args.shape S.requires.0 S.args.o.0 S.requires.2 S.args.i.0
    S.requires.1 _ (A.at-start.ensures ∙ A.start.ensures) _ W.walk_end-last.ensures.0 _
    (E.at-end.ensures ∙ E.start-2.ensures) W.walk_end-last.ensures.1 _ _ M.of_message-message.ensures _
    c.at.ensures T.if-start-end.false

pub of_walk_spec : {M : Type 1} → statement M
of_walk_spec =
    tie.close
    (tie.spec
    start-requires
    at-requires
    walk-end-requires
    start-requires-2
    at-requires-2
    of-message-requires
    returns
    at-requires-3
    returns-2)
