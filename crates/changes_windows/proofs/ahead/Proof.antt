-- The windows in turn: the first that ends above i. Assumes nothing.
use borrow.Author.Rules.{rules}
use Rattle.changes_windows.proofs.ahead.Statement.{statement}
use Rattle.changes_windows.proofs.ahead.Tie as tie
use Rattle.changes_windows.proofs.Windowed.{ahead-1, ahead-2, ahead-3, ahead-4, ahead_none}

returns : tie.Need-returns-then-i-w
returns c =
    let S = c in
    ahead-1 S.args.w S.args.size S.args.i S.requires.0 c.if-i-w.true

later-requires : tie.Need-later-requires
later-requires c κs = search rules

returns-2 : tie.Need-returns-then-i-w-2
returns-2 c =
    let T = c in
    let S = c in
    ahead-2 S.args.w S.args.size S.args.i S.requires.0 c.later.result c.later.ensures
    T.if-i-w.false T.if-i-w-2.true

later-requires-2 : tie.Need-later-requires-then-i-w-3
later-requires-2 c κs = search rules

returns-3 : tie.Need-returns-then-i-w-3
returns-3 c =
    let T = c in
    let E = c in
    let S = c in
    ahead-3 S.args.w S.args.size S.args.i S.requires.0 c.later-then-i-w-3.result c.later-then-i-w-3.ensures
    E.if-i-w-2.false T.if-i-w-3.true

later-requires-3 : tie.Need-later-requires-then-i-w-4
later-requires-3 c κs = search rules

returns-4 : tie.Need-returns-then-i-w-4
returns-4 c =
    let T = c in
    let E = c in
    let S = c in
    ahead-4 S.args.w S.args.size S.args.i S.requires.0 c.later-then-i-w-4.result c.later-then-i-w-4.ensures
    E.if-i-w-3.false T.if-i-w-4.true

returns-5 : tie.Need-returns
returns-5 c =
    let E = c in
    let S = c in
    ahead_none S.args.w S.args.size S.args.i S.requires.0 S.requires.1 c.if-i-w-4.false

pub ahead_spec : {M : Type 1} → statement M
ahead_spec =
    tie.close
    (tie.spec
    returns
    later-requires
    returns-2
    later-requires-2
    returns-3
    later-requires-3
    returns-4
    returns-5)
