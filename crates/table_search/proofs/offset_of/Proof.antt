-- `table_search::offset_of` meets its contract: the number behind the slot's key is its offset.
-- Assumes nothing.
use native.Mathlib.Omega.{arith}
use mathlib.Core.Path.{◌∙◌}
use Rattle.table_search.proofs.Headers.{spot, offset-is}
use borrow.Author.Rules.{rules}
use Rattle.table_search.proofs.offset_of.Statement.{statement}
use Rattle.table_search.proofs.offset_of.Tie as tie

start-requires : tie.Need-start-requires
start-requires c κs =
    let S = c in
    let img = S.args.image.now in
    let s = S.args.shape in
    omega (arith, spot img s S.args.i.0 S.requires.0 S.requires.1)

at-requires : tie.Need-at-a-requires
at-requires c κs = search rules

add-read-u32 : tie.Need-overflow_add-a
add-read-u32 c =
    let S = c in
    let img = S.args.image.now in
    let s = S.args.shape in
    omega (arith, spot img s S.args.i.0 S.requires.0 S.requires.1, c.at-a.ensures, c.start.ensures)

read-u32-requires : tie.Need-read_u32-requires
read-u32-requires c κs =
    let S = c in
    let img = S.args.image.now in
    let s = S.args.shape in
    omega (arith, spot img s S.args.i.0 S.requires.0 S.requires.1, c.at-a.ensures, c.start.ensures)

cast-new : tie.Need-overflow_cast-read_u32
cast-new c = search rules

new-requires : tie.Need-new-requires
new-requires c κs = search rules

returns : tie.Need-returns
returns c =
    let S = c in
    let img = S.args.image.now in
    let s = S.args.shape in
    c.new.ensures ∙ c.read_u32.ensures
    ∙ offset-is img s S.requires.0.shape S.args.i.0 c.at-a.result
    (c.at-a.ensures ∙ c.start.ensures)

pub offset_of_spec : {M : Type 1} → statement M
offset_of_spec =
    tie.close
    (tie.spec
    start-requires
    at-requires
    add-read-u32
    read-u32-requires
    cast-new
    new-requires
    returns)
