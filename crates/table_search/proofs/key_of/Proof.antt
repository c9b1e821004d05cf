-- `table_search::key_of` meets its contract: the bytes from the slot's start on are its key.
-- Assumes nothing.
use Prim.Native.Nat.{◌+◌}
use native.Mathlib.Omega.{arith}
use mathlib.Core.Path.{refl, ◌∙◌}
use Rattle.table_search.proofs.Headers.{spot, key-part}
use borrow.Author.Rules.{rules}
use Rattle.table_search.proofs.key_of.Statement.{statement}
use Rattle.table_search.proofs.key_of.Tie as tie

start-requires : tie.Need-start-requires
start-requires c κs =
    let S = c in
    let img = S.args.image.now in
    let s = S.args.shape in
    omega (arith, spot img s S.args.i.0 S.requires.0 S.requires.1)

at-requires : tie.Need-at-a-requires
at-requires c κs = search rules

add-e : tie.Need-overflow_add-e
add-e c =
    let S = c in
    let img = S.args.image.now in
    let s = S.args.shape in
    omega (arith, spot img s S.args.i.0 S.requires.0 S.requires.1, c.at-a.ensures, c.start.ensures)

sub-result : tie.Need-slice_bounds-result-count
sub-result c = search rules

part-result-start : tie.Need-slice_bounds-result-start
part-result-start c = search rules

part-result-end : tie.Need-slice_bounds-result-end
part-result-end c =
    let S = c in
    let img = S.args.image.now in
    let s = S.args.shape in
    omega (arith, spot img s S.args.i.0 S.requires.0 S.requires.1, c.at-a.ensures, c.start.ensures)

returns : tie.Need-returns
returns c =
    let S = c in
    let img = S.args.image.now in
    let s = S.args.shape in
    key-part img s S.requires.0.shape S.args.i.0 c.at-a.result
    (c.at-a.ensures ∙ c.start.ensures) (c.at-a.result + s.keylen) refl

pub key_of_spec : {M : Type 1} → statement M
key_of_spec =
    tie.close
    (tie.spec
    start-requires
    at-requires
    add-e
    sub-result
    part-result-start
    part-result-end
    returns)
