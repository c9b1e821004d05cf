-- `table_search::home` meets its contract: the scramble's part is handed to the hash, whose result is taken modulo N.
-- Assumes nothing.
use borrow.Author.Rules.{rules}
use native.Mathlib.Omega.{arith}
use mathlib.Core.Path.{◌∙◌}
use Rattle.table_search.proofs.Headers.{header, home-is}
use Rattle.table_search.proofs.home.Statement.{statement}
use Rattle.table_search.proofs.home.Tie as tie

sub-end : tie.Need-overflow_sub-end
sub-end c =
    let S = c in
    let img = S.args.image.now in
    let s = S.args.shape in
    omega (arith, header img s S.requires)

add-end : tie.Need-overflow_add-end
add-end c =
    let S = c in
    let img = S.args.image.now in
    let s = S.args.shape in
    omega (arith, header img s S.requires)

cast-end : tie.Need-overflow_cast-end
cast-end c = search rules

mul-end : tie.Need-overflow_mul-end
mul-end c = search rules

add-end-2 : tie.Need-overflow_add-end-2
add-end-2 c = search rules

sub-hash : tie.Need-slice_bounds-hash-count
sub-hash c = search rules

part-hash-start : tie.Need-slice_bounds-hash-start
part-hash-start c = search rules

part-hash-end : tie.Need-slice_bounds-hash-end
part-hash-end c =
    let S = c in
    let img = S.args.image.now in
    let s = S.args.shape in
    omega (arith, header img s S.requires)

hash-requires : tie.Need-hash-h-requires
hash-requires c κs = search rules

cast-new : tie.Need-overflow_cast-h
cast-new c = search rules

rem-new : tie.Need-nonzero_rem-h
rem-new c =
    let S = c in
    let img = S.args.image.now in
    let s = S.args.shape in
    omega (arith, header img s S.requires)

new-requires : tie.Need-new-requires
new-requires c κs = search rules

returns : tie.Need-returns
returns c =
    let S = c in
    let img = S.args.image.now in
    let s = S.args.shape in
    let key = S.args.key.now in
    c.new.ensures ∙ home-is img s S.requires.shape key c.hash-h.result c.hash-h.ensures

pub home_spec : {M : Type 1} → statement M
home_spec =
    tie.close
    (tie.spec
    sub-end
    add-end
    cast-end
    mul-end
    add-end-2
    sub-hash
    part-hash-start
    part-hash-end
    hash-requires
    cast-new
    rem-new
    new-requires
    returns)
