-- `bytes_words::fields::read_little` meets its contract: the four bytes are below 256, so the ors are sums.
-- Assumes nothing.
use Rattle.std.proofs.Common.{◌+◌, get_or, arith, rules}
use Rattle.bytes_words.proofs.Numbers.{or-four}
use Rattle.bytes_words.proofs.fields.read_little.Statement.{statement}
use Rattle.bytes_words.proofs.fields.read_little.Tie as tie

add-result : tie.Need-overflow_add-result
add-result c = search rules

shared-slice-read-result : tie.Need-bounds-s-at
shared-slice-read-result c = search rules

cast-result : tie.Need-overflow_cast-result
cast-result c = omega (arith, c.shared_slice_known-1.given (c.args.at + 3))

add-result-2 : tie.Need-overflow_add-result-2
add-result-2 c = search rules

shared-slice-read-result-2 : tie.Need-bounds-s-at-2
shared-slice-read-result-2 c = search rules

cast-result-2 : tie.Need-overflow_cast-result-2
cast-result-2 c = omega (arith, c.shared_slice_known-2-1.given (c.args.at + 2))

add-result-3 : tie.Need-overflow_add-result-3
add-result-3 c = search rules

shared-slice-read-result-3 : tie.Need-bounds-s-at-3
shared-slice-read-result-3 c = search rules

cast-result-3 : tie.Need-overflow_cast-result-3
cast-result-3 c = omega (arith, c.shared_slice_known-3-1.given (c.args.at + 1))

shared-slice-read-result-4 : tie.Need-bounds-s-at-4
shared-slice-read-result-4 c = search rules

cast-result-4 : tie.Need-overflow_cast-result-4
cast-result-4 c = omega (arith, c.shared_slice_known-4-1.given c.args.at)

returns : tie.Need-returns
returns c =
    let A = c.args in
    let s = A.s.now in
    let at = A.at in
    let b = c.shared_slice_known-4-1.given in
    or-four (get_or s (at + 3) 0) (get_or s (at + 2) 0) (get_or s (at + 1) 0) (get_or s at 0)
    (omega (arith, b (at + 3))) (omega (arith, b (at + 2))) (omega (arith, b (at + 1))) (omega (arith, b at))

pub read_little_spec : {M : Type 1} → statement M
read_little_spec =
    tie.close
    (tie.spec
    add-result
    shared-slice-read-result
    cast-result
    add-result-2
    shared-slice-read-result-2
    cast-result-2
    add-result-3
    shared-slice-read-result-3
    cast-result-3
    shared-slice-read-result-4
    cast-result-4
    returns)
