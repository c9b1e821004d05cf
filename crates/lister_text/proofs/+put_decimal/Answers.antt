-- The tens, then the last digit. Assumes nothing.
use Rattle.std.proofs.Common.{arith, sym, ◌+◌, ◌≤◌, ◌/◌, length}
use Rattle.lister_text.specs.Text.{digit, decimal}
use Rattle.lister_text.proofs.Numbers.{decimal-low, decimal-high, length-low, length_high}
use Rattle.lister_text.proofs.Putting.{put_same, put_then, put-length}
use Rattle.lister_text.proofs.+put_decimal.Goals as goal

pub put_byte-requires : goal.put_byte-requires
put_byte-requires t c = omega (arith, c.requires, length-low c.args.n c.if-n-lt10.true)

pub returns-then-n-lt10 : goal.returns-then-n-lt10
unfolding digit
returns-then-n-lt10 t c = put_same (sym (decimal-low c.args.n c.if-n-lt10.true)) c.put_byte.ensures

pub put_decimal-end-requires : goal.put_decimal-end-requires
put_decimal-end-requires t c =
    (omega (arith, c.decreases, c.if-n-lt10.false), omega (arith, c.requires, length_high c.args.n c.if-n-lt10.false))

pub put_byte-requires-2 : goal.put_byte-requires-2
put_byte-requires-2 t c =
    let high = length_high c.args.n c.if-n-lt10.false in
    let room : c.args.at + length (decimal (c.args.n / 10)) ≤ length c.args.out.now = omega (arith, c.requires, high) in
    omega (arith, c.requires, high, c.put_decimal-end.ensures.ends, put-length c.put_decimal-end.ensures room)

pub returns : goal.returns
unfolding digit
returns t c =
    put_same (sym (decimal-high c.args.n c.if-n-lt10.false))
    (put_then c.put_decimal-end.ensures c.put_byte-2.ensures
    (omega (arith, c.requires, length_high c.args.n c.if-n-lt10.false)))
