-- `lister_text::put_key` meets its contract: a turn puts two digits, and behind the last byte none are left.
use Rattle.std.proofs.Common.{get_or, arith, refl}
use Rattle.lister_text.specs.Text.{hex_byte}
use Rattle.lister_text.proofs.Numbers.{hexes-step, hexes-end, length-hex_byte}
use Rattle.lister_text.proofs.Putting.{rest-start, rest_put, rest-room, rest_end}
use Rattle.lister_text.proofs.put_key.Goals as goal

pub loop-b-init : goal.loop-b-init
loop-b-init c = rest-start _ _ _ _ refl

pub put_hex-end-requires : goal.put_hex-end-requires
put_hex-end-requires c =
    let b = get_or c.args.key.now c.loop-b.b-index 0 in
    let room =
    rest-room (hex_byte b) _ c.loop-b.invariant (hexes-step _ _ c.loop-b-test.true) c.requires in
    omega (arith, room, length-hex_byte b)

pub loop-b-preserved : goal.loop-b-preserved
loop-b-preserved c =
    rest_put c.loop-b.invariant (hexes-step _ _ c.loop-b-test.true) c.put_hex-end.ensures c.requires

pub returns : goal.returns
returns c = rest_end c.loop-b.invariant (hexes-end c.args.key.now c.loop-b.b-index (omega arith))
