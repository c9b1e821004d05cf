-- `convert_bare::carry_keys` meets its contract: a turn writes slot i, and behind the last slot none is left.
use Rattle.std.proofs.Common.{◌≡◌, ◌-◌, arith}
use Rattle.spec_file.specs.Limits.{table_start}
use Rattle.spec_file.specs.Image.{layout_of, slot_start}
use Rattle.table_search.proofs.Headers.{room, layout-slots}
use Rattle.convert_bare.proofs.Table.{keys_on, keys_none}
use Rattle.convert_bare.proofs.carry_keys.Goals as goal

pub loop-i-init : goal.loop-i-init
unfolding slot_start
loop-i-init c =
    let g = layout_of c.args.source.now in
    let n : g.N - 0 ≡ g.N = omega arith in
    let p : slot_start g 0 ≡ table_start = omega arith in
    grind (arith, n, p)

pub loop-i-preserved : goal.loop-i-preserved
loop-i-preserved c =
    let e = layout-slots _ _ c.requires.0.shape in
    let r = room c.args.source.now c.requires.0.accepted in
    let k = keys_on _ _ r c.loop-i.target c.loop-i.i (omega arith) (omega arith) in
    grind (arith, k, rw c.new.ensures at c.carry_key.ensures)

pub returns : goal.returns
returns c =
    grind (arith, layout-slots _ _ c.requires.0.shape, keys_none _ _ (room c.args.source.now c.requires.0.accepted))
