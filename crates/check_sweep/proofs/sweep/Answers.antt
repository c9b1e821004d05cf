-- `check_sweep::sweep` meets its contract: a turn sweeps one window more, and at X all is swept.
use Rattle.std.proofs.Common.{◌≡◌, ◌+◌, ◌*◌, ◌/◌, ◌-◌, length, take, sym, ◌∙◌, arith, length-take-le}
use Rattle.spec_file.specs.Image.{field}
use Rattle.spec_file.specs.Limits.{data_field, free_field}
use Rattle.law_file.proofs.Opened.{opened-facts}
use Rattle.law_file.proofs.Effects.{area-above}
use Rattle.message_stretch.specs.Checked.{start_in, end_in}
use Rattle.header_layout.proofs.Shaped.{area-field}
use Rattle.message_stretch.proofs.Sweeps.{swept-start, swept-on, swept-first, checked-below, lying}
use Rattle.check_sweep.proofs.sweep.Goals as goal

pub read_u32-free-requires : goal.read_u32-free-requires
read_u32-free-requires c = omega (arith, (opened-facts c.args.image.now c.requires.0.opened.accepted).size_low)

pub loop-lo-init : goal.loop-lo-init
loop-lo-init c =
    let A = c.args in
    let img = A.image.now in
    let C = c.requires.0 in
    let o = opened-facts img C.opened.accepted in
    let e : field img data_field ≡ c.at-lo.result = sym (c.at-lo.ensures ∙ area-field C.opened) in
    record {
      low = omega arith;
      high = omega (arith, o.free-low);
      swept = rw (← e) (swept-start (start_in img) (end_in img) A.bound (field img data_field) (field img free_field)
          (lying img A.shape A.bound C));
    }

pub window-front-requires : goal.window-front-requires
window-front-requires c =
    let A = c.args in
    let img = A.image.now in
    let C = c.requires.0 in
    let w = c.loop-lo.invariant.swept in
    let n = (c.lesser-hi.result - c.loop-lo.lo + 63) / 64 in
    let l : length (take n c.loop-lo.map) ≡ n = length-take-le n c.loop-lo.map (omega arith) in (
      record {
        checked = checked-below img A.shape A.bound C c.loop-lo.best w.low;
        low = omega (arith, area-above img (opened-facts img C.opened.accepted));
        order = omega arith;
        clear = w.clear;
      },
      omega (arith, l),
      omega (arith, l),
    )

pub loop-lo-preserved : goal.loop-lo-preserved
loop-lo-preserved c =
    let img = c.args.image.now in
    let r = c.window-front.result in
    let at : c.lesser-hi.result ≡ c.loop-lo.lo + 64 * length c.args.map.now = omega arith in
    record {
      low = omega arith;
      high = omega arith;
      swept = rw at at (swept-on (start_in img) (end_in img) c.args.bound c.loop-lo.lo c.lesser-hi.result c.loop-lo.best
          c.loop-lo.carried r.best r.carried c.loop-lo.invariant.swept c.window-front.ensures);
    }

pub returns : goal.returns
returns c =
    swept-first c.args.image.now c.args.shape c.args.bound c.requires.0 c.loop-lo.lo c.loop-lo.best c.loop-lo.carried
    c.loop-lo.invariant.swept (omega arith)

-- behind the last window
pub returns-2 : goal.returns-2
returns-2 c =
    let img = c.args.image.now in
    let r = c.window-front.result in
    swept-first img c.args.shape c.args.bound c.requires.0 c.lesser-hi.result r.best r.carried
    (swept-on (start_in img) (end_in img) c.args.bound c.loop-lo.lo c.lesser-hi.result c.loop-lo.best
    c.loop-lo.carried r.best r.carried c.loop-lo.invariant.swept c.window-front.ensures) (omega arith)
