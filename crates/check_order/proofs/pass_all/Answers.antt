-- `check_order::pass_all` meets its contract: a turn takes one window more, and at X no two stretches meet.
use Rattle.std.proofs.Common.{◌≡◌, arith, sym, ◌∙◌}
use borrow.Author.Tests.{leb-true}
use Rattle.spec_file.specs.Image.{field}
use Rattle.spec_file.specs.Limits.{data_field, free_field}
use Rattle.law_file.proofs.Effects.{area-above}
use Rattle.law_file.proofs.Opened.{opened-facts}
use Rattle.header_layout.proofs.Shaped.{area-field}
use Rattle.message_stretch.specs.Checked.{start_in, end_in}
use Rattle.message_stretch.proofs.Sweeps.{lying}
use Rattle.check_order.proofs.Ordered.{ordered-start, ordered-first}
use Rattle.check_order.proofs.pass_all.Goals as goal

pub loop-init : goal.loop-init
loop-init c =
    let A = c.args in
    let img = A.image.now in
    let o = opened-facts img c.requires.0.opened.accepted in
    let e : field img data_field ≡ c.at-lo.result = sym (c.at-lo.ensures ∙ area-field c.requires.0.opened) in
    record {
      low = omega arith;
      high = omega (arith, o.free-low);
      some = omega arith;
      narrow = omega arith;
      order = rw (← e) (ordered-start (start_in img) (end_in img) A.shape.slots (field img data_field)
          (field img free_field) (lying img A.shape A.shape.slots c.requires.0));
    }

pub returns-then-free-lo : goal.returns-then-free-lo
returns-then-free-lo c e =
    ordered-first c.args.image.now c.args.shape c.requires.0 c.loop.lo c.loop.next c.loop.invariant.order (omega arith)

pub overflow_add-lo : goal.overflow_add-lo
overflow_add-lo c =
    let o = opened-facts c.args.image.now c.requires.0.opened.accepted in
    omega (arith, o.free-high, o.size-high)

pub step-front-requires : goal.step-front-requires
step-front-requires c =
    let o = opened-facts c.args.image.now c.requires.0.opened.accepted in (
      c.requires.0,
      omega (arith, area-above c.args.image.now o),
      omega arith,
      omega (arith, o.free-high, o.size-high),
      omega arith,
    )

pub loop-preserved : goal.loop-preserved
loop-preserved c =
    let w = c.step-front.ensures in
    record {
      low = omega (arith, w);
      high = omega (arith, w);
      some = w.2;
      narrow = w.3;
      order = w.4 (omega arith) c.loop.invariant.order;
    }

pub returns : goal.returns
returns c e =
    ordered-first c.args.image.now c.args.shape c.requires.0 c.loop.lo c.loop.next c.loop.invariant.order
    (omega (arith, leb-true _ _ e))
