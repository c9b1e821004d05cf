-- `compact_forget::forget_dead` meets its contract: a turn forgets one slot more.
use Rattle.std.proofs.Common.{◌≡◌, true, ℕ, ◌+◌, ◌<◌, ◌≤◌, ◌^◌, cond, length, arith, ap, sym, ◌∙◌}
use Rattle.spec_file.specs.Bytes.{Bytes}
use Rattle.spec_file.specs.Image.{layout_of}
use Rattle.spec_file.specs.Inspect.{taken}
use Rattle.header_layout.specs.Shapes.{Open}
use Rattle.header_layout.specs.declared.shape.Shape.{Shape}
use Rattle.table_search.proofs.Headers.{header, layout-slots}
use Rattle.table_search.specs.Slots.{with_offset}
use Rattle.compact_stages.specs.Stages.{Sound, offset_in, dead_in, active_in}
use Rattle.compact_stages.proofs.Forgetting.{Forgetting, forgetting-start, forgetting-open, forgetting-inside, forgetting-on, forgotten-all, active-same, active-one, active-small, active_on, active-none}
use Rattle.compact_forget.proofs.forget_dead.Goals as goal

-- slot i of an image x, in which all below it is done
module _ (img x : Bytes) (s : Shape) (ok : Sound img s) (i : ℕ) (low : i < s.slots)
    (done : Forgetting (layout_of img) img x i) where
  below : i < (layout_of img).N
  below = omega (arith, layout-slots img s ok.opened.shape)

  same : active_in x i ≡ active_in img i
  same = active-same img s ok x i below done

  asked : Open x s × (i < s.slots) × (taken (layout_of x) x i ≡ true → offset_in x i + s.head ≤ length x)
      × (active_in x i < 2 ^ 32)
  asked = (
    forgetting-open img s ok x i below done,
    low,
    forgetting-inside img s ok x i below done,
    omega (arith, same, active-one img s ok i below),
  )

pub loop-i-init : goal.loop-i-init
loop-i-init c = record {
  done = forgetting-start (layout_of c.args.image.now) c.args.image.now;
  bytes = sym (active-none c.args.image.now c.args.shape c.requires);
}

pub active_bytes-bytes-requires : goal.active_bytes-bytes-requires
active_bytes-bytes-requires c =
    rw c.new.ensures
    (asked c.args.image.now c.loop-i.image c.args.shape c.requires c.loop-i.i c.loop-i-test.true
    c.loop-i.invariant.done)

pub overflow_add-bytes : goal.overflow_add-bytes
overflow_add-bytes c =
    let img = c.args.image.now in
    let s = c.args.shape in
    let x = c.loop-i.image in
    let i = c.loop-i.i in
    let l = below img x s c.requires i c.loop-i-test.true c.loop-i.invariant.done in
    omega (
      arith,
      c.active_bytes-bytes.ensures ∙ ap (active_in x) c.new.ensures
          ∙ same img x s c.requires i c.loop-i-test.true c.loop-i.invariant.done,
      active-one img s c.requires i l,
      active-small img s c.requires i (omega (arith, l)),
      (header img s c.requires.opened).slots-high,
    )

pub forget-requires : goal.forget-requires
forget-requires c =
    let w = asked c.args.image.now c.loop-i.image c.args.shape c.requires c.loop-i.i c.loop-i-test.true
    c.loop-i.invariant.done in
    rw c.new-in-loop-i.ensures (w.0, w.1, w.2)

pub loop-i-preserved : goal.loop-i-preserved
loop-i-preserved c =
    let img = c.args.image.now in
    let s = c.args.shape in
    let x = c.loop-i.image in
    let i = c.loop-i.i in
    let done = c.loop-i.invariant.done in
    record {
      done = forgetting-on img s c.requires x i (below img x s c.requires i c.loop-i-test.true done) done
          c.forget.new.image
          (c.forget.ensures ∙ ap (λ (n : ℕ). cond (dead_in x n) (with_offset x n 0) x) c.new-in-loop-i.ensures);
      bytes = omega (
        arith,
        c.active_bytes-bytes.ensures ∙ ap (active_in x) c.new.ensures
            ∙ same img x s c.requires i c.loop-i-test.true done,
        active_on img s c.requires i,
      );
    }

pub returns : goal.returns
returns c =
    let img = c.args.image.now in
    let s = c.args.shape in
    forgotten-all img s c.requires c.loop-i.image c.loop-i.i c.loop-i.bytes
    (omega (arith, layout-slots img s c.requires.opened.shape)) c.loop-i.invariant.done c.loop-i.invariant.bytes
