-- `check_order::end_of_all` meets its contract: a turn takes one key more.
use Rattle.std.proofs.Common.{◌≡◌, length, arith, ap, sym, ◌∙◌}
use borrow.Author.Count.{below_more}
use Rattle.message_stretch.specs.Checked.{end_in}
use Rattle.starts_list.specs.Starts.{listed_at}
use Rattle.check_order.proofs.Ordered.{before-first, before_on}
use Rattle.check_order.proofs.end_of_all.Goals as goal

pub loop-key-init : goal.loop-key-init
loop-key-init c = record {
  ends = sym (before-first (end_in c.args.image.now) c.args.next c.args.keys.now);
  behind = λ k l. absurd (omega (arith, l));
}

pub loop-key-preserved : goal.loop-key-preserved
loop-key-preserved c =
    let stop = end_in c.args.image.now in
    let w = c.start_of_key-o.ensures (omega arith) in
    let at : c.new.result.0 ≡ listed_at c.args.keys.now c.loop-key.key-index = c.new.ensures ∙ c.slot_in.ensures in
    record {
      ends = c.end_of-end.ensures ∙ ap stop at
          ∙ sym (before_on stop c.args.next c.args.keys.now c.loop-key.key-index);
      behind = below_more _ _ c.loop-key.invariant.behind
          (w.0, omega (arith, w), omega (arith, w), omega (arith, w, c.loop-key.invariant.ends));
    }

pub returns : goal.returns
returns c z =
    let all : c.loop-key.key-index ≡ length c.args.keys.now = omega arith in
    (rw all at c.loop-key.invariant.behind, rw all at c.loop-key.invariant.ends)
