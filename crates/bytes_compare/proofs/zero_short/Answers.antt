-- `bytes_compare::zero_short` meets its contract: two blocks of four, the second of which may overlap the first.
use Rattle.std.proofs.Common.{◌-◌, ◌∙◌, ℕ, length, nat_eq, ap, sym, arith}
use Rattle.bytes_compare.proofs.Compare.{all_zero-block, all_zero-differ, all_zero-last}
use Rattle.bytes_compare.proofs.zero_short.Goals as goal

pub returns-then-four-ne0 : goal.returns-then-four-ne0
returns-then-four-ne0 c = sym (all_zero-differ c.args.s.now 0 4 (λ e. c.if-four-ne0.true (c.four.ensures ∙ e)))

pub returns : goal.returns
returns c =
    let s = c.args.s.now in
    ap (λ (x : ℕ). nat_eq x 0) c.four-2.ensures
    ∙ all_zero-last s (length s - 4) 4 4 (omega arith) (omega arith)
    (all_zero-block s 0 4 (sym c.four.ensures ∙ c.if-four-ne0.false))
