-- `bytes_compare::same_short` meets its contract: two blocks of four, the second of which may overlap the first.
use Rattle.std.proofs.Common.{◌-◌, ◌∙◌, ℕ, length, nat_eq, ap, ap₂, sym, arith, rules}
use Rattle.spec_file.specs.Bytes.{part}
use Rattle.law_file.proofs.Bytes.{AreBytes}
use Rattle.bytes_compare.specs.Little.{little}
use Rattle.bytes_compare.proofs.Compare.{same-pointwise, same_block, same-last, block-differ}
use Rattle.bytes_compare.proofs.same_short.Goals as goal

pub returns-then-n-lt4 : goal.returns-then-n-lt4
returns-then-n-lt4 c = c.eq.ensures ∙ same-pointwise c.args.a.now c.args.b.now

pub returns-then-four : goal.returns-then-four
returns-then-four c =
    sym (block-differ c.args.a.now c.args.b.now 0 4 (λ e. c.if-four.true (c.four.ensures ∙ e ∙ sym c.four-2.ensures)))

pub returns : goal.returns
returns c =
    let a = c.args.a.now in
    let b = c.args.b.now in
    let bytes-a : AreBytes a = λ k. search rules in
    let bytes-b : AreBytes b = λ k. search rules in
    let l = c.requires.0 in
    ap₂ nat_eq c.four-3.ensures (c.four-4.ensures ∙ ap (λ (n : ℕ). little (part b (n - 4) 4)) (sym l))
    ∙ same-last a b bytes-a bytes-b l (length a - 4) 4 4 (omega arith) (omega arith)
    (same_block a b bytes-a bytes-b l 0 4 (omega arith)
    (sym c.four.ensures ∙ c.if-four.false ∙ c.four-2.ensures))
