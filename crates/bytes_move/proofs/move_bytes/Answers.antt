-- `bytes_move::move_bytes` meets its contract: none of the bytes that are written is still to be read.
use Rattle.std.proofs.Common.{◌≡◌, ◌+◌, ◌∙◌, ℕ, drop, get_or, set, ap, arith}
use Rattle.std.proofs.Math.Seq.{paste, paste-zero}
use Rattle.bytes_copy.proofs.Copied.{copied-more-apart, copied-all-within}
use Rattle.spec_file.specs.Bytes.{Bytes}
use Rattle.bytes_move.proofs.move_bytes.Goals as goal

pub loop-i-init : goal.loop-i-init
loop-i-init c = paste-zero c.args.s.now c.args.to (drop c.args.from c.args.s.now)

pub loop-i-preserved : goal.loop-i-preserved
loop-i-preserved c =
    let A = c.args in
    let i = c.loop-i.i in
    ap (λ (t : Bytes). set t (A.to + i) (get_or t (A.from + i) 0)) c.loop-i.invariant
    ∙ copied-more-apart A.s.now A.from A.to A.n c.requires.1 c.requires.2 c.requires.0 i (omega arith)

pub returns : goal.returns
returns c =
    let A = c.args in
    let e : c.loop-i.i ≡ A.n = omega arith in
    c.loop-i.invariant
    ∙ ap (λ (k : ℕ). paste A.s.now A.to (drop A.from A.s.now) k) e
    ∙ copied-all-within A.s.now A.from A.to A.n c.requires.1 c.requires.2
