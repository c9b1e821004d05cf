-- `bytes_move::copy_down` meets its contract: what `copy_within` leaves is that store.
use Rattle.std.proofs.Common.{◌≡◌, ◌+◌, ◌-◌, ◌∙◌, ℕ, drop, ap, arith}
use Rattle.std.proofs.Math.Seq.{paste}
use Rattle.bytes_copy.proofs.Copied.{copied-all-within}
use Rattle.bytes_move.proofs.copy_down.Goals as goal

pub returns : goal.returns
returns c =
    let A = c.args in
    let long : A.from + A.n - A.from ≡ A.n = omega arith in
    c.copy_within.ensures.after
    ∙ ap (λ (k : ℕ). paste A.s.now A.to (drop A.from A.s.now) k) long
    ∙ copied-all-within A.s.now A.from A.to A.n c.requires.1 (omega (arith, c.requires))
