-- One where both tests hold. Assumes nothing.
use mathlib.Core.Path.{◌≡◌, sym, ap}
use Prim.Native.Nat.{ℕ}
use mathlib.Core.Bool.{Bool, cond}
use Rattle.export_pair.proofs.shown_in_new.Statement.{statement}
use Rattle.export_pair.proofs.shown_in_new.Tie as tie

returns : tie.Need-returns-then-shown-newer
returns c = sym (ap (λ (b : Bool). cond {A = ℕ} b 1 0) c.if-shown-newer.true)

returns-2 : tie.Need-returns
returns-2 c = sym (ap (λ (b : Bool). cond {A = ℕ} b 1 0) c.if-shown-newer.false)

pub shown_in_new_spec : {M : Type 1} → statement M
shown_in_new_spec =
    tie.close
    (tie.spec
    returns
    returns-2)
