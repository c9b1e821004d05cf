-- No offset is not active; another is where its byte is the letter a. Assumes nothing.
use Prim.Native.Nat.{ℕ}
use mathlib.Core.Path.{sym, ap, ◌∙◌}
use lib.ListN.{get_or}
use lib.Dec.{eqb}
use borrow.Author.Rules.{rules}
use Rattle.message_read.proofs.Sound.{active-none, active-letter}
use Rattle.message_read.proofs.is_active.Statement.{statement}
use Rattle.message_read.proofs.is_active.Tie as tie

at-requires : tie.Need-at-at-requires
at-requires c κs = search rules

returns : tie.Need-returns-then-at-eq0
returns c = sym (active-none _ _ (sym c.at-at.ensures ∙ c.if-at-eq0.true))

shared-slice-read-result : tie.Need-bounds-image-at
shared-slice-read-result c = search rules

returns-2 : tie.Need-returns
returns-2 c =
    let S = c in
    let img = S.args.image.now in
    let at = c.at-at in
    ap (λ (n : ℕ). eqb (get_or img n 0) 97) at.ensures
    ∙ sym (active-letter img S.args.o.0 (λ e. c.if-at-eq0.false (at.ensures ∙ e)) S.requires)

pub is_active_spec : {M : Type 1} → statement M
is_active_spec =
    tie.close
    (tie.spec
    at-requires
    returns
    shared-slice-read-result
    returns-2)
