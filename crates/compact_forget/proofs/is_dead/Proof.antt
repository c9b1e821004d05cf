-- `compact_forget::is_dead` meets its contract. Assumes nothing.
use native.Mathlib.Omega.{arith}
use mathlib.Core.Path.{sym, ap, ◌∙◌}
use mathlib.Core.Bool.{not}
use borrow.Author.Rules.{rules}
use Rattle.spec_file.specs.Messages.{is_active}
use Rattle.header_layout.proofs.Shaped.{head-range}
use Rattle.compact_stages.proofs.Entries.{dead-none, dead-vacant, dead-is, vacant-taken}
use Rattle.compact_forget.proofs.is_dead.Statement.{statement}
use Rattle.compact_forget.proofs.is_dead.Tie as tie

offset-of-requires : tie.Need-offset_of-o-requires
offset-of-requires c κs = search rules

at-requires : tie.Need-at-requires
at-requires c κs = search rules

returns : tie.Need-returns-then-at-eq0
returns c =
    let O = c in
    let A = O.args in
    sym (dead-none A.image.now A.i.0
    (omega (arith, c.at.ensures, O.offset_of-o.ensures, c.if-at-eq0.true)))

is-vacant-requires : tie.Need-is_vacant-requires
is-vacant-requires c κs = search rules

returns-2 : tie.Need-returns-then-is_vacant
returns-2 c =
    let A = c.args in
    sym (dead-vacant A.image.now A.i.0 (sym c.is_vacant.ensures ∙ c.if-is_vacant.true))

is-active-requires : tie.Need-is_active-requires
is-active-requires c κs =
    let O = c in
    let S = c in
    let img = S.args.image.now in
    omega (
      arith,
      O.offset_of-o.ensures,
      head-range S.requires.0,
      S.requires.2 (vacant-taken img S.args.i.0 (sym c.is_vacant.ensures ∙ c.if-is_vacant.false)),
    )

returns-3 : tie.Need-returns
returns-3 c =
    let T = c in
    let E = c in
    let O = c in
    let A = O.args in
    let img = A.image.now in
    ap not (c.is_active.ensures ∙ ap (is_active img) O.offset_of-o.ensures)
    ∙ sym (dead-is img A.i.0
    (λ z. E.if-at-eq0.false (E.at.ensures ∙ O.offset_of-o.ensures ∙ z))
    (sym T.is_vacant.ensures ∙ c.if-is_vacant.false))

pub is_dead_spec : {M : Type 1} → statement M
is_dead_spec =
    tie.close
    (tie.spec
    offset-of-requires
    at-requires
    returns
    is-vacant-requires
    returns-2
    is-active-requires
    returns-3)
