-- `message_stretch::start_in` meets its contract. Assumes nothing.
use native.Mathlib.Omega.{arith}
use mathlib.Core.Path.{◌≡◌, sym, ◌∙◌}
use borrow.Author.Rules.{rules}
use Rattle.message_stretch.specs.Checked.{start_in}
use Rattle.message_stretch.proofs.Reading.{start_none, start-some, start-low, start-high}
use Rattle.message_stretch.proofs.Pieces.{within_low, within-not, within_in}
use Rattle.message_stretch.proofs.start_in.Statement.{statement}
use Rattle.message_stretch.proofs.start_in.Tie as tie

offset-of-requires : tie.Need-offset_of-requires
offset-of-requires c κs = (c.requires.0, c.requires.1)

at-requires : tie.Need-at-o-requires
at-requires c κs = search rules

returns : tie.Need-returns-then-o-lo
returns c =
    let S = c in
    let A = S.args in
    let img = A.image.now in
    let o = c.offset_of in
    sym (within_low A.lo A.hi (start_in img A.i.0)
    (omega (arith, start-low img A.i.0, c.at-o.ensures, o.ensures, c.if-o-lo.true)))

returns-2 : tie.Need-returns-then-hi-o
returns-2 c =
    let E = c in
    let S = c in
    let A = S.args in
    let img = A.image.now in
    sym (within-not A.lo A.hi (start_in img A.i.0)
    (start-high img A.i.0 A.lo A.hi S.requires.2
    (omega (arith, E.at-o.ensures, E.offset_of.ensures, c.if-hi-o.true))))

is-vacant-requires : tie.Need-is_vacant-requires
is-vacant-requires c κs =
    let S = c in
    (S.requires.0, S.requires.1)

returns-3 : tie.Need-returns-then-is_vacant
returns-3 c =
    let S = c in
    let A = S.args in
    let img = A.image.now in
    sym (within_low A.lo A.hi (start_in img A.i.0)
    (omega (arith, start_none img A.i.0 (sym c.is_vacant.ensures ∙ c.if-is_vacant.true), S.requires.2)))

returns-4 : tie.Need-returns
returns-4 c =
    let E = c in
    let O = c in
    let S = c in
    let A = S.args in
    let img = A.image.now in
    let o = c.at-o in
    let s = start-some img A.i.0 (sym c.is_vacant.ensures ∙ c.if-is_vacant.false) in
    let e : o.result ≡ start_in img A.i.0 =
    omega (arith, o.ensures, c.offset_of.ensures, s) in
    e ∙ sym (within_in A.lo A.hi (start_in img A.i.0)
    (omega (arith, e, E.if-o-lo.false)) (omega (arith, e, c.if-hi-o.false)))

pub start_in_spec : {M : Type 1} → statement M
start_in_spec =
    tie.close
    (tie.spec
    offset-of-requires
    at-requires
    returns
    returns-2
    is-vacant-requires
    returns-3
    returns-4)
