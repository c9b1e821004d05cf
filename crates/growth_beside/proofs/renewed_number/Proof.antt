-- By the mode: in place, in new space, or nothing. Assumes nothing.
use native.Mathlib.Omega.{arith}
use mathlib.Core.Path.{◌≡◌, sym, ◌∙◌}
use mathlib.Core.List.{◌++◌}
use lib.ListN.{length, length-append}
use Rattle.spec_file.specs.Image.{layout_of}
use Rattle.law_file.proofs.Texts.{mode-three}
use Rattle.growth_beside.specs.Rooms.{place_of}
use Rattle.growth_beside.proofs.Places.{renewed-fits, renewed-more, renewed-withdrawn, renewed-nothing, renewed-longer}
use borrow.Author.Rules.{rules}
use Rattle.growth_beside.proofs.renewed_number.Statement.{statement}
use Rattle.growth_beside.proofs.renewed_number.Tie as tie

returns : tie.Need-returns-then-fits
returns c =
    let A = c.args in
    let Q = place_of A.old.now A.new.now A.named.0 A.moved in
    λ text bytes l m.
    sym (renewed-fits Q (layout_of A.new.now) (length A.new.now) A.fits text bytes A.mode
    c.if-mode-eq-REPLACE.true
    c.if-fits.true)

room-beside-requires : tie.Need-room_beside-requires
room-beside-requires c κs = search rules

returns-2 : tie.Need-returns-then-mode-eq-REPLACE
returns-2 c =
    let A = c.args in
    let Q = place_of A.old.now A.new.now A.named.0 A.moved in
    λ text bytes l m.
    c.room_beside.ensures bytes m
    ∙ sym (renewed-more Q (layout_of A.new.now) (length A.new.now) A.fits text bytes A.mode
    c.if-mode-eq-REPLACE.true
    c.if-fits.false)

returns-3 : tie.Need-returns-then-mode-eq-WITHDRAW
returns-3 c =
    let A = c.args in
    let Q = place_of A.old.now A.new.now A.named.0 A.moved in
    λ text bytes l m.
    sym (renewed-withdrawn Q (layout_of A.new.now) (length A.new.now) A.fits text bytes A.mode
    c.if-mode-eq-WITHDRAW.true)

returns-4 : tie.Need-returns-then-m-eq0
returns-4 c =
    let S = c in
    let A = S.args in
    let Q = place_of A.old.now A.new.now A.named.0 A.moved in
    λ text bytes l m.
    sym (renewed-nothing Q (layout_of A.new.now) (length A.new.now) A.fits text bytes A.mode
    (mode-three A.mode S.requires.4 S.requires.7 c.if-mode-eq-REPLACE.false c.if-mode-eq-WITHDRAW.false)
    (m ∙ c.if-m-eq0.true))

add-room-beside : tie.Need-overflow_add-shown
add-room-beside c = search rules

room-beside-requires-2 : tie.Need-room_beside-requires-2
room-beside-requires-2 c κs = search rules

returns-5 : tie.Need-returns
returns-5 c =
    let S = c in
    let A = S.args in
    let Q = place_of A.old.now A.new.now A.named.0 A.moved in
    λ text bytes l m.
    c.room_beside-2.ensures (text ++ bytes) (omega (arith, length-append text bytes, l, m))
    ∙ sym (renewed-longer Q (layout_of A.new.now) (length A.new.now) A.fits text bytes A.mode
    (mode-three A.mode S.requires.4 S.requires.7 c.if-mode-eq-REPLACE.false c.if-mode-eq-WITHDRAW.false)
    (λ z. c.if-m-eq0.false (sym m ∙ z)))

pub renewed_number_spec : {M : Type 1} → statement M
renewed_number_spec =
    tie.close
    (tie.spec
    returns
    room-beside-requires
    returns-2
    returns-3
    returns-4
    add-room-beside
    room-beside-requires-2
    returns-5)
