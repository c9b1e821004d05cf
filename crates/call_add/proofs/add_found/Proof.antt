-- The version is written behind an accepted call alone. Assumes nothing.
use mathlib.Core.Path.{◌≡◌, refl, sym, ap, ◌∙◌}
use native.Mathlib.Omega.{arith}
use borrow.Author.Rules.{rules}
use Rattle.spec_file.specs.Bytes.{Bytes}
use Rattle.spec_file.specs.Messages.{noted}
use Rattle.law_file.proofs.Opened.{opened-facts}
use Rattle.law_file.proofs.Outcomes.{settled-yes, settled-no}
use Rattle.call_add.proofs.add_found.Statement.{statement}
use Rattle.call_add.proofs.add_found.Tie as tie

put-found-requires : tie.Need-put_found-number-requires
put-found-requires c κs = search rules

same_length : tie.Need-shape_of-image-then-number-ne0
same_length c = search rules

abbrev put-at-then1 : tie.Then-number-ne0 → tie.After-put_found-number
put-at-then1 c = c.before.before.before

abbrev start-at-put : tie.After-put_found-number → tie.Start
start-at-put c = c.before.before.before.before.before

returns : tie.Need-returns-then-number-ne0
returns c =
    let P = (put-at-then1 c).put_found-number in
    let img = (start-at-put (put-at-then1 c)).args.image.now in (
      P.ensures.0,
      P.ensures.1 ∙ settled-no P.result img _ c.if-number-ne0.true ∙ sym (settled-no P.result img _ c.if-number-ne0.true),
    )

note-version-requires : tie.Need-note_version-requires
note-version-requires c κs =
    let S = start-at-put c.before.before.before.before in
    omega (arith, (opened-facts _ S.requires.0.accepted).size_low)

same-length-2 : tie.Need-shape_of-image
same-length-2 c = search rules

abbrev else1-at-slice-known3 : tie.After-slice_known-3-1 → tie.Else-number-ne0
else1-at-slice-known3 c = c.before.before.before.before

returns-2 : tie.Need-returns
returns-2 c =
    let E = else1-at-slice-known3 c in
    let P = E.put_found-number in
    let A = (start-at-put E.before.before.before).args in
    let img = A.image.now in
    let n = c.note_version in (
      sym E.if-number-ne0.false ∙ P.ensures.0,
      n.ensures
          ∙ ap (noted A.bytes.now A.mode) (P.ensures.1 ∙ settled-yes P.result img _ E.if-number-ne0.false)
          ∙ sym (settled-yes 0 img _ refl),
    )

pub add_found_spec : {M : Type 1} → statement M
add_found_spec =
    tie.close
    (tie.spec
    put-found-requires
    same_length
    returns
    note-version-requires
    same-length-2
    returns-2)
