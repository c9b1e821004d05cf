-- The check's four verdicts as numbers. Assumes nothing.
use borrow.Author.Rules.{rules}
use mathlib.Core.Path.{sym, ap, ◌∙◌}
use native.Mathlib.Omega.{arith}
use Rattle.call_check.specs.Verdicts.{verdict_in}
use Rattle.export_walk.proofs.Told.{judged, says-refused, says-sound, says_slot, says-count, check-slot}
use Rattle.export_walk.proofs.check.Statement.{statement}
use Rattle.export_walk.proofs.check.Tie as tie

check-requires : tie.Need-check-found-requires
check-requires c κs = search rules

enum-known-found : tie.Need-enum_known-found
enum-known-found c = search rules

enum_told : tie.Need-enum_told-1
enum_told c = search rules

enum-known-found-2 : tie.Need-enum_known-found-in-SlotFails-1
enum-known-found-2 c = search rules

number-requires : tie.Need-number-requires
number-requires c κs = search rules

cast-slot : tie.Need-overflow_cast-slot
unfolding verdict_in
cast-slot c =
    let F = c in
    let A = F.args in
    omega (
      arith,
      check-slot A.image.now _
          (sym F.check-found.ensures ∙ ap verdict_in c.in-SlotFails.is),
      c.number.ensures,
    )

enum-told-2 : tie.Need-enum_told-in-CountFails
enum-told-2 c = search rules

returns : tie.Need-returns-in-Refused
unfolding verdict_in
returns c =
    let F = c in
    judged (says-refused _ _ (sym (ap verdict_in c.in-Refused.is) ∙ F.check-found.ensures))

returns-2 : tie.Need-returns-in-Sound
unfolding verdict_in
returns-2 c =
    let F = c in
    judged (says-sound _ (sym (ap verdict_in c.in-Sound.is) ∙ F.check-found.ensures))

returns-3 : tie.Need-returns-in-SlotFails
unfolding verdict_in
returns-3 c =
    let F = c in
    judged (says_slot _ _ _ (sym (ap verdict_in c.in-SlotFails.is) ∙ F.check-found.ensures)
    c.number.ensures)

returns-4 : tie.Need-returns-in-CountFails
unfolding verdict_in
returns-4 c =
    let F = c in
    judged (says-count _ (sym (ap verdict_in c.in-CountFails.is) ∙ F.check-found.ensures))

pub check_spec : {M : Type 1} → statement M
check_spec =
    tie.close
    (tie.spec
    check-requires
    enum-known-found
    enum_told
    enum-known-found-2
    number-requires
    cast-slot
    enum-told-2
    returns
    returns-2
    returns-3
    returns-4)
