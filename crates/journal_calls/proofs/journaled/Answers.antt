-- `journal_calls::journaled` meets its contract: 16; refused by the call, on the copy; else what the update answers.
-- Assumes nothing.
use Rattle.std.proofs.Common.{arith, refl, sym, ◌∙◌}
use Rattle.changes_extent.proofs.Listing.{work-holds}
use Rattle.journal_calls.proofs.Journaling.{journals-16, journals-refused, journals-asked, lent-again}
use Rattle.journal_calls.proofs.journaled.Goals as goal

pub returns-then-work-size : goal.returns-then-work-size
returns-then-work-size g c = λ outcome does. journals-16 outcome _ _ _ c.if-work-size.true

pub returns-then-number-ne0 : goal.returns-then-number-ne0
returns-then-number-ne0 g c = λ outcome does.
    let held = work-holds _ _ _ c.if-work-size.false c.put_part.ensures.0 in
    let is = does _ _ (record { shown = _; shows = held; left = _; met = c.call-number.ensures; leaves = refl }) in
    journals-refused outcome _ _ _ c.if-work-size.false _ is.0 c.if-number-ne0.true

pub update-requires : goal.update-requires
update-requires g c =
    let held = work-holds _ _ _ c.if-work-size.false c.put_part.ensures.0 in
    let again =
    lent-again _ _ _ held c.call-number.auto.arg2 (omega (arith, c.put_part.auto.out, c.if-work-size.false)) in (
      again.1,
      c.requires.small _ _
          (record { shown = _; shows = held; left = _; met = c.call-number.ensures; leaves = refl })
          c.if-number-ne0.false,
    )

pub returns : goal.returns
returns g c = λ outcome does.
    let held = work-holds _ _ _ c.if-work-size.false c.put_part.ensures.0 in
    let is = does _ _ (record { shown = _; shows = held; left = _; met = c.call-number.ensures; leaves = refl }) in
    let again =
    lent-again _ _ _ held c.call-number.auto.arg2 (omega (arith, c.put_part.auto.out, c.if-work-size.false)) in
    journals-asked outcome _ _ _ c.if-work-size.false _ _ _ _ (sym is.0 ∙ c.if-number-ne0.false) (again.0 ∙ is.1)
    again.1
    (c.requires.small _ _
    (record { shown = _; shows = held; left = _; met = c.call-number.ensures; leaves = refl }) c.if-number-ne0.false)
    c.update.ensures.0 c.update.ensures.1 c.update.ensures.2
