-- `changes_calls::listed` meets its contract: refused by the call; accepted, and its windows before it compared with
-- those after it. Assumes nothing.
use Rattle.std.proofs.Common.{ℕ, ◌≡◌, arith, refl, sym, ap, subst, length, ◌∙◌}
use Rattle.spec_file.specs.Bytes.{Bytes, store}
use Rattle.spec_changes.specs.Changes.{pair_bytes, changes_in}
use Rattle.spec_changes.specs.Lists.{Lists}
use Rattle.changes_windows.specs.Windows.{Sorted}
use Rattle.changes_extent.proofs.Listing.{lists-refused, lists-done, allowed-list, allowed-work, windows-hold}
use Rattle.changes_calls.proofs.listed.Goals as goal

pub keep-requires : goal.keep-requires
keep-requires g c =
    record {
      sorted = c.requires.sorted;
      roomy = allowed-work _ _ _ c.requires.fits;
    }

pub returns-then-number-ne0 : goal.returns-then-number-ne0
returns-then-number-ne0 g c = λ outcome does leaves only.
    let is = does _ _ (record { shown = _; shows = refl; left = _; met = c.call-number.ensures; leaves = refl }) in
    subst
    (λ (p : ℕ). Lists outcome c.args.image.now (length c.args.work.now) c.args.list.now c.call-number.new.arg2
    c.args.list.now c.call-number.result p)
    (sym c.requires.cleared)
    (lists-refused outcome _ _ _ c.requires.fits _ _ is.0 c.if-number-ne0.true
    (is.1 ∙ leaves (λ h. c.if-number-ne0.true (is.0 ∙ h))))

pub fill_list_within-requires : goal.fill_list_within-requires
fill_list_within-requires g c =
    let same : length c.call-number.new.arg2 ≡ length c.args.image.now = c.call-number.auto.arg2 in
    let fits = c.requires.fits in
    let room = allowed-work _ _ (length c.args.list.now) fits in
    let small =
    c.requires.small _ _
    (record { shown = _; shows = refl; left = _; met = c.call-number.ensures; leaves = refl })
    c.if-number-ne0.false in (
      record {
        sorted = subst (λ (n : ℕ). Sorted c.args.windows n) (sym same) c.requires.sorted;
        roomy = omega (arith, same, c.keep.auto.work, room);
      },
      omega (arith, same, small),
      allowed-list _ _ (length c.args.list.now) fits,
    )

pub returns : goal.returns
returns g c = λ outcome does leaves only.
    let same : length c.call-number.new.arg2 ≡ length c.args.image.now = c.call-number.auto.arg2 in
    let fits = c.requires.fits in
    let is = does _ _ (record { shown = _; shows = refl; left = _; met = c.call-number.ensures; leaves = refl }) in
    let new = c.call-number.new.arg2 in
    let list = c.args.list.now in
    let accepted = sym is.0 ∙ c.if-number-ne0.false in
    let held =
    windows-hold outcome c.args.image.now c.args.work.now new c.keep.new.work c.args.windows c.requires.sorted
    (only (ap (λ (t : Bytes). length t) (sym is.1) ∙ same)) (allowed-work _ _ (length list) fits) accepted is.1 same
    c.keep.ensures in
    lists-done outcome _ _ list fits new _ _ accepted is.1 (sym same)
    (c.fill_list_within.ensures.0 ∙ ap (λ (t : Bytes). length (changes_in (length list) t new)) held)
    (c.fill_list_within.ensures.1
    ∙ ap (λ (t : Bytes). store list 0 (pair_bytes (changes_in (length list) t new))) held)
