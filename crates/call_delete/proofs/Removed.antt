-- Delete's steps on an image whose header is accepted, and what delete answers.
--     head-counted              the message made inactive and C written: layout, shape and length stay, the header is
--                               accepted
--     removed                   the steps together are the definition's image
--     refused-answer, found-answer      the number and the image, from `seek`'s answer and the search's end
--     unsound, no-point, some-point     question 11 with C
-- Assumes nothing.
use mathlib.Core.Path.{◌≡◌, sym, ap, ap₂, ◌∙◌}
use Prim.Native.Nat.{ℕ, ◌-◌, ◌≤◌}
use native.Mathlib.Omega.{arith}
use mathlib.Core.Bool.{Bool, true, false, ◌&&◌}
use lib.Dec.{leb}
use borrow.Author.Tests.{le-leb}
use Rattle.spec_file.specs.Bytes.{Bytes}
use Rattle.spec_file.specs.Limits.{slots_field, points_field}
use Rattle.spec_file.specs.Image.{field, set_field, Layout, layout_of, slot, offset_of}
use Rattle.spec_file.specs.Messages.{retire}
use Rattle.spec_file.specs.Search.{Probe, search}
use Rattle.spec_file.specs.Delete.{closed, deleted_at, deleted}
use Rattle.spec_file.specs.Questions.{open_number, message_sound, some_point, first_no, removed_asks, seek_number, delete_number}
use Rattle.spec_file.specs.Calls.{plain, settled, delete}
use Rattle.law_file.proofs.Opened.{Opened, opened-facts}
use Rattle.law_file.proofs.Kept.{kept_trans}
use Rattle.law_file.proofs.Effects.{retire-kept, retire-field, retire-opened, points_kept, points-opened}
use Rattle.law_file.proofs.Sought.{delete-stop, delete-on}
use Rattle.law_file.proofs.Outcomes.{delete-refused}
use Rattle.table_search.proofs.Heads.{SameHead, head_opened}

module _ (img : Bytes) (h : open_number img ≡ 0) (at : ℕ) (s : message_sound (layout_of img) img at ≡ true) (n : ℕ)
    (l : n ≤ field img slots_field) where
  facts : Opened img
  facts = opened-facts img h

  facts' : Opened (retire img at)
  facts' = retire-opened img facts at s

  few : n ≤ field (retire img at) slots_field
  few = rw (retire-field img facts at s slots_field (omega arith)) l

  pub head-counted : SameHead img (set_field (retire img at) points_field n)
  head-counted =
      head_opened img (set_field (retire img at) points_field n) facts
      (kept_trans (retire-kept img facts at s) (points_kept (retire img at) facts' n few))
      (points-opened (retire img at) facts' n few)

pub removed : (img : Bytes) (i at p : ℕ) (counted after : Bytes)
    → at ≡ offset_of (layout_of img) (slot (layout_of img) img i)
    → p ≡ field img points_field → counted ≡ set_field (retire img at) points_field (p - 1)
    → layout_of counted ≡ layout_of img
    → after ≡ closed (layout_of counted) counted i → after ≡ deleted_at (layout_of img) img i
unfolding deleted_at
removed img i at p counted after ea ep ec el e =
    e
    ∙ ap₂ (λ (g : Layout) (b : Bytes). closed g b i) el
    (ec ∙ ap₂ (λ (a m : ℕ). set_field (retire img a) points_field (m - 1)) ea ep)

-- ---- question 11 with C
module _ (img : Bytes) (b : Bool) where
  pub unsound : b ≡ false → (b && some_point img) ≡ false
  unsound s = ap (λ (a : Bool). a && some_point img) s

  pub no-point : b ≡ true → field img points_field ≡ 0 → (b && some_point img) ≡ false
  unfolding some_point
  no-point s z = ap₂ (λ (a : Bool) (n : ℕ). a && leb 1 n) s z

pub some-point : (img : Bytes) (p : ℕ) → p ≡ field img points_field → (p ≡ 0 → ⊥) → some_point img ≡ true
unfolding some_point
some-point img p e z = le-leb 1 (field img points_field) (omega arith)

-- ---- the answer from `seek`'s
module _ (img key : Bytes) where
  pub refused-answer : (n : ℕ) → n ≡ seek_number img key true → (n ≡ 0 → ⊥)
      → (n ≡ (delete img key).answer.number) × (img ≡ (delete img key).after)
  unfolding delete plain
  refused-answer n e z =
      let is : n ≡ delete_number img key = e ∙ sym (delete-stop img key (λ q. z (e ∙ q))) in
      (is, sym (delete-refused img key (λ q. z (is ∙ q))))

  pub found-answer : seek_number img key true ≡ 0 → (n : ℕ) (after : Bytes) (p : Probe)
      → p ≡ search (layout_of img) img key
      → n ≡ first_no (removed_asks (layout_of img) img p) → after ≡ settled n img (deleted (layout_of img) img p)
      → (n ≡ (delete img key).answer.number) × (after ≡ (delete img key).after)
  unfolding delete plain
  found-answer a n after p e is h =
      let number : n ≡ delete_number img key =
      is ∙ ap (λ (q : Probe). first_no (removed_asks (layout_of img) img q)) e ∙ sym (delete-on img key a) in
      (number, h ∙ ap₂ (λ (m : ℕ) (q : Probe). settled m img (deleted (layout_of img) img q)) number e)
