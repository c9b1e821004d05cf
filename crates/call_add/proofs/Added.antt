-- What add answers and leaves, from `seek`'s answer and the search's end.
-- Assumes nothing.
use mathlib.Core.Path.{◌≡◌, sym, ap, ap₂, ◌∙◌}
use Prim.Native.Nat.{ℕ}
use mathlib.Core.Bool.{Bool}
use Rattle.spec_file.specs.Bytes.{Bytes}
use Rattle.spec_file.specs.Image.{layout_of}
use Rattle.spec_file.specs.Search.{Probe, search}
use Rattle.spec_file.specs.Messages.{added_at, noted, added}
use Rattle.spec_file.specs.Questions.{first_no, point_asks, mode_known, seek_number, add_number}
use Rattle.spec_file.specs.Calls.{plain, settled, add}
use Rattle.law_file.proofs.Sought.{add-stop, add-on}
use Rattle.law_file.proofs.Outcomes.{add-refused}

-- known is the answer to question 8
module _ (img key bytes : Bytes) (mode : ℕ) (known : Bool) (is_known : known ≡ mode_known mode) where
  asked : seek_number img key known ≡ seek_number img key (mode_known mode)
  asked = ap (seek_number img key) is_known

  pub refused-answer : (n : ℕ) → n ≡ seek_number img key known → (n ≡ 0 → ⊥)
      → (n ≡ (add img key bytes mode).answer.number) × (img ≡ (add img key bytes mode).after)
  unfolding add plain
  refused-answer n e z =
      let is : n ≡ add_number img key bytes mode =
      e ∙ asked ∙ sym (add-stop img key bytes mode (λ q. z (e ∙ asked ∙ q))) in
      (is, sym (add-refused img key bytes mode (λ q. z (is ∙ q))))

  pub found-answer : seek_number img key known ≡ 0 → (n : ℕ) (after : Bytes) (p : Probe)
      → p ≡ search (layout_of img) img key
      → n ≡ first_no (point_asks (layout_of img) img p bytes mode)
      → after ≡ settled n img (noted bytes mode (added_at (layout_of img) img p key bytes mode))
      → (n ≡ (add img key bytes mode).answer.number) × (after ≡ (add img key bytes mode).after)
  unfolding add plain added
  found-answer a n after p e is h =
      let g = layout_of img in
      let number : n ≡ add_number img key bytes mode =
      is ∙ ap (λ (q : Probe). first_no (point_asks g img q bytes mode)) e
      ∙ sym (add-on img key bytes mode (sym asked ∙ a)) in (
        number,
        h ∙ ap₂ (λ (m : ℕ) (q : Probe). settled m img (noted bytes mode (added_at g img q key bytes mode))) number e,
      )
