-- Questions 12 and 13 of a text, by its length; and the answer of a step that places a text, or none.
--     place-12, place-13, place-0      the number, by where the length stands
--     place-nothing, place-refused, place-done      the number and the image, of the text that a mode places
-- Assumes nothing.
use mathlib.Core.Path.{◌≡◌, refl, sym, ap, ◌∙◌}
use Prim.Native.Nat.{ℕ, ◌+◌, ◌≤◌, ◌<◌}
use mathlib.Core.Option.{Option, none, some}
use lib.ListN.{length}
use borrow.Author.Tests.{le-leb, lt-leb}
use Rattle.spec_file.specs.Bytes.{Bytes}
use Rattle.spec_file.specs.Limits.{free_field}
use Rattle.spec_file.specs.Image.{field, Layout}
use Rattle.spec_file.specs.Messages.{head_size}
use Rattle.spec_file.specs.Questions.{length_allowed, space_left, place_number}
use Rattle.spec_file.specs.Calls.{settled}
use Rattle.law_file.proofs.Opened.{first_no-none, first_no-yes, first_no-no}
use Rattle.law_file.proofs.Outcomes.{settled-yes, settled-no, room-none}

module _ (g : Layout) (img : Bytes) where
  -- ---- of a text of m bytes
  module _ (t : Bytes) where
    abbrev ends : ℕ
    ends = field img free_field + head_size g + length t

    pub place-12 : g.most < length t → place_number g img (some t) ≡ 12
    unfolding length_allowed
    place-12 h = first_no-no 12 _ _ (lt-leb (length t) g.most h)

    pub place-13 : length t ≤ g.most → length img < ends → place_number g img (some t) ≡ 13
    unfolding length_allowed space_left
    place-13 a h = first_no-yes 12 _ _ (le-leb (length t) g.most a) ∙ first_no-no 13 _ _ (lt-leb ends (length img) h)

    pub place-0 : length t ≤ g.most → ends ≤ length img → place_number g img (some t) ≡ 0
    unfolding length_allowed space_left
    place-0 a h =
        first_no-yes 12 _ _ (le-leb (length t) g.most a) ∙ first_no-yes 13 _ _ (le-leb ends (length img) h)
        ∙ first_no-none

  -- ---- the number r of the text p to be placed, if any, and the image then: x where it is accepted
  module _ (p : Option Bytes) (x : Bytes) where
    abbrev Says : ℕ → Bytes → Type 0
    Says r after = (r ≡ place_number g img p) × (after ≡ settled r img x)

    pub place-nothing : p ≡ none → (after : Bytes) → after ≡ x → Says 0 after
    place-nothing e after h = (sym (ap (place_number g img) e ∙ room-none g img), h ∙ sym (settled-yes 0 img x refl))

    module _ (t : Bytes) (e : p ≡ some t) (r : ℕ) (is : r ≡ place_number g img (some t)) where
      number : r ≡ place_number g img p
      number = is ∙ ap (place_number g img) (sym e)

      pub place-refused : (r ≡ 0 → ⊥) → Says r img
      place-refused n = (number, sym (settled-no r img x n))

      pub place-done : r ≡ 0 → (after : Bytes) → after ≡ x → Says 0 after
      place-done z after h = (sym z ∙ number, h ∙ sym (settled-yes 0 img x refl))
