-- 12 and 13 of a text with a place, by its length; and by the mode of a point that is present.
-- Assumes nothing.
use mathlib.Core.Path.{◌≡◌, refl, ap, ◌∙◌}
use Prim.Native.Nat.{ℕ, ◌+◌, ◌≤◌, ◌<◌}
use mathlib.Core.Bool.{Bool, true, false}
use mathlib.Core.List.{◌++◌}
use mathlib.Core.Option.{some}
use lib.ListN.{length}
use borrow.Author.Tests.{le-leb, lt-leb, eq-eqb, ne_eqb}
use Rattle.spec_file.specs.Bytes.{Bytes}
use Rattle.spec_file.specs.Image.{Layout}
use Rattle.spec_file.specs.Messages.{head_size}
use Rattle.spec_file.specs.Questions.{length_allowed, space_left}
use Rattle.law_file.proofs.Opened.{first_no-none, first_no-yes, first_no-no}
use Rattle.growth_beside.specs.Rooms.{room_at, renewed_number}

module _ (Q : ℕ) (h : Layout) (L : ℕ) (t : Bytes) where
  pub room-12 : h.most < length t → room_at Q h L (some t) ≡ 12
  unfolding length_allowed
  room-12 l = first_no-no 12 _ _ (lt-leb (length t) h.most l)

  pub room-13 : length t ≤ h.most → L < Q + head_size h + length t → room_at Q h L (some t) ≡ 13
  unfolding length_allowed space_left
  room-13 a l =
      first_no-yes 12 _ _ (le-leb (length t) h.most a) ∙ first_no-no 13 _ _ (lt-leb (Q + head_size h + length t) L l)

  pub room_0 : length t ≤ h.most → Q + head_size h + length t ≤ L → room_at Q h L (some t) ≡ 0
  unfolding length_allowed space_left
  room_0 a l =
      first_no-yes 12 _ _ (le-leb (length t) h.most a)
      ∙ first_no-yes 13 _ _ (le-leb (Q + head_size h + length t) L l)
      ∙ first_no-none

-- a point that is present, modes 2 to 4
module _ (Q : ℕ) (h : Layout) (L : ℕ) (fits : Bool) (text bytes : Bytes) (mode : ℕ) where
  abbrev renewed : ℕ
  renewed = renewed_number Q h L fits text bytes mode

  pub renewed-fits : mode ≡ 2 → fits ≡ true → renewed ≡ 0
  renewed-fits e f = rw (e, f) refl

  pub renewed-more : mode ≡ 2 → fits ≡ false → renewed ≡ room_at Q h L (some bytes)
  renewed-more e f = rw (e, f) refl

  pub renewed-withdrawn : mode ≡ 4 → renewed ≡ 0
  renewed-withdrawn e = rw e refl

  pub renewed-nothing : mode ≡ 3 → length bytes ≡ 0 → renewed ≡ 0
  renewed-nothing e z = rw (e, eq-eqb (length bytes) 0 z) refl

  pub renewed-longer : mode ≡ 3 → (length bytes ≡ 0 → ⊥) → renewed ≡ room_at Q h L (some (text ++ bytes))
  renewed-longer e z = rw (e, ne_eqb (length bytes) 0 z) refl
