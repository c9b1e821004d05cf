-- What a call in growth accepts, the plain call on the new image accepts too, on any images: so it can be left to
-- write. And the space that a named message has in the old image's sum.
--     plain-too         of add, with a number of points and a place that are not below C and X
--     in_sum            a slot's space is one of the sum
--     delete-foreseen   a point that was moved can be deleted
-- Assumes nothing.
use mathlib.Core.Path.{◌≡◌, refl, ap, ◌∙◌}
use Prim.Native.Nat.{ℕ, zero, suc, ◌+◌, ◌≤◌, ◌<◌}
use native.Mathlib.Omega.{arith}
use mathlib.Core.Bool.{true}
use mathlib.Core.List.{[], ◌∷◌}
use mathlib.Core.Option.{Option, none, some}
use lib.ListN.{length}
use borrow.Author.Tests.{leb-true, le-leb, ltb-true, lt-ltb}
use Rattle.spec_file.specs.Bytes.{Bytes}
use Rattle.spec_file.specs.Limits.{points_field, free_field}
use Rattle.spec_file.specs.Image.{field, Layout, layout_of}
use Rattle.spec_file.specs.Search.{Probe, met, empty, exhausted, search, is_met, is_empty}
use Rattle.spec_file.specs.Messages.{head_size, placed_text}
use Rattle.spec_file.specs.Questions.{first_no, name_allowed, mode_known, met_in_mode4, new_in_mode1, slot_to_take, met_message_sound, some_point, length_allowed, space_left, point_asks, open_number, add_number, removed_asks}
use Rattle.law_file.proofs.Tests.{by-eq}
use Rattle.law_file.proofs.Opened.{first_no-none, first_no-yes, first_no-head, first_no-tail}
use Rattle.law_file.proofs.Outcomes.{add-point, removed-0}
use Rattle.spec_moves.specs.Moves.{active_at, active_from, active_space}
use Rattle.spec_growth.specs.Growth.{beside_asks}
use Rattle.law_moves.proofs.Foreseen.{Arrived}

fewer : (P C N : ℕ) (s : Probe) → C ≤ P → slot_to_take P N s ≡ true → slot_to_take C N s ≡ true
unfolding slot_to_take is_met is_empty
fewer P C N (met i) l h = refl
fewer P C N (empty i) l h = lt-ltb C N (omega (arith, ltb-true P N h, l))
fewer P C N exhausted l h = h

lower : (g : Layout) (Q X L : ℕ) (t : Option Bytes) → X ≤ Q → space_left g Q L t ≡ true → space_left g X L t ≡ true
unfolding space_left
lower g Q X L none l h = refl
lower g Q X L (some t) l h =
    le-leb (X + head_size g + length t) L (omega (arith, leb-true (Q + head_size g + length t) L h, l))

module _ (new key bytes : Bytes) (mode P Q : ℕ) where
  abbrev h : Layout
  h = layout_of new

  abbrev s : Probe
  s = search h new key

  -- the plain call's number
  pub plain-too : open_number new ≡ 0 → name_allowed h.K key ≡ true → mode_known mode ≡ true
      → field new points_field ≤ P → field new free_field ≤ Q
      → first_no (beside_asks P Q h new s bytes mode) ≡ 0 → add_number new key bytes mode ≡ 0
  unfolding beside_asks point_asks
  plain-too z a k lp lq n₁₄ =
      let t = placed_text h new s bytes mode in
      let n₉ = first_no-tail 14 (met_in_mode4 s mode) _ (λ y. omega arith) n₁₄ in
      let n₁₀ = first_no-tail 9 (new_in_mode1 s mode) _ (λ y. omega arith) n₉ in
      let n₁₁ = first_no-tail 10 (slot_to_take P h.N s) _ (λ y. omega arith) n₁₀ in
      let n₁₂ = first_no-tail 11 (met_message_sound h new s) _ (λ y. omega arith) n₁₁ in
      let n₁₃ = first_no-tail 12 (length_allowed h t) _ (λ y. omega arith) n₁₂ in
      add-point new key z bytes mode a k
      ∙ first_no-yes 14 _ _ (first_no-head 14 (met_in_mode4 s mode) _ (λ y. omega arith) n₁₄)
      ∙ first_no-yes 9 _ _ (first_no-head 9 (new_in_mode1 s mode) _ (λ y. omega arith) n₉)
      ∙ first_no-yes 10 _ _ (fewer P _ h.N s lp (first_no-head 10 (slot_to_take P h.N s) _ (λ y. omega arith) n₁₀))
      ∙ first_no-yes 11 _ _ (first_no-head 11 (met_message_sound h new s) _ (λ y. omega arith) n₁₁)
      ∙ first_no-yes 12 _ _ (first_no-head 12 (length_allowed h t) _ (λ y. omega arith) n₁₂)
      ∙ first_no-yes 13 _ [] (lower h Q _ (length new) t lq
      (first_no-head 13 (space_left h Q (length new) t) [] (λ y. omega arith) n₁₃))
      ∙ first_no-none

-- an active message that passes 11 is one of the sum
at_most : (g : Layout) (img : Bytes) (i left k : ℕ) → k ≤ i → i < k + left → active_at g img i ≤ active_from g img left k
unfolding active_from
at_most g img i zero k lo hi = absurd (omega arith)
at_most g img i (suc left) k lo hi =
    let ih : suc k ≤ i → i < suc k + left → active_at g img i ≤ active_from g img left (suc k)
    = at_most g img i left (suc k) in
    by-eq k i
    (λ q. omega (arith, ap (active_at g img) q))
    (λ n. omega (arith, ih (omega (arith, n)) (omega arith)))

pub in_sum : (img : Bytes) (i : ℕ) → i < (layout_of img).N → active_at (layout_of img) img i ≤ active_space img
unfolding active_space
in_sum img i l = at_most (layout_of img) img i (layout_of img).N 0 (omega arith) (omega (arith, l))

-- a point that was moved can be deleted
pub delete-foreseen : (h : Layout) (new new' key : Bytes) (j : ℕ) (t : Option Bytes) → Arrived h new new' key j t
    → 1 ≤ field new' points_field → first_no (removed_asks h new' (search h new' key)) ≡ 0
unfolding some_point
delete-foreseen h new new' key j t w l =
    ap (λ (s : Probe). first_no (removed_asks h new' s)) w.meets
    ∙ removed-0 h new' j w.sound (unfold some_point in le-leb 1 (field new' points_field) l)
