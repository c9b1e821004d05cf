-- The point that a call names and that is still in the old image, on any bytes of both images: what an accepted move of
-- it says, where it then stands, and the call's own number, known before the move.
--     MoveAccepted, move-accepted    the move's questions as facts
--     named-arrived     what the new image then has of the point
--     named-own         the call's own number after the move, from the pair before it
-- Assumes nothing.
use mathlib.Core.Path.{◌≡◌, refl, ap, ap₂, ◌∙◌, subst}
use Prim.Native.Nat.{ℕ, ◌+◌, ◌≤◌, ◌<◌}
use native.Mathlib.Omega.{arith}
use mathlib.Core.Bool.{Bool, true, false, not, ◌&&◌, ◌||◌, true≢false, false≢true}
use mathlib.Core.List.{[], ◌∷◌}
use mathlib.Core.Option.{Option, none, some}
use lib.ListN.{length}
use lib.Dec.{leb, ltb, eqb}
use borrow.Author.Tests.{leb-true, ltb-true, not-true}
use Rattle.spec_file.specs.Bytes.{Bytes, all_zero}
use Rattle.spec_file.specs.Limits.{points_field, free_field}
use Rattle.spec_file.specs.Image.{field, Layout, layout_of, slot, key_of, offset_of}
use Rattle.spec_file.specs.Search.{Probe, met, empty, exhausted, search, is_met, is_empty}
use Rattle.spec_file.specs.Messages.{head_size, bytes_of, is_text, retire, added}
use Rattle.spec_file.specs.Delete.{deleted_at}
use Rattle.spec_file.specs.Questions.{ask, first_no, mode_known, slot_to_take, message_sound, some_point, length_allowed, space_left}
use Rattle.law_file.proofs.Tests.{by_bool, and_left, and_right}
use Rattle.law_file.proofs.Opened.{Opened, first_no-head, first_no-tail}
use Rattle.spec_moves.specs.Moves.{Pair, active_space, move_text, move_mode, move_key, move_asks, moved_over}
use Rattle.spec_growth.specs.Growth.{both_points, reckoned_place, beside_asks, own_asks}
use Rattle.law_moves.proofs.Foreseen.{moved_space, Arrived, arrived-none, arrived-some, foreseen, own-foreseen}

-- a search that ended without the key, with a slot to take, ended at an empty one
to_take : (C N : ℕ) (s : Probe) → is_met s ≡ false → slot_to_take C N s ≡ true → (j : ℕ) × (s ≡ empty j) × (C < N)
unfolding is_met is_empty slot_to_take
to_take C N (met i) n t = absurd (true≢false n)
to_take C N (empty i) n t = (i, refl, ltb-true C N t)
to_take C N exhausted n t = absurd (false≢true t)

module _ (old new : Bytes) (i : ℕ) where
  abbrev p : Pair
  p = record { old = old; new = new }

  abbrev g : Layout
  g = layout_of old

  abbrev h : Layout
  h = layout_of new

  abbrev at : ℕ
  at = offset_of g (slot g old i)

  abbrev t : Option Bytes
  t = move_text old i

  abbrev s : Probe
  s = search h new (move_key old i)

  -- 11, 9, 10, 12 and 13, all answered yes
  pub record MoveAccepted : Type 0 where
    pub sound : message_sound g old at ≡ true
    pub some-point : some_point old ≡ true
    pub absent : is_met s ≡ false
    pub slot-there : slot_to_take (field new points_field) h.N s ≡ true
    pub short : length_allowed h t ≡ true
    pub space : space_left h (field new free_field) (length new) t ≡ true

  pub move-accepted : first_no (move_asks p i) ≡ 0 → MoveAccepted
  unfolding move_asks
  move-accepted n₁₁ =
      let a = message_sound g old at && some_point old in
      let n₉ = first_no-tail 11 a _ (λ y. omega arith) n₁₁ in
      let n₁₀ = first_no-tail 9 (not (is_met s)) _ (λ y. omega arith) n₉ in
      let n₁₂ = first_no-tail 10 (slot_to_take (field new points_field) h.N s) _ (λ y. omega arith) n₁₀ in
      let n₁₃ = first_no-tail 12 (length_allowed h t) _ (λ y. omega arith) n₁₂ in
      let y₁₁ = first_no-head 11 a _ (λ y. omega arith) n₁₁ in
      record {
        sound = and_left (message_sound g old at) (some_point old) y₁₁;
        some-point = and_right (message_sound g old at) (some_point old) y₁₁;
        absent = not-true (is_met s) (first_no-head 9 (not (is_met s)) _ (λ y. omega arith) n₉);
        slot-there = first_no-head 10 (slot_to_take (field new points_field) h.N s) _ (λ y. omega arith) n₁₀;
        short = first_no-head 12 (length_allowed h t) _ (λ y. omega arith) n₁₂;
        space = first_no-head 13 (space_left h (field new free_field) (length new) t) [] (λ y. omega arith) n₁₃;
      }

  module _ (o : Opened new) (key : Bytes) (is : move_key old i ≡ key) (len : length key ≡ h.K)
      (nonzero : all_zero key ≡ false) (z : first_no (move_asks p i) ≡ 0) where
    w : MoveAccepted
    w = move-accepted z

    -- the search in the new image ended at an empty slot
    pub ends : (j : ℕ) × (search h new key ≡ empty j) × (field new points_field < h.N)
    ends =
        subst (λ (k : Bytes). (j : ℕ) × (search h new k ≡ empty j) × (field new points_field < h.N)) is
        (to_take (field new points_field) h.N s w.absent w.slot-there)

    -- the add that a move is
    by-text : (y : Option Bytes) → length_allowed h y ≡ true → space_left h (field new free_field) (length new) y ≡ true
        → Arrived h new (added h new key (bytes_of y) (move_mode y)) key ends.0 y
    unfolding length_allowed space_left bytes_of is_text move_mode
    by-text none a b = arrived-none new o key len nonzero ends.0 ends.1 ends.2
    by-text (some x) a b =
        arrived-some new o key len nonzero ends.0 ends.1 ends.2 x (leb-true (length x) h.most a)
        (leb-true (field new free_field + head_size h + length x) (length new) b)

    pub named-arrived : Arrived h new (moved_over p i).new key ends.0 t
    unfolding moved_over
    named-arrived = rw is (by-text t w.short w.space)

    -- the place from which the call's own space is reckoned, after the move
    abbrev place : ℕ
    place = field new free_field + moved_space h t + active_space (retire old at)

    module _ (sum : active_space (deleted_at g old i) ≡ active_space (retire old at)) where
      reckoned : reckoned_place (moved_over p i) ≡ place
      unfolding reckoned_place
      reckoned =
          let is : (moved_over p i).old ≡ deleted_at g old i = unfold moved_over in refl in
          ap₂ ◌+◌ named-arrived.free (ap active_space is ∙ sum)

      pub named-own : (bytes : Bytes) (mode : ℕ) → mode_known mode ≡ true
          → first_no (own_asks (moved_over p i) key bytes mode) ≡ foreseen place h (length new) t bytes mode
      unfolding own_asks
      named-own bytes mode k =
          let q = moved_over p i in
          ap (λ (l : Layout). first_no (beside_asks (both_points q) (reckoned_place q) l q.new (search l q.new key)
          bytes mode)) named-arrived.layout
          ∙ ap (λ (n : ℕ). first_no (beside_asks (both_points q) n h q.new (search h q.new key) bytes mode)) reckoned
          ∙ own-foreseen (both_points q) place h new q.new key ends.0 t named-arrived bytes mode k
