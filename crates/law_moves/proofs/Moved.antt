-- A move of one point, on any bytes of both images: its number by its cases, and what an accepted one leaves.
--     move-11, move-9, move-add      the number: 11, 9, or that of the add that a move is
--     taken-name                     the key of a taken slot is a name in the other image too
--     accepted-sound, accepted-new, accepted-add     what was answered yes where the number is 0
--     moved-old, moved_new           then both images are opened again, with the layouts that they had
-- Assumes nothing.
use Prim.Native.Nat.{ℕ, ◌<◌}
use native.Mathlib.Omega.{arith}
use mathlib.Core.Path.{◌≡◌, refl, sym, ap, ◌∙◌}
use mathlib.Core.Bool.{Bool, true, false, not, ◌&&◌}
use mathlib.Core.List.{[], ◌∷◌}
use mathlib.Core.Option.{Option, none, some}
use lib.ListN.{length}
use lib.Dec.{eqb}
use borrow.Author.Tests.{eq-eqb, not-true}
use Rattle.spec_file.specs.Bytes.{Bytes}
use Rattle.spec_file.specs.Limits.{points_field, free_field}
use Rattle.spec_file.specs.Image.{field, Layout, layout_of, slot, key_of, offset_of, vacant}
use Rattle.spec_file.specs.Search.{Probe, met, empty, exhausted, search, is_met}
use Rattle.spec_file.specs.Messages.{shown, bytes_of, is_text, fresh_text, placed_text, added}
use Rattle.spec_file.specs.Delete.{deleted_at}
use Rattle.spec_file.specs.Questions.{ask, first_no, name_allowed, mode_known, met_in_mode4, new_in_mode1, slot_to_take, message_sound, met_message_sound, some_point, length_allowed, space_left, point_asks, open_number, add_number}
use Rattle.spec_file.specs.Inspect.{taken}
use Rattle.law_file.proofs.Tests.{by_bool, not-both, and_left, and_right, and-true}
use Rattle.law_file.proofs.Opened.{first_no-yes, first_no-no, first_no-head, first_no-tail, opened-room, opened-facts}
use Rattle.law_file.proofs.Slots.{length-slot, length-key_of}
use Rattle.law_file.proofs.Outcomes.{add-point}
use Rattle.spec_moves.specs.Moves.{Pair, move_text, move_mode, move_key, move_asks, moved_over}
use Rattle.law_moves.proofs.Again.{Again, deleted-again, added-again}

placed-fresh : (h : Layout) (img : Bytes) (s : Probe) (bytes : Bytes) (mode : ℕ) → is_met s ≡ false
    → placed_text h img s bytes mode ≡ fresh_text bytes mode
unfolding placed_text is_met
placed-fresh h img (met i) bytes mode e = absurd (not-both true refl e)
placed-fresh h img (empty i) bytes mode e = refl
placed-fresh h img exhausted bytes mode e = refl

sound-fresh : (h : Layout) (img : Bytes) (s : Probe) → is_met s ≡ false → met_message_sound h img s ≡ true
unfolding met_message_sound is_met
sound-fresh h img (met i) e = absurd (not-both true refl e)
sound-fresh h img (empty i) e = refl
sound-fresh h img exhausted e = refl

move-fresh : (t : Option Bytes) → fresh_text (bytes_of t) (move_mode t) ≡ t
unfolding fresh_text bytes_of move_mode is_text
move-fresh none = refl
move-fresh (some x) = refl

move-mode : (t : Option Bytes) → mode_known (move_mode t) ≡ true
unfolding mode_known move_mode is_text
move-mode none = refl
move-mode (some x) = refl

not-four : (s : Probe) (t : Option Bytes) → met_in_mode4 s (move_mode t) ≡ true
unfolding met_in_mode4 move_mode is_text
not-four s none = refl
not-four s (some x) = refl

absent-new : (s : Probe) (mode : ℕ) → is_met s ≡ false → new_in_mode1 s mode ≡ true
unfolding new_in_mode1
absent-new s mode e = rw e (by_bool (eqb mode 1) (λ y. rw y refl) (λ n. rw n refl))

module _ (old new : Bytes) (i : ℕ) where
  abbrev p : Pair
  p = record { old = old; new = new }

  abbrev g : Layout
  g = layout_of old

  abbrev h : Layout
  h = layout_of new

  abbrev o : ℕ
  o = offset_of g (slot g old i)

  abbrev key : Bytes
  key = key_of g (slot g old i)

  abbrev t : Option Bytes
  t = shown g old o

  pub move-11 : (message_sound g old o && some_point old) ≡ false → first_no (move_asks p i) ≡ 11
  unfolding move_asks
  move-11 e = first_no-no 11 _ _ e

  module _ (s : (message_sound g old o && some_point old) ≡ true) where
    pub move-9 : is_met (search h new key) ≡ true → first_no (move_asks p i) ≡ 9
    unfolding move_asks move_key
    move-9 m = first_no-yes 11 _ _ s ∙ first_no-no 9 _ _ (ap not m)

    pub move-add : is_met (search h new key) ≡ false → open_number new ≡ 0 → name_allowed h.K key ≡ true
        → first_no (move_asks p i) ≡ add_number new key (bytes_of t) (move_mode t)
    unfolding move_asks move_key move_text point_asks
    move-add m z a =
        let q = search h new key in
        let text : placed_text h new q (bytes_of t) (move_mode t) ≡ t =
        placed-fresh h new q (bytes_of t) (move_mode t) m ∙ move-fresh t in
        first_no-yes 11 _ _ s
        ∙ first_no-yes 9 _ _ (ap not m)
        ∙ ap (λ (u : Option Bytes). first_no (ask 10 (slot_to_take (field new points_field) h.N q)
        ∷ ask 12 (length_allowed h u) ∷ ask 13 (space_left h (field new free_field) (length new) u) ∷ [])) (sym text)
        ∙ sym (add-point new key z (bytes_of t) (move_mode t) a (move-mode t)
        ∙ first_no-yes 14 _ _ (not-four q t)
        ∙ first_no-yes 9 _ _ (absent-new q (move_mode t) m)
        ∙ by_bool (slot_to_take (field new points_field) h.N q)
        (λ y. first_no-yes 10 _ _ y ∙ first_no-yes 11 _ _ (sound-fresh h new q m) ∙ sym (first_no-yes 10 _ _ y))
        (λ n. first_no-no 10 _ _ n ∙ sym (first_no-no 10 _ _ n)))

  -- ---- an accepted move

  -- question 11 of the old image
  pub accepted-sound : first_no (move_asks p i) ≡ 0 → (message_sound g old o && some_point old) ≡ true
  unfolding move_asks
  accepted-sound z = first_no-head 11 (message_sound g old o && some_point old) _ (λ w. omega arith) z

  -- question 9: the new image has no such point
  pub accepted-new : first_no (move_asks p i) ≡ 0 → is_met (search h new key) ≡ false
  unfolding move_asks move_key
  accepted-new z =
      not-true (is_met (search h new key))
      (first_no-head 9 (not (is_met (search h new key))) _ (λ w. omega arith)
      (first_no-tail 11 (message_sound g old o && some_point old) _ (λ w. omega arith) z))

  pub accepted-add : first_no (move_asks p i) ≡ 0 → open_number new ≡ 0 → name_allowed h.K key ≡ true
      → add_number new key (bytes_of t) (move_mode t) ≡ 0
  accepted-add z e a = sym (move-add (accepted-sound z) (accepted-new z) e a) ∙ z

  pub moved-old : first_no (move_asks p i) ≡ 0 → open_number old ≡ 0 → i < g.N → Again old (moved_over p i).old
  unfolding moved_over
  moved-old z e l = deleted-again old (opened-facts old e) i l (and_left (message_sound g old o) _ (accepted-sound z))

  pub moved_new : first_no (move_asks p i) ≡ 0 → open_number new ≡ 0 → name_allowed h.K key ≡ true
      → Again new (moved_over p i).new
  unfolding moved_over move_key move_text
  moved_new z e a = added-again new key (bytes_of t) (move_mode t) e (accepted-add z e a)

-- the key of a taken slot is a name in the other image too
pub taken-name : (old new : Bytes) (i : ℕ) → open_number old ≡ 0 → i < (layout_of old).N
    → taken (layout_of old) old i ≡ true → (layout_of old).K ≡ (layout_of new).K
    → name_allowed (layout_of new).K (key_of (layout_of old) (slot (layout_of old) old i)) ≡ true
unfolding name_allowed taken vacant
taken-name old new i z l t e =
    and-true _ _
    (eq-eqb _ _ (length-key_of (layout_of old) _
    (length-slot (layout_of old) old (opened-room old (opened-facts old z)) i l) ∙ e)) t
