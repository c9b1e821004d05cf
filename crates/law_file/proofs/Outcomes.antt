-- What a call answers, case by case, on any image whose header is accepted; and the image that it leaves.
--     lookup-7, lookup-14, lookup-11, lookup-0, and so for delete; add-7 to add-11, add-14 for mode 4
--     add-renewed, add-fresh      add's number where 12 and 13 decide
--     room-none    12 and 13 where nothing is placed
--     offset-refused, offset-met, lookup-shows, lookup-refused      lookup's answer
--     add-refused, delete-refused, delete-accepted      the image afterwards
-- Assumes nothing.
use mathlib.Core.Path.{◌≡◌, refl, ap, ◌∙◌}
use Prim.Native.Nat.{ℕ, ◌+◌}
use native.Mathlib.Omega.{arith}
use mathlib.Core.Bool.{Bool, true, false, cond, not, ◌&&◌}
use mathlib.Core.List.{[], ◌∷◌}
use mathlib.Core.Option.{Option, none}
use lib.ListN.{length}
use lib.Dec.{eqb, ltb}
use borrow.Author.Tests.{ne_eqb}
use Rattle.spec_file.specs.Bytes.{Bytes, part}
use Rattle.spec_file.specs.Limits.{points_field, free_field}
use Rattle.spec_file.specs.Image.{field, Layout, layout_of, slot, offset_of}
use Rattle.spec_file.specs.Search.{Probe, met, empty, exhausted, search, is_met, is_empty, slot_of}
use Rattle.spec_file.specs.Messages.{head_size, length_at, text_at, is_active, shown, bytes_of, held, fresh_text, renewed_text, placed_text}
use Rattle.spec_file.specs.Delete.{deleted, deleted_at}
use Rattle.spec_file.specs.Questions.{ask, first_no, name_allowed, mode_known, met_in_mode4, new_in_mode1, slot_to_take, message_sound, met_message_sound, some_point, length_allowed, space_left, named, point_asks, add_asks, shown_asks, removed_asks, lookup_asks, delete_asks, open_number, add_number, delete_number, lookup_number, place_number}
use Rattle.spec_file.specs.Calls.{plain, settled, add, delete, lookup, lookup_offset, lookup_start, lookup_length, lookup_text}
use Rattle.law_file.proofs.Tests.{by_bool, and-true, zero-yes, zero-no}
use Rattle.law_file.proofs.Bytes.{part_length}
use Rattle.law_file.proofs.Opened.{first_no-none, first_no-yes, first_no-no, first_no-opened, first_no-refused, opened-facts}
use Rattle.law_file.proofs.Effects.{message-end, active-some}

-- ---- the image by the number

pub settled-yes : (n : ℕ) (img x : Bytes) → n ≡ 0 → settled n img x ≡ x
unfolding settled
settled-yes n img x h = zero-yes n x img h

pub settled-no : (n : ℕ) (img x : Bytes) → (n ≡ 0 → ⊥) → settled n img x ≡ img
unfolding settled
settled-no n img x h = zero-no n x img h

-- ---- 12 and 13, of the text to be placed

pub room-none : (g : Layout) (img : Bytes) → place_number g img none ≡ 0
unfolding length_allowed space_left
room-none g img = first_no-yes 12 true _ refl ∙ first_no-yes 13 true [] refl ∙ first_no-none

-- ---- the questions behind the search, by how it ended

module _ (g : Layout) (img : Bytes) where
  -- lookup's and delete's
  pub shown-14 : (s : Probe) → is_met s ≡ false → first_no (shown_asks g img s) ≡ 14
  shown-14 s h = first_no-no 14 _ _ h

  pub removed-14 : (s : Probe) → is_met s ≡ false → first_no (removed_asks g img s) ≡ 14
  removed-14 s h = first_no-no 14 _ _ h

  module _ (i : ℕ) where
    abbrev sound? : Bool
    sound? = message_sound g img (offset_of g (slot g img i))

    pub shown-11 : sound? ≡ false → first_no (shown_asks g img (met i)) ≡ 11
    unfolding is_met met_message_sound
    shown-11 h = first_no-yes 14 true _ refl ∙ first_no-no 11 _ [] h

    pub shown-0 : sound? ≡ true → first_no (shown_asks g img (met i)) ≡ 0
    unfolding is_met met_message_sound
    shown-0 h = first_no-yes 14 true _ refl ∙ first_no-yes 11 _ [] h ∙ first_no-none

    pub removed-11 : (sound? && some_point img) ≡ false → first_no (removed_asks g img (met i)) ≡ 11
    unfolding is_met met_message_sound
    removed-11 h = first_no-yes 14 true _ refl ∙ first_no-no 11 _ [] h

    pub removed-0 : sound? ≡ true → some_point img ≡ true → first_no (removed_asks g img (met i)) ≡ 0
    unfolding is_met met_message_sound
    removed-0 h k = first_no-yes 14 true _ refl ∙ first_no-yes 11 _ [] (and-true _ _ h k) ∙ first_no-none

  -- add's, 14 for mode 4, then 9 to 13
  module _ (bytes : Bytes) (mode : ℕ) where
    -- of a key that is absent, in mode 4 and in the others
    pub point-14 : (s : Probe) → is_met s ≡ false → eqb mode 4 ≡ true → first_no (point_asks g img s bytes mode) ≡ 14
    unfolding point_asks met_in_mode4
    point-14 s e h = first_no-no 14 _ _ (rw (e, h) refl)

    other-mode : (s : Probe) → eqb mode 4 ≡ false → met_in_mode4 s mode ≡ true
    unfolding met_in_mode4
    other-mode s h = rw h refl

    module _ (i : ℕ) where
      abbrev renewal : Option Bytes
      renewal = renewed_text g img (offset_of g (slot g img i)) bytes mode

      met-14 : met_in_mode4 (met i) mode ≡ true
      unfolding met_in_mode4 is_met
      met-14 = by_bool (eqb mode 4) (λ y. rw y refl) (λ n. rw n refl)

      pub point-9 : eqb mode 1 ≡ true → first_no (point_asks g img (met i) bytes mode) ≡ 9
      unfolding point_asks new_in_mode1 is_met
      point-9 h = first_no-yes 14 _ _ met-14 ∙ first_no-no 9 _ _ (ap (λ (t : Bool). not (t && true)) h)

      present : eqb mode 1 ≡ false → first_no (point_asks g img (met i) bytes mode)
          ≡ first_no (ask 11 (message_sound g img (offset_of g (slot g img i))) ∷ ask 12 (length_allowed g renewal)
          ∷ ask 13 (space_left g (field img free_field) (length img) renewal) ∷ [])
      unfolding point_asks new_in_mode1 slot_to_take is_met met_message_sound placed_text
      present h =
          first_no-yes 14 _ _ met-14
          ∙ first_no-yes 9 _ _ (ap (λ (t : Bool). not (t && true)) h)
          ∙ first_no-yes 10 _ _ refl

      pub point-11 : eqb mode 1 ≡ false → message_sound g img (offset_of g (slot g img i)) ≡ false
          → first_no (point_asks g img (met i) bytes mode) ≡ 11
      point-11 h s = present h ∙ first_no-no 11 _ _ s

      pub point-renewed : eqb mode 1 ≡ false → message_sound g img (offset_of g (slot g img i)) ≡ true
          → first_no (point_asks g img (met i) bytes mode) ≡ place_number g img renewal
      point-renewed h s = present h ∙ first_no-yes 11 _ _ s

    absent-9 : (s : Probe) → is_met s ≡ false → new_in_mode1 s mode ≡ true
    unfolding new_in_mode1
    absent-9 s e = rw e (by_bool (eqb mode 1) (λ y. rw y refl) (λ n. rw n refl))

    pub point-10 : (s : Probe) → is_met s ≡ false → eqb mode 4 ≡ false
        → slot_to_take (field img points_field) g.N s ≡ false
        → first_no (point_asks g img s bytes mode) ≡ 10
    unfolding point_asks
    point-10 s e m h =
        first_no-yes 14 _ _ (other-mode s m) ∙ first_no-yes 9 _ _ (absent-9 s e) ∙ first_no-no 10 _ _ h

    pub point-10-exhausted : eqb mode 4 ≡ false → first_no (point_asks g img exhausted bytes mode) ≡ 10
    unfolding is_met is_empty slot_to_take
    point-10-exhausted m = point-10 exhausted refl m refl

    pub point-10-full : (i : ℕ) → eqb mode 4 ≡ false → ltb (field img points_field) g.N ≡ false
        → first_no (point_asks g img (empty i) bytes mode) ≡ 10
    unfolding is_met is_empty slot_to_take
    point-10-full i m h = point-10 (empty i) refl m h

    pub point-fresh : (i : ℕ) → eqb mode 4 ≡ false → ltb (field img points_field) g.N ≡ true
        → first_no (point_asks g img (empty i) bytes mode) ≡ place_number g img (fresh_text bytes mode)
    unfolding point_asks is_met is_empty slot_to_take met_message_sound placed_text
    point-fresh i m h =
        first_no-yes 14 _ _ (other-mode (empty i) m)
        ∙ first_no-yes 9 _ _ (absent-9 (empty i) refl)
        ∙ first_no-yes 10 _ _ h
        ∙ first_no-yes 11 true _ refl

-- ---- questions 1, 5 and 6 come first

module _ (img key : Bytes) (z : open_number img ≡ 0 → ⊥) where
  pub lookup-closed : lookup_number img key ≡ open_number img
  unfolding lookup_number
  lookup-closed = first_no-refused img _ z

  pub delete-closed : delete_number img key ≡ open_number img
  unfolding delete_number
  delete-closed = first_no-refused img _ z

  pub add-closed : (bytes : Bytes) (mode : ℕ) → add_number img key bytes mode ≡ open_number img
  unfolding add_number
  add-closed bytes mode = first_no-refused img _ z

-- ---- the offset of the message that lookup shows: 0 where none is shown

module _ (img key : Bytes) where
  pub offset-refused : (lookup_number img key ≡ 0 → ⊥) → lookup_offset img key ≡ 0
  unfolding lookup_offset
  offset-refused z = rw (ne_eqb (lookup_number img key) 0 z) refl

  pub offset-met : (i : ℕ) → search (layout_of img) img key ≡ met i → lookup_number img key ≡ 0
      → lookup_offset img key ≡ cond (is_active img (offset_of (layout_of img) (slot (layout_of img) img i)))
      (offset_of (layout_of img) (slot (layout_of img) img i)) 0
  unfolding lookup_offset slot_of
  offset-met i m z = rw (z, m) refl

module _ (img key : Bytes) (open₀ : open_number img ≡ 0) where
  abbrev g : Layout
  g = layout_of img

  abbrev found : Probe
  found = search g img key

  -- ---- lookup

  lookup-asks : lookup_number img key ≡ first_no (lookup_asks g img found key)
  unfolding lookup_number
  lookup-asks = first_no-opened img (lookup_asks g img found key) open₀

  pub lookup-7 : name_allowed g.K key ≡ false → lookup_number img key ≡ 7
  unfolding lookup_asks
  lookup-7 h = lookup-asks ∙ first_no-no 7 _ _ h

  pub lookup-14 : name_allowed g.K key ≡ true → is_met found ≡ false → lookup_number img key ≡ 14
  unfolding lookup_asks
  lookup-14 a h = lookup-asks ∙ first_no-yes 7 _ _ a ∙ first_no-no 14 _ _ h

  module _ (a : name_allowed g.K key ≡ true) (i : ℕ) (m : found ≡ met i) where
    lookup-met : lookup_number img key ≡ first_no (shown_asks g img (met i))
    unfolding lookup_asks
    lookup-met = lookup-asks ∙ first_no-yes 7 _ _ a ∙ ap (λ (s : Probe). first_no (shown_asks g img s)) m

    pub lookup-11 : message_sound g img (offset_of g (slot g img i)) ≡ false → lookup_number img key ≡ 11
    lookup-11 h = lookup-met ∙ shown-11 g img i h

    pub lookup-0 : message_sound g img (offset_of g (slot g img i)) ≡ true → lookup_number img key ≡ 0
    lookup-0 h = lookup-met ∙ shown-0 g img i h

    -- the answer: the text of the point's active message
    module _ (s : message_sound g img (offset_of g (slot g img i)) ≡ true) where
      abbrev at : ℕ
      at = offset_of g (slot g img i)

      offset-is : lookup_offset img key ≡ cond (is_active img at) at 0
      offset-is = offset-met img key i m (lookup-0 s)

      pub lookup-shows : (lookup img key).answer
          ≡ record { number = 0; amount = length (bytes_of (shown g img at)); text = shown g img at; epoch = 0 }
      unfolding lookup lookup_text lookup_length lookup_start held shown bytes_of text_at part
      lookup-shows =
          by_bool (is_active img at)
          (λ h.
          let z : at ≡ 0 → ⊥ = active-some img at h in
          let o = opened-facts img open₀ in
          let q : lookup_offset img key ≡ at = offset-is ∙ ap (λ (t : Bool). cond t at 0) h in
          let len : length (part img (at + head_size g) (length_at g img at)) ≡ length_at g img at =
          part_length img (at + head_size g) (length_at g img at)
          (omega (arith, message-end img o at s z, o.free-high)) in
          rw (lookup-0 s, q, ne_eqb at 0 z, h, len) refl)
          (λ h.
          let q : lookup_offset img key ≡ 0 = offset-is ∙ ap (λ (t : Bool). cond t at 0) h in
          rw (lookup-0 s, q, h) refl)

  -- ---- delete

  delete-asks : delete_number img key ≡ first_no (delete_asks g img found key)
  unfolding delete_number
  delete-asks = first_no-opened img (delete_asks g img found key) open₀

  pub delete-7 : name_allowed g.K key ≡ false → delete_number img key ≡ 7
  unfolding delete_asks
  delete-7 h = delete-asks ∙ first_no-no 7 _ _ h

  pub delete-14 : name_allowed g.K key ≡ true → is_met found ≡ false → delete_number img key ≡ 14
  unfolding delete_asks
  delete-14 a h = delete-asks ∙ first_no-yes 7 _ _ a ∙ first_no-no 14 _ _ h

  module _ (a : name_allowed g.K key ≡ true) (i : ℕ) (m : found ≡ met i) where
    delete-met : delete_number img key ≡ first_no (removed_asks g img (met i))
    unfolding delete_asks
    delete-met = delete-asks ∙ first_no-yes 7 _ _ a ∙ ap (λ (s : Probe). first_no (removed_asks g img s)) m

    pub delete-11 : (message_sound g img (offset_of g (slot g img i)) && some_point img) ≡ false
        → delete_number img key ≡ 11
    delete-11 h = delete-met ∙ removed-11 g img i h

    pub delete-0 : message_sound g img (offset_of g (slot g img i)) ≡ true → some_point img ≡ true
        → delete_number img key ≡ 0
    delete-0 h k = delete-met ∙ removed-0 g img i h k

    pub delete-accepted : delete_number img key ≡ 0 → (delete img key).after ≡ deleted_at g img i
    unfolding delete deleted
    delete-accepted z = settled-yes (delete_number img key) img _ z ∙ ap (deleted g img) m

  -- ---- add

  module _ (bytes : Bytes) (mode : ℕ) where
    add-asks : add_number img key bytes mode ≡ first_no (add_asks g img found key bytes mode)
    unfolding add_number
    add-asks = first_no-opened img (add_asks g img found key bytes mode) open₀

    pub add-7 : name_allowed g.K key ≡ false → add_number img key bytes mode ≡ 7
    unfolding add_asks named
    add-7 h = add-asks ∙ first_no-no 7 _ _ h

    pub add-8 : name_allowed g.K key ≡ true → mode_known mode ≡ false → add_number img key bytes mode ≡ 8
    unfolding add_asks named
    add-8 a h = add-asks ∙ first_no-yes 7 _ _ a ∙ first_no-no 8 _ _ h

    module _ (a : name_allowed g.K key ≡ true) (k : mode_known mode ≡ true) where
      pub add-point : add_number img key bytes mode ≡ first_no (point_asks g img found bytes mode)
      unfolding add_asks named
      add-point = add-asks ∙ first_no-yes 7 _ _ a ∙ first_no-yes 8 _ _ k

      ended : (s : Probe) → found ≡ s → add_number img key bytes mode ≡ first_no (point_asks g img s bytes mode)
      ended s m = add-point ∙ ap (λ (p : Probe). first_no (point_asks g img p bytes mode)) m

      -- a point that is present
      module _ (i : ℕ) (m : found ≡ met i) where
        pub add-9 : eqb mode 1 ≡ true → add_number img key bytes mode ≡ 9
        add-9 h = ended (met i) m ∙ point-9 g img bytes mode i h

        pub add-11 : eqb mode 1 ≡ false → message_sound g img (offset_of g (slot g img i)) ≡ false
            → add_number img key bytes mode ≡ 11
        add-11 h s = ended (met i) m ∙ point-11 g img bytes mode i h s

        pub add-renewed : eqb mode 1 ≡ false → message_sound g img (offset_of g (slot g img i)) ≡ true
            → add_number img key bytes mode
            ≡ place_number g img (renewed_text g img (offset_of g (slot g img i)) bytes mode)
        add-renewed h s = ended (met i) m ∙ point-renewed g img bytes mode i h s

      -- a point that is absent
      pub add-14 : is_met found ≡ false → eqb mode 4 ≡ true → add_number img key bytes mode ≡ 14
      add-14 e h = add-point ∙ point-14 g img bytes mode found e h

      module _ (other : eqb mode 4 ≡ false) where
        pub add-10-exhausted : found ≡ exhausted → add_number img key bytes mode ≡ 10
        add-10-exhausted m = ended exhausted m ∙ point-10-exhausted g img bytes mode other

        module _ (i : ℕ) (m : found ≡ empty i) where
          pub add-10-full : ltb (field img points_field) g.N ≡ false → add_number img key bytes mode ≡ 10
          add-10-full h = ended (empty i) m ∙ point-10-full g img bytes mode i other h

          pub add-fresh : ltb (field img points_field) g.N ≡ true
              → add_number img key bytes mode ≡ place_number g img (fresh_text bytes mode)
          add-fresh h = ended (empty i) m ∙ point-fresh g img bytes mode i other h

-- a refused lookup shows the image's first 0 bytes
pub lookup-refused : (img key : Bytes) → (lookup_number img key ≡ 0 → ⊥)
    → (lookup img key).answer ≡ plain (lookup_number img key)
unfolding lookup lookup_text lookup_length lookup_start lookup_offset plain held part
lookup-refused img key z = rw (ne_eqb (lookup_number img key) 0 z) refl

-- a refused call leaves the image
pub add-refused : (img key bytes : Bytes) (mode : ℕ) → (add_number img key bytes mode ≡ 0 → ⊥)
    → (add img key bytes mode).after ≡ img
unfolding add
add-refused img key bytes mode z = settled-no (add_number img key bytes mode) img _ z

pub delete-refused : (img key : Bytes) → (delete_number img key ≡ 0 → ⊥) → (delete img key).after ≡ img
unfolding delete
delete-refused img key z = settled-no (delete_number img key) img _ z
