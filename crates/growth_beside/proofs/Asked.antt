-- The call's own questions with both images' numbers, as its code comes to them.
--     asked-14, asked-exhausted, asked-full, asked-bare, asked-fresh      of a name in neither image
--     asked-9, asked-11, asked-renewed      of a point in the new image
-- Assumes nothing.
use mathlib.Core.Path.{◌≡◌, refl, sym, ap, ◌∙◌, subst}
use Prim.Native.Nat.{ℕ, ◌+◌, ◌≤◌, ◌<◌}
use native.Mathlib.Omega.{arith}
use native.Mathlib.Nat.{add-zero}
use mathlib.Core.Bool.{Bool, true, false, not, ◌&&◌}
use mathlib.Core.List.{[], append-nil}
use mathlib.Core.Option.{some}
use lib.ListN.{length}
use lib.Dec.{eqb, leb, ltb}
use borrow.Author.Tests.{eq-eqb, ne_eqb, le-ltb, lt-ltb}
use denote.Enum.Declared.{tag_of}
use Rattle.spec_file.specs.Bytes.{Bytes}
use Rattle.spec_file.specs.Limits.{points_field, free_field}
use Rattle.spec_file.specs.Image.{field, Layout, layout_of, slot, offset_of}
use Rattle.spec_file.specs.Search.{Probe, met, empty, exhausted, search, is_met, is_empty}
use Rattle.spec_file.specs.Messages.{shown, bytes_of, shown_length, held, is_active, retire, fresh_text, renewed_text}
use Rattle.spec_file.specs.Questions.{first_no, mode_known, slot_to_take, message_sound}
use Rattle.spec_moves.specs.Moves.{Pair, active_space}
use Rattle.spec_growth.specs.Growth.{both_points, reckoned_place, beside_asks, own_asks}
use Rattle.law_file.proofs.Tests.{by_bool, by-eq}
use Rattle.law_file.proofs.Texts.{fresh-none, fresh-some, by_mode, replaced-none, replaced-some, appended-none, appended-some, withdrawn-none}
use Rattle.law_file.proofs.Stretch.{none-sound}
use Rattle.law_moves.proofs.Beside.{room_number, room-none, beside-14, beside-9, beside-11, beside-renewed, beside-10, beside-fresh}
use Rattle.header_layout.specs.Shapes.{Open}
use Rattle.header_layout.specs.declared.shape.Shape.{Shape}
use Rattle.call_add_present.proofs.Shown.{length-appended}
use Rattle.table_search.specs.declared.Found.{Found}
use Rattle.table_search.specs.declared.Found.TheVariants.{Met, Empty, Exhausted}
use Rattle.table_search.specs.Probes.{probe_of}
use Rattle.table_search.specs.contracts.Found.{the_type}
use Rattle.growth_beside.specs.Rooms.{place_of, room_at, Besides, renewed_number}

-- the variant's number is 1
pub only-empty : (f : Found) → ◌≡◌ {A = ℕ} (tag_of the_type f) 1 → (i : ℕ) × (probe_of f ≡ empty i)
unfolding probe_of
only-empty (Met s) h = absurd (let z : ◌≡◌ {A = ℕ} 0 1 = h in omega arith)
only-empty (Empty s) h = (s.0, refl)
only-empty Exhausted h = absurd (let z : ◌≡◌ {A = ℕ} 2 1 = h in omega arith)

-- no message is sound
pub zero-sound : (g : Layout) (img : Bytes) (o : ℕ) → o ≡ 0 → message_sound g img o ≡ true
zero-sound g img o z = rw z (none-sound g img)

-- how long the text is that a sound offset shows
pub shown-size : {img : Bytes} {s : Shape} → Open img s → (o : ℕ) → message_sound (layout_of img) img o ≡ true
    → length (bytes_of (shown (layout_of img) img o)) ≡ shown_length (layout_of img) img o
shown-size {img} open₀ o m =
    let t : Bytes = bytes_of (shown (layout_of img) img o) in
    ap length (sym (append-nil t)) ∙ length-appended open₀ o m [] ∙ add-zero (shown_length (layout_of img) img o)

module _ (old new : Bytes) where
  abbrev p : Pair
  p = record { old = old; new = new }

  abbrev h : Layout
  h = layout_of new

  abbrev P : ℕ
  P = both_points p

  abbrev Q : ℕ
  Q = reckoned_place p

  -- no point is moved
  place_none : (named : ℕ) → named ≡ 0 → place_of old new named 0 ≡ Q
  unfolding reckoned_place retire is_active
  place_none named z = rw z (ap (λ (n : ℕ). n + active_space old) (add-zero (field new free_field)))

  module _ (m mode : ℕ) where
    pub asked-14 : (s : Probe) → is_met s ≡ false → mode ≡ 4 → Besides old new s m mode 14
    asked-14 s n e = record { number = λ bytes l. sym (beside-14 P Q h new bytes mode s n (eq-eqb mode 4 e)) }

    pub asked-exhausted : (s : Probe) → (mode ≡ 4 → ⊥) → s ≡ exhausted → Besides old new s m mode 10
    unfolding slot_to_take is_met is_empty
    asked-exhausted s n e =
        subst (λ (t : Probe). Besides old new t m mode 10) (sym e)
        (record { number = λ bytes l. sym (beside-10 P Q h new bytes mode exhausted refl (ne_eqb mode 4 n) refl) })

    module _ (s : Probe) (n : mode ≡ 4 → ⊥) (i : ℕ) (e : s ≡ empty i) (points : ℕ)
        (is : points ≡ field old points_field + field new points_field) where
      at-empty : (r : ℕ) → Besides old new (empty i) m mode r → Besides old new s m mode r
      at-empty r = subst (λ (t : Probe). Besides old new t m mode r) (sym e)

      pub asked-full : h.N ≤ points → Besides old new s m mode 10
      unfolding slot_to_take is_met is_empty both_points
      asked-full l =
          at-empty 10
          (record {
            number =
                λ bytes k.
                sym (beside-10 P Q h new bytes mode (empty i) refl (ne_eqb mode 4 n)
                (le-ltb P h.N (omega (arith, is, l))));
          })

      module _ (l : points < h.N) where
        fresh : (r : ℕ) → ((bytes : Bytes) → length bytes ≡ m → r ≡ room_number Q h (length new) (fresh_text bytes mode))
            → Besides old new s m mode r
        unfolding both_points
        fresh r f =
            at-empty r
            (record {
              number =
                  λ bytes k.
                  f bytes k
                  ∙ sym (beside-fresh P Q h new bytes mode i (ne_eqb mode 4 n)
                  (lt-ltb P h.N (omega (arith, is, l))));
            })

        pub asked-bare : (eqb mode 3 && eqb m 0) ≡ true → Besides old new s m mode 0
        asked-bare b =
            fresh 0
            (λ bytes k.
            sym (ap (room_number Q h (length new)) (fresh-none bytes mode (ap (λ (x : ℕ). eqb mode 3 && eqb x 0) k ∙ b))
            ∙ room-none Q h (length new)))

        pub asked-fresh : (eqb mode 3 && eqb m 0) ≡ false → (named : ℕ) → named ≡ 0 → (r : ℕ)
            → ((t : Bytes) → length t ≡ m → r ≡ room_at (place_of old new named 0) h (length new) (some t))
            → Besides old new s m mode r
        asked-fresh b named z r f =
            fresh r
            (λ bytes k.
            f bytes k
            ∙ ap (λ (q : ℕ). room_at q h (length new) (some bytes)) (place_none named z)
            ∙ ap (room_number Q h (length new))
            (sym (fresh-some bytes mode (ap (λ (x : ℕ). eqb mode 3 && eqb x 0) k ∙ b))))

    -- ---- a point of the new image

    module _ (i : ℕ) where
      abbrev at : ℕ
      at = offset_of h (slot h new i)

      pub asked-9 : mode ≡ 1 → Besides old new (met i) m mode 9
      asked-9 e = record { number = λ bytes l. sym (beside-9 P Q h new bytes mode i (eq-eqb mode 1 e)) }

      module _ (n : mode ≡ 1 → ⊥) (o : ℕ) (is : o ≡ at) where
        pub asked-11 : message_sound h new o ≡ false → Besides old new (met i) m mode 11
        asked-11 s =
            record {
              number =
                  λ bytes l.
                  sym (beside-11 P Q h new bytes mode i (ne_eqb mode 1 n)
                  (ap (message_sound h new) (sym is) ∙ s));
            }

        renewed-is : (bytes : Bytes) → mode_known mode ≡ true
            → room_number Q h (length new) (renewed_text h new at bytes mode)
            ≡ renewed_number Q h (length new) (not (eqb at 0) && leb (length bytes) (held h new at))
            (bytes_of (shown h new at)) bytes mode
        renewed-is bytes k =
            let none₀ = room-none Q h (length new) in
            let held? = not (eqb at 0) && leb (length bytes) (held h new at) in
            by_mode mode k
            (λ e. absurd (n e))
            (λ e. rw e (by_bool held?
            (λ y. rw y (ap (room_number Q h (length new)) (replaced-none h new i at [] bytes y) ∙ none₀))
            (λ f. rw f (ap (room_number Q h (length new)) (replaced-some h new i at [] bytes f)))))
            (λ e. rw e (by-eq (length bytes) 0
            (λ z. rw (eq-eqb (length bytes) 0 z)
            (ap (room_number Q h (length new)) (appended-none h new i at [] bytes z) ∙ none₀))
            (λ z. rw (ne_eqb (length bytes) 0 z)
            (ap (room_number Q h (length new)) (appended-some h new i at [] bytes z)))))
            (λ e. rw e (ap (room_number Q h (length new)) (withdrawn-none h new i at [] bytes) ∙ none₀))

        pub asked-renewed : mode_known mode ≡ true → message_sound h new o ≡ true → (named : ℕ) → named ≡ 0
            → (fits : Bool) (len r : ℕ) → fits ≡ (not (eqb o 0) && leb m (held h new o))
            → length (bytes_of (shown h new o)) ≡ len
            → ((text bytes : Bytes) → length text ≡ len → length bytes ≡ m
            → r ≡ renewed_number (place_of old new named 0) h (length new) fits text bytes mode)
            → Besides old new (met i) m mode r
        asked-renewed k s named z fits len r f t w =
            record {
              number =
                  λ bytes l.
                  let fits-is : fits ≡ (not (eqb at 0) && leb (length bytes) (held h new at)) =
                  f
                  ∙ ap (λ (x : ℕ). not (eqb x 0) && leb m (held h new x)) is
                  ∙ ap (λ (x : ℕ). not (eqb at 0) && leb x (held h new at)) (sym l) in
                  w (bytes_of (shown h new o)) bytes t l
                  ∙ ap (λ (q : ℕ). renewed_number q h (length new) fits (bytes_of (shown h new o)) bytes mode)
                  (place_none named z)
                  ∙ ap (λ (b : Bool). renewed_number Q h (length new) b (bytes_of (shown h new o)) bytes mode) fits-is
                  ∙ ap (λ (x : ℕ). renewed_number Q h (length new)
                  (not (eqb at 0) && leb (length bytes) (held h new at))
                  (bytes_of (shown h new x)) bytes mode) is
                  ∙ sym (renewed-is bytes k)
                  ∙ sym (beside-renewed P Q h new bytes mode i (ne_eqb mode 1 n)
                  (ap (message_sound h new) (sym is) ∙ s));
            }

    -- ---- both, by the search in the new image
    pub own_is : (key : Bytes) (s : Probe) → s ≡ search h new key → (r : ℕ) → Besides old new s m mode r
        → (bytes : Bytes) → length bytes ≡ m → r ≡ first_no (own_asks p key bytes mode)
    unfolding own_asks
    own_is key s e r w bytes l =
        w.number bytes l ∙ ap (λ (t : Probe). first_no (beside_asks P Q h new t bytes mode)) e
