-- The questions of a call on a pair in their order, as the code comes to them.
--     paired          what is known once the pair's questions and 7 are answered yes
--     named-slot, named-at      and where the name stands in the old image
--     Passed, passed  all that an accepted call's questions say
--     add-stop, add-7, add-8, add-on; delete-stop, ..; store-stop, ..     each call's number
--     remove-met, remove-other       delete's, by the search in the old image
-- Assumes nothing.
use mathlib.Core.Path.{◌≡◌, refl, sym, ap, ◌∙◌, subst}
use Prim.Native.Nat.{ℕ, ◌+◌, ◌<◌}
use native.Mathlib.Omega.{arith}
use mathlib.Core.Bool.{Bool, true, false}
use mathlib.Core.List.{List, [], ◌∷◌}
use lib.ListN.{length}
use borrow.Author.Tests.{le-leb, lt-leb}
use Rattle.spec_file.specs.Bytes.{Bytes}
use Rattle.spec_file.specs.Limits.{points_field}
use Rattle.spec_file.specs.Image.{field, Layout, layout_of, slot, offset_of}
use Rattle.spec_file.specs.Search.{Probe, met, search, is_met}
use Rattle.spec_file.specs.Questions.{Question, ask, first_no, name_allowed, mode_known, named, message_sound, some_point, removed_asks}
use Rattle.spec_columns.specs.Columns.{whole_records, columns}
use Rattle.law_columns.proofs.Turned.{length-stored}
use Rattle.law_file.proofs.Tests.{by-eq, zero-yes, zero-no}
use Rattle.law_file.proofs.Opened.{first_no-none, first_no-yes, first_no-no, opened-facts}
use Rattle.law_file.proofs.Probe.{search-met}
use Rattle.law_file.proofs.Outcomes.{removed-14, removed-11, removed-0}
use Rattle.spec_moves.specs.Moves.{Pair, move_key, move_asks, moved_over}
use Rattle.spec_growth.specs.Growth.{pair_number, old_probe, named_number, ready, own_asks, first_of, in_turn, grow_add_number, grow_delete_number, grow_store_number}
use Rattle.growth_open.proofs.Pairs.{PairOpen, pair-open, pair-on, pair-stop}
use Rattle.law_moves.proofs.Foreseen.{Arrived}
use Rattle.law_moves.proofs.Named.{ends, named-arrived}
use Rattle.law_moves.proofs.Accepted.{delete-foreseen}
use Rattle.header_layout.specs.Shapes.{Open, shape_of}
use Rattle.header_layout.specs.declared.shape.Shape.{Shape}
use Rattle.header_layout.specs.declared.places.Slot.{Slot}
use Rattle.table_search.specs.declared.Found.{Found}
use Rattle.table_search.specs.declared.Found.TheVariants.{Met}
use Rattle.table_search.specs.Probes.{probe_of, Within, MetKey}
use Rattle.table_search.proofs.Taken.{met-within, met-key, search-within, search-key}
use Rattle.table_search.proofs.Headers.{layout-key, layout-slots}
use Rattle.growth_named.specs.Names.{pair_of, Paired, Named, Points}
use Rattle.growth_named.proofs.Naming.{key-length, key-nonzero, met-number, met-ready, other-number, other-ready}
use Rattle.growth_number.specs.Numbers.{remove_number}

module _ (old new key : Bytes) where
  abbrev p : Pair
  p = pair_of old new

  -- ---- what is known behind the pair's questions and 7
  pub paired : pair_number p [] ≡ 0 → (s l : Shape) → s ≡ shape_of old → l ≡ shape_of new
      → name_allowed s.keylen key ≡ true → Paired old new key s l
  paired z s l e f a =
      let o = pair-open p z in
      record {
        first = record { accepted = o.first; shape = e };
        second = record { accepted = o.second; shape = f };
        keys = sym (layout-key old s e) ∙ sym o.key-is ∙ layout-key new l f;
        name = a;
      }

  pub named-slot : {s l : Shape} → Paired old new key s l → (f : Found) → probe_of f ≡ search (layout_of old) old key
      → (t : Slot) → f ≡ Met t → Named old new key s l t.0
  unfolding move_key
  named-slot {s} {l} w f e t m =
      record {
        pair = w;
        inside = met-within m (subst (Within s.slots) (sym e) (search-within old key s w.first));
        key-is = met-key old m (subst (MetKey old key) (sym e) (search-key old key s w.first));
      }

  -- the same, by the search
  pub named-at : {s l : Shape} → Paired old new key s l → (i : ℕ) → search (layout_of old) old key ≡ met i
      → Named old new key s l i
  unfolding move_key
  named-at {s} {l} w i e =
      let o = opened-facts old w.first.accepted in
      let some' : 0 < (layout_of old).N = unfold layout_of in omega (arith, o.slots-low) in
      let m = search-met (layout_of old) old key some' i e in
      record {
        pair = w;
        inside = omega (arith, m.0, layout-slots old s w.first.shape);
        key-is = m.1;
      }

  -- ---- the order of the questions
  module _ (first own : List Question) where
    abbrev turn : ℕ
    turn = in_turn p first key own

    turn-stop : (pair_number p [] ≡ 0 → ⊥) → turn ≡ pair_number p []
    unfolding in_turn first_of
    turn-stop z =
        zero-no (pair_number p first) _ _ (λ y. z (sym (pair-stop p z first) ∙ y)) ∙ pair-stop p z first

    turn-first : pair_number p [] ≡ 0 → (n : ℕ) → first_no first ≡ n → (n ≡ 0 → ⊥) → turn ≡ n
    unfolding in_turn first_of
    turn-first z n e y =
        let is = pair-on p z first ∙ e in
        zero-no (pair_number p first) _ _ (λ x. y (sym is ∙ x)) ∙ is

    turn_on : pair_number p [] ≡ 0 → first_no first ≡ 0
        → turn ≡ first_of (named_number p (old_probe p key)) (first_no own)
    unfolding in_turn first_of
    turn_on z e = zero-yes (pair_number p first) _ _ (pair-on p z first ∙ e)

  -- an accepted call: every question was answered yes
  both_zero : (a b : ℕ) → first_of a b ≡ 0 → (a ≡ 0) × (b ≡ 0)
  unfolding first_of
  both_zero a b e =
      by-eq a 0
      (λ z. (z, sym (zero-yes a b a z) ∙ e))
      (λ z. absurd (z (sym (zero-no a b a z) ∙ e)))

  first-zero : (first : List Question) → pair_number p first ≡ 0 → (pair_number p [] ≡ 0) × (first_no first ≡ 0)
  first-zero first e =
      by-eq (pair_number p []) 0
      (λ z. (z, sym (pair-on p z first) ∙ e))
      (λ z. absurd (z (sym (pair-stop p z first) ∙ e)))

  pub record Passed (first own : List Question) : Type 0 where
    pub pair-yes : pair_number p [] ≡ 0
    pub first-yes : first_no first ≡ 0
    pub named-yes : named_number p (old_probe p key) ≡ 0
    pub own-yes : first_no own ≡ 0

  pub passed : (first own : List Question) → in_turn p first key own ≡ 0 → Passed first own
  unfolding in_turn
  passed first own e =
      let a = both_zero (pair_number p first) _ e in
      let b = first-zero first a.0 in
      let c = both_zero (named_number p (old_probe p key)) _ a.1 in
      record { pair-yes = b.0; first-yes = b.1; named-yes = c.0; own-yes = c.1 }

  -- ---- add
  module _ (bytes : Bytes) (mode : ℕ) where
    pub add-stop : (pair_number p [] ≡ 0 → ⊥) → grow_add_number p key bytes mode ≡ pair_number p []
    unfolding grow_add_number
    add-stop z = turn-stop _ _ z

    module _ (z : pair_number p [] ≡ 0) where
      pub add-7 : name_allowed (layout_of old).K key ≡ false → grow_add_number p key bytes mode ≡ 7
      unfolding grow_add_number named
      add-7 n = turn-first _ _ z 7 (first_no-no 7 _ _ n) (λ y. omega arith)

      module _ (a : name_allowed (layout_of old).K key ≡ true) where
        pub add-8 : mode_known mode ≡ false → grow_add_number p key bytes mode ≡ 8
        unfolding grow_add_number named
        add-8 n = turn-first _ _ z 8 (first_no-yes 7 _ _ a ∙ first_no-no 8 _ _ n) (λ y. omega arith)

        pub add-on : mode_known mode ≡ true → (r : ℕ) → Points old new key (length bytes) mode r
            → r ≡ grow_add_number p key bytes mode
        unfolding grow_add_number named
        add-on k r w =
            w.number bytes refl
            ∙ sym (turn_on _ _ z (first_no-yes 7 _ _ a ∙ first_no-yes 8 _ [] k ∙ first_no-none))

  -- ---- storing
  module _ (recs : Bytes) (W : ℕ) where
    pub store-stop : (pair_number p [] ≡ 0 → ⊥) → grow_store_number p key recs W ≡ pair_number p []
    unfolding grow_store_number
    store-stop z = turn-stop _ _ z

    module _ (z : pair_number p [] ≡ 0) where
      pub store-7 : name_allowed (layout_of old).K key ≡ false → grow_store_number p key recs W ≡ 7
      unfolding grow_store_number
      store-7 n = turn-first _ _ z 7 (first_no-no 7 _ _ n) (λ y. omega arith)

      module _ (a : name_allowed (layout_of old).K key ≡ true) where
        pub store-19 : whole_records W (length recs) ≡ false → grow_store_number p key recs W ≡ 19
        unfolding grow_store_number
        store-19 n = turn-first _ _ z 19 (first_no-yes 7 _ _ a ∙ first_no-no 19 _ _ n) (λ y. omega arith)

        pub store-on : whole_records W (length recs) ≡ true → (r : ℕ) → Points old new key (1 + length recs) 2 r
            → r ≡ grow_store_number p key recs W
        unfolding grow_store_number
        store-on k r w =
            w.number (columns W recs) (length-stored W recs k)
            ∙ sym (turn_on _ _ z (first_no-yes 7 _ _ a ∙ first_no-yes 19 _ [] k ∙ first_no-none))

  -- ---- delete
  pub delete-stop : (pair_number p [] ≡ 0 → ⊥) → grow_delete_number p key ≡ pair_number p []
  unfolding grow_delete_number
  delete-stop z = turn-stop _ _ z

  module _ (z : pair_number p [] ≡ 0) where
    pub delete-7 : name_allowed (layout_of old).K key ≡ false → grow_delete_number p key ≡ 7
    unfolding grow_delete_number
    delete-7 n = turn-first _ _ z 7 (first_no-no 7 _ _ n) (λ y. omega arith)

    pub delete-on : name_allowed (layout_of old).K key ≡ true → grow_delete_number p key ≡ remove_number old new key
    unfolding grow_delete_number
    delete-on a = turn_on _ _ z (first_no-yes 7 _ [] a ∙ first_no-none)

  -- delete's own questions, put to a new image
  abbrev own : Bytes → ℕ
  own x = first_no (removed_asks (layout_of x) x (search (layout_of x) x key))

  pub remove-other : is_met (search (layout_of old) old key) ≡ false → remove_number old new key ≡ own new
  unfolding first_of
  remove-other n =
      zero-yes (named_number p (old_probe p key)) _ _ (other-number old new key n)
      ∙ ap (λ (q : Pair). own q.new) (other-ready old new key n)

  -- a point that was moved can be deleted
  pub remove-met : {s l : Shape} (i : ℕ) → search (layout_of old) old key ≡ met i → Named old new key s l i
      → remove_number old new key ≡ first_no (move_asks p i)
  unfolding first_of
  remove-met i e w =
      by-eq (first_no (move_asks p i)) 0
      (λ z. zero-yes (named_number p (old_probe p key)) _ _ (met-number old new key i e ∙ z)
      ∙ ap (λ (q : Pair). own q.new) (met-ready old new key i e)
      ∙ accepted z
      ∙ sym z)
      (λ z. zero-no (named_number p (old_probe p key)) _ _ (λ y. z (sym (met-number old new key i e) ∙ y))
      ∙ met-number old new key i e)
    where
      accepted : first_no (move_asks p i) ≡ 0 → own (moved_over p i).new ≡ 0
      accepted z =
          let a = named-arrived old new i (opened-facts new w.pair.second.accepted) key w.key-is
          (key-length w.pair) (key-nonzero w.pair) z in
          ap (λ (h : Layout). first_no (removed_asks h (moved_over p i).new (search h (moved_over p i).new key)))
          a.layout
          ∙ delete-foreseen (layout_of new) new (moved_over p i).new key _ _ a (omega (arith, a.points))

-- ---- delete's own questions on one image
module _ (new key : Bytes) where
  abbrev asked : ℕ
  asked = first_no (removed_asks (layout_of new) new (search (layout_of new) new key))

  at_slot : (i : ℕ) → search (layout_of new) new key ≡ met i → asked ≡ first_no (removed_asks (layout_of new) new (met i))
  at_slot i e = ap (λ (s : Probe). first_no (removed_asks (layout_of new) new s)) e

  pub asked-14 : is_met (search (layout_of new) new key) ≡ false → asked ≡ 14
  asked-14 n = removed-14 (layout_of new) new _ n

  module _ (i : ℕ) (e : search (layout_of new) new key ≡ met i) (o : ℕ)
      (at : o ≡ offset_of (layout_of new) (slot (layout_of new) new i)) where
    pub asked-message : message_sound (layout_of new) new o ≡ false → asked ≡ 11
    asked-message s =
        at_slot i e ∙ removed-11 (layout_of new) new i (rw (ap (message_sound (layout_of new) new) (sym at) ∙ s) refl)

    module _ (s : message_sound (layout_of new) new o ≡ true) where
      there : message_sound (layout_of new) new (offset_of (layout_of new) (slot (layout_of new) new i)) ≡ true
      there = ap (message_sound (layout_of new) new) (sym at) ∙ s

      pub asked-points : field new points_field ≡ 0 → asked ≡ 11
      unfolding some_point
      asked-points z =
          at_slot i e
          ∙ removed-11 (layout_of new) new i (rw (there, lt-leb 1 (field new points_field) (omega (arith, z))) refl)

      pub asked-0 : (field new points_field ≡ 0 → ⊥) → asked ≡ 0
      unfolding some_point
      asked-0 z =
          at_slot i e
          ∙ removed-0 (layout_of new) new i there (le-leb 1 (field new points_field) (omega (arith, z)))

-- storing's mode is one
pub mode-two : mode_known 2 ≡ true
unfolding mode_known
mode-two = refl
