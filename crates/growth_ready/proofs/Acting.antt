-- The writes of an accepted call on a pair, step by step.
--     ready-other, ready-met       both images after the named point's move
--     ready-old, ready-new         they are opened again, with the layouts that they had
--     add-accepted, add_left       the plain add on the new image is accepted, and what it leaves
--     delete-accepted, delete-left     the same of delete
--     moves-paired                 what the moves behind it ask
--     grown-add, grown-delete, grown-refused     what the call leaves
-- Assumes nothing.
use mathlib.Core.Path.{◌≡◌, refl, sym, ap, ap₂, ◌∙◌, subst}
use Prim.Native.Nat.{ℕ, ◌+◌, ◌≤◌, ◌<◌}
use native.Mathlib.Omega.{arith}
use mathlib.Core.Bool.{Bool, true, false, cond, ◌&&◌}
use mathlib.Core.List.{List, [], ◌∷◌}
use lib.ListN.{length}
use lib.Dec.{eqb}
use Rattle.spec_file.specs.Bytes.{Bytes}
use Rattle.spec_file.specs.Limits.{points_field, free_field}
use Rattle.spec_file.specs.Image.{field, Layout, layout_of, slot, key_of, offset_of}
use Rattle.spec_file.specs.Search.{Probe, met, empty, exhausted, search, is_met}
use Rattle.spec_file.specs.Messages.{added}
use Rattle.spec_file.specs.Delete.{deleted_at, deleted}
use Rattle.spec_file.specs.Questions.{Question, first_no, name_allowed, mode_known, message_sound, met_message_sound, some_point, open_number, add_number, delete_number, removed_asks}
use Rattle.spec_file.specs.Calls.{Outcome, plain, settled, add, delete}
use Rattle.law_file.proofs.Tests.{by_bool, and_left, zero-yes, zero-no, not-both}
use Rattle.law_file.proofs.Opened.{Opened, opened-facts, facts-opened, first_no-head, first_no-tail}
use Rattle.law_file.proofs.Outcomes.{settled-yes, settled-no}
use Rattle.law_file.proofs.Probe.{by-search, search-met}
use Rattle.law_file.proofs.Sought.{delete-on, seek-0}
use Rattle.spec_columns.specs.Columns.{columns}
use Rattle.spec_moves.specs.Moves.{Pair, active_space, move_key, move_asks, moved_over, moves}
use Rattle.spec_growth.specs.Growth.{old_probe, named_number, named_moved, ready, both_points, reckoned_place, own_asks, settled_pair, acted, added_pair, grow_add_number, grow_add, grow_delete_number, grow_delete, grow_store_number, grow_store}
use Rattle.law_moves.proofs.Again.{Again, again-layout, again-refl, added-again, deleted-again}
use Rattle.law_moves.proofs.Moved.{moved-old, moved_new}
use Rattle.law_moves.proofs.Accepted.{plain-too}
use Rattle.header_layout.specs.Shapes.{Open}
use Rattle.header_layout.specs.declared.shape.Shape.{Shape}
use Rattle.table_search.proofs.Headers.{layout-slots}
use Rattle.growth_move.specs.Moving.{Movable, Moved}
use Rattle.growth_moves.specs.Several as some
use Rattle.growth_moves.proofs.Stages.{open-again}
use Rattle.growth_named.specs.Names.{pair_of, Paired, Named}
use Rattle.growth_named.proofs.Naming.{named_new, inside-table, point-there, met-number, met-ready, other-number, other-ready}
use Rattle.growth_number.proofs.Turns.{named-at}
use Rattle.growth_ready.specs.Ready.{IsReady, Grown}

module _ {old new key : Bytes} {s l : Shape} (w : Paired old new key s l)
    (z : named_number (pair_of old new) (old_probe (pair_of old new) key) ≡ 0) where
  abbrev p : Pair
  p = pair_of old new

  abbrev q : Pair
  q = ready p key

  -- by the search in the old image
  by_old : {A : Type 0} → ((i : ℕ) → search (layout_of old) old key ≡ met i → first_no (move_asks p i) ≡ 0 → A)
      → (is_met (search (layout_of old) old key) ≡ false → A) → A
  by_old yes' no' =
      by_bool (is_met (search (layout_of old) old key))
      (λ y. let m = met_some (search (layout_of old) old key) y in
      yes' m.0 m.1 (sym (met-number old new key m.0 m.1) ∙ z))
      no'
    where
      met_some : (x : Probe) → is_met x ≡ true → (i : ℕ) × (x ≡ met i)
      met_some (met i) y = (i, refl)
      met_some (empty i) y = absurd (not-both false (unfold is_met in y) refl)
      met_some exhausted y = absurd (not-both false (unfold is_met in y) refl)

  pub ready-old : Again old q.old
  ready-old =
      by_old
      (λ i e n. subst (λ (x : Pair). Again old x.old) (sym (met-ready old new key i e))
      (moved-old old new i n w.first.accepted (inside-table (named-at old new key w i e))))
      (λ n. subst (λ (x : Pair). Again old x.old) (sym (other-ready old new key n))
      (again-refl old (opened-facts old w.first.accepted)))

  pub ready-new : Again new q.new
  unfolding move_key
  ready-new =
      by_old
      (λ i e n. subst (λ (x : Pair). Again new x.new) (sym (met-ready old new key i e))
      (moved_new old new i n w.second.accepted
      (ap (name_allowed (layout_of new).K) (named-at old new key w i e).key-is ∙ named_new w)))
      (λ n. subst (λ (x : Pair). Again new x.new) (sym (other-ready old new key n))
      (again-refl new (opened-facts new w.second.accepted)))

  new-opened : open_number q.new ≡ 0
  new-opened = facts-opened q.new ready-new.opened

  new-layout : layout_of q.new ≡ layout_of new
  new-layout = again-layout new q.new (opened-facts new w.second.accepted) ready-new

  name-there : name_allowed (layout_of q.new).K key ≡ true
  name-there = ap (λ (h : Layout). name_allowed h.K key) new-layout ∙ named_new w

  -- what the moves behind the call ask, of a new image that is opened again
  pub moves-paired : (new' : Bytes) → Again q.new new' → some.Paired q.old new' s l
  moves-paired new' a =
      record {
        first = open-again old q.old s w.first ready-old;
        second = open-again q.new new' l (open-again new q.new l w.second ready-new) a;
        keys = w.keys;
      }

  -- ---- add
  module _ (bytes : Bytes) (mode : ℕ) (k : mode_known mode ≡ true) (own : first_no (own_asks q key bytes mode) ≡ 0) where
    pub add-accepted : add_number q.new key bytes mode ≡ 0
    unfolding own_asks
    add-accepted =
        plain-too q.new key bytes mode (both_points q) (reckoned_place q) new-opened name-there k more-points further
        own
      where
        more-points : field q.new points_field ≤ both_points q
        more-points = unfold both_points in omega arith

        further : field q.new free_field ≤ reckoned_place q
        further = unfold reckoned_place in omega arith

    pub add_left : (add q.new key bytes mode).after ≡ added (layout_of q.new) q.new key bytes mode
    unfolding add
    add_left = settled-yes (add_number q.new key bytes mode) q.new _ add-accepted

    pub add-again : Again q.new (added (layout_of q.new) q.new key bytes mode)
    add-again = added-again q.new key bytes mode new-opened add-accepted

  -- ---- delete
  abbrev h : Layout
  h = layout_of q.new

  module _ (own : first_no (removed_asks h q.new (search h q.new key)) ≡ 0) where
    pub delete-accepted : delete_number q.new key ≡ 0
    delete-accepted = delete-on q.new key (seek-0 q.new key true new-opened name-there refl) ∙ own

    pub delete-left : (delete q.new key).after ≡ deleted h q.new (search h q.new key)
    unfolding delete
    delete-left = settled-yes (delete_number q.new key) q.new _ delete-accepted

    sound : met_message_sound h q.new (search h q.new key) ≡ true
    sound =
        let x = search h q.new key in
        and_left (met_message_sound h q.new x) (some_point q.new)
        (first_no-head 11 (met_message_sound h q.new x && some_point q.new) [] (λ y. omega arith)
        (first_no-tail 14 (is_met x) _ (λ y. omega arith) own))

    some-slot : 0 < h.N
    unfolding layout_of
    some-slot = omega (arith, ready-new.opened.slots-low)

    pub delete-again : Again q.new (deleted h q.new (search h q.new key))
    unfolding deleted met_message_sound
    delete-again =
        let one = again-refl q.new ready-new.opened in
        by-search h q.new key some-slot
        (λ i m. rw m (deleted-again q.new ready-new.opened i (search-met h q.new key some-slot i m).0
        (rw m at sound)))
        (λ i m. rw m one)
        (λ m. rw m one)

-- ---- what a call leaves

module _ (old new : Bytes) where
  pub grown-refused : (n : ℕ) (after : Pair) (r : ℕ) → r ≡ n → (r ≡ 0 → ⊥)
      → Grown (settled_pair n (pair_of old new) after) r old new
  unfolding settled_pair plain
  grown-refused n after r e z =
      let is : cond (eqb n 0) after (pair_of old new) ≡ pair_of old new =
      zero-no n after (pair_of old new) (λ y. z (e ∙ y)) in
      record {
        number = e;
        first = sym (ap (λ (x : Pair). x.old) is);
        second = sym (ap (λ (x : Pair). x.new) is);
      }

  grown-done : (n : ℕ) (after : Pair) → n ≡ 0 → (old₁ new₁ old' new' : Bytes) → after ≡ moves 8 (pair_of old₁ new₁)
      → some.MovedSome old₁ new₁ 8 old' new' → Grown (settled_pair n (pair_of old new) after) 0 old' new'
  unfolding settled_pair plain
  grown-done n after z old₁ new₁ old' new' e w =
      let is : cond (eqb n 0) after (pair_of old new) ≡ moves 8 (pair_of old₁ new₁) =
      zero-yes n after (pair_of old new) z ∙ e in
      record {
        number = sym z;
        first = w.first ∙ sym (ap (λ (x : Pair). x.old) is);
        second = w.second ∙ sym (ap (λ (x : Pair). x.new) is);
      }

  module _ (key old₁ new₁ old' new' : Bytes) (first : old₁ ≡ (ready (pair_of old new) key).old)
      (w : some.MovedSome old₁ new₁ 8 old' new') where
    abbrev Q : Pair
    Q = ready (pair_of old new) key

    same-pair : (x : Bytes) → new₁ ≡ x → acted Q x ≡ moves 8 (pair_of old₁ new₁)
    unfolding acted
    same-pair x e = ap₂ (λ (a b : Bytes). moves 8 (pair_of a b)) (sym first) (sym e)

    pub grown-add : (bytes : Bytes) (mode : ℕ) → grow_add_number (pair_of old new) key bytes mode ≡ 0
        → new₁ ≡ added (layout_of Q.new) Q.new key bytes mode
        → Grown (grow_add (pair_of old new) key bytes mode) 0 old' new'
    unfolding grow_add added_pair
    grown-add bytes mode z e = grown-done _ _ z old₁ new₁ old' new' (same-pair _ e) w

    pub grown-store : (recs : Bytes) (W : ℕ) → grow_store_number (pair_of old new) key recs W ≡ 0
        → new₁ ≡ added (layout_of Q.new) Q.new key (columns W recs) 2
        → Grown (grow_store (pair_of old new) key recs W) 0 old' new'
    unfolding grow_store added_pair
    grown-store recs W z e = grown-done _ _ z old₁ new₁ old' new' (same-pair _ e) w

    pub grown-delete : grow_delete_number (pair_of old new) key ≡ 0
        → new₁ ≡ deleted (layout_of Q.new) Q.new (search (layout_of Q.new) Q.new key)
        → Grown (grow_delete (pair_of old new) key) 0 old' new'
    unfolding grow_delete
    grown-delete z e = grown-done _ _ z old₁ new₁ old' new' (same-pair _ e) w

-- ---- the named point's move
module _ (old new key : Bytes) where
  pub ready-other : is_met (search (layout_of old) old key) ≡ false → IsReady old new key old new
  ready-other n =
      let e = sym (other-ready old new key n) in
      record { first = ap (λ (x : Pair). x.old) e; second = ap (λ (x : Pair). x.new) e }

  pub ready-met : (i : ℕ) → search (layout_of old) old key ≡ met i
      → named_number (pair_of old new) (old_probe (pair_of old new) key) ≡ 0 → (r : ℕ) (old' new' : Bytes)
      → Moved old new i r old' new' → IsReady old new key old' new'
  ready-met i e z r old' new' w =
      let n : r ≡ 0 = w.number ∙ sym (met-number old new key i e) ∙ z in
      let is = sym (met-ready old new key i e) in
      record {
        first = w.first ∙ settled-yes r old _ n ∙ ap (λ (x : Pair). x.old) is;
        second = w.second ∙ settled-yes r new _ n ∙ ap (λ (x : Pair). x.new) is;
      }

  pub movable : {s l : Shape} {i : ℕ} → Named old new key s l i → Movable old new s l i
  movable w =
      record {
        first = w.pair.first;
        second = w.pair.second;
        keys = w.pair.keys;
        inside = w.inside;
        point = point-there w;
      }
