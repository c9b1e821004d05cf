-- The two images between one move and the next.
--     Stage            both are opened, no slot below `from` of the old one is taken, and the moves that are left lead
--                      where all of them lead
--     stage-begins, stage-found, stage-on      the loop's start, the slot that a turn finds, and a turn
--     stage-none, stage-refused, stage-done    its three ends
--     open-again       an image that is opened again has the shape that it had
-- Assumes nothing.
use mathlib.Core.Path.{◌≡◌, refl, sym, ap, ap₂, ◌∙◌}
use Prim.Native.Nat.{ℕ, ◌-◌, ◌≤◌, ◌<◌}
use native.Mathlib.Omega.{arith}
use mathlib.Core.Bool.{true}
use mathlib.Core.Option.{Option, none, some}
use Rattle.spec_file.specs.Bytes.{Bytes}
use Rattle.spec_file.specs.Image.{Layout, layout_of, slot, key_of, offset_of, vacant}
use Rattle.spec_file.specs.Questions.{first_no, name_allowed, message_sound, open_number}
use Rattle.spec_file.specs.Inspect.{stopped, taken, next_taken, stop_at}
use Rattle.spec_moves.specs.Moves.{Pair, move_asks, moved_over, lowest_slot, moves}
use Rattle.law_file.proofs.Tests.{and_left}
use Rattle.law_file.proofs.Opened.{opened-facts, facts-opened}
use Rattle.law_file.proofs.Outcomes.{settled-yes, settled-no}
use Rattle.law_moves.proofs.Again.{Again, again-layout}
use Rattle.law_moves.proofs.Moved.{accepted-sound, moved-old, moved_new, taken-name}
use Rattle.law_moves.proofs.Lowest.{Bare, next-from, next-bare, bare-deleted}
use Rattle.law_moves.proofs.Several.{moves-none, moves-end, moves-stop, moves-on}
use Rattle.header_layout.specs.Shapes.{Open, shape_of}
use Rattle.header_layout.specs.declared.shape.Shape.{Shape}
use Rattle.header_layout.specs.declared.places.Slot.{Slot}
use Rattle.table_search.proofs.Headers.{layout-slots}
use Rattle.table_search.proofs.Heads.{kept-shape}
use Rattle.call_walk.specs.Stops.{stop_of}
use Rattle.call_walk.specs.declared.Stop as code
use Rattle.call_walk.specs.declared.Stop.TheVariants.{Refused, At, End}
use Rattle.growth_move.specs.Moving.{pair_of, Movable, Moved}
use Rattle.growth_moves.specs.Several.{Paired, MovedSome}

pub record Stage (old₀ new₀ : Bytes) (s l : Shape) (most : ℕ) (old new : Bytes) (from left : ℕ) : Type 0 where
  pub paired : Paired old new s l
  pub bare : Bare (layout_of old) from old
  pub low : from ≤ (layout_of old).N
  pub rest : moves left (pair_of old new) ≡ moves most (pair_of old₀ new₀)

pub stage-begins : (old new : Bytes) (s l : Shape) (most : ℕ) → Paired old new s l
    → Stage old new s l most old new 0 (most - 0)
stage-begins old new s l most p =
    record {
      paired = p;
      bare = λ k lk. absurd (omega arith);
      low = omega arith;
      rest = let e : most - 0 ≡ most = omega arith in ap (λ (n : ℕ). moves n (pair_of old new)) e;
    }

-- ---- the slot that is found

stop-some : (o : Option ℕ) (i : ℕ) → stopped i ≡ stop_at o → o ≡ some i
unfolding stop_at
stop-some none i e = let z : ◌≡◌ {A = ℕ} 0 1 = cc in absurd (omega arith)
stop-some (some j) i e = let q : j ≡ i = cc in ap some q

-- a search that found one
pub slot-found : (f : code.Stop) (o : Option ℕ) (i : Slot) → stop_of f ≡ stop_at o → f ≡ At i → o ≡ some i.0
unfolding stop_of
slot-found f o i e q = stop-some o i.0 (sym (ap stop_of q) ∙ e)

-- a search that found no slot
stop-none : (f : code.Stop) (o : Option ℕ) → stop_of f ≡ stop_at o → ((i : Slot) → f ≡ At i → ⊥) → o ≡ none
unfolding stop_of stop_at
stop-none (Refused n) none e t = refl
stop-none (Refused n) (some j) e t = let z : ◌≡◌ {A = ℕ} 0 1 = cc in absurd (omega arith)
stop-none (At i) o e t = absurd (t i refl)
stop-none End none e t = refl
stop-none End (some j) e t = let z : ◌≡◌ {A = ℕ} 0 1 = cc in absurd (omega arith)

-- an image that is opened again has the shape that it had
pub open-again : (img img' : Bytes) (s : Shape) → Open img s → Again img img' → Open img' s
open-again img img' s p a =
    record { accepted = facts-opened img' a.opened; shape = p.shape ∙ sym (kept-shape a.fixed) }

-- below the slot that an accepted move takes none is taken afterwards
bare-moved : (old new : Bytes) (i : ℕ) → open_number old ≡ 0 → i < (layout_of old).N
    → first_no (move_asks (pair_of old new) i) ≡ 0 → Bare (layout_of old) i old
    → Bare (layout_of old) i (moved_over (pair_of old new) i).old
unfolding moved_over
bare-moved old new i z l q b =
    bare-deleted old (opened-facts old z) i l
    (and_left (message_sound (layout_of old) old (offset_of (layout_of old) (slot (layout_of old) old i))) _
    (accepted-sound old new i q)) b

module _ (old₀ new₀ : Bytes) (s l : Shape) (most : ℕ) (old new : Bytes) (from left : ℕ)
    (S : Stage old₀ new₀ s l most old new from left) where
  abbrev g : Layout
  g = layout_of old

  keys-same : g.K ≡ (layout_of new).K
  unfolding shape_of
  keys-same =
      sym (ap (λ (t : Shape). t.keylen) S.paired.first.shape)
      ∙ S.paired.keys
      ∙ ap (λ (t : Shape). t.keylen) S.paired.second.shape

  lowest-is : lowest_slot old ≡ next_taken g old from
  unfolding lowest_slot
  lowest-is = next-from g old from S.bare S.low

  ends : (old' new' : Bytes) → old' ≡ old → new' ≡ new → moves left (pair_of old new) ≡ pair_of old new
      → MovedSome old₀ new₀ most old' new'
  ends old' new' eo en e =
      let all : pair_of old new ≡ moves most (pair_of old₀ new₀) = sym e ∙ S.rest in
      record {
        first = eo ∙ ap (λ (p : Pair). p.old) all;
        second = en ∙ ap (λ (p : Pair). p.new) all;
      }

  pub stage-done : left ≤ 0 → MovedSome old₀ new₀ most old new
  stage-done z =
      let e : left ≡ 0 = omega arith in
      ends old new refl refl (ap (λ (n : ℕ). moves n (pair_of old new)) e ∙ moves-none (pair_of old new))

  pub stage-none : (f : code.Stop) → stop_of f ≡ stop_at (next_taken g old from) → ((i : Slot) → f ≡ At i → ⊥)
      → MovedSome old₀ new₀ most old new
  stage-none f e t =
      ends old new refl refl (moves-end left (pair_of old new) (lowest-is ∙ stop-none f (next_taken g old from) e t))

  -- the slot that a turn finds
  module _ (i : ℕ) (e : next_taken g old from ≡ some i) where
    pub stage-found : Movable old new s l i
    stage-found =
        let w = next-bare g old from S.bare i e in
        record {
          first = S.paired.first;
          second = S.paired.second;
          keys = S.paired.keys;
          inside = omega (arith, w.0, layout-slots old s S.paired.first.shape);
          point = w.1;
        }

    module _ (r : ℕ) (old' new' : Bytes) (w : Moved old new i r old' new') where
      pub stage-refused : (r ≡ 0 → ⊥) → MovedSome old₀ new₀ most old' new'
      stage-refused z =
          ends old' new' (w.first ∙ settled-no r old _ z) (w.second ∙ settled-no r new _ z)
          (moves-stop left (pair_of old new) i (lowest-is ∙ e) (λ q. z (w.number ∙ q)))

      turn : r ≡ 0 → 0 < left → Stage old₀ new₀ s l most old' new' i (left - 1)
      turn z more =
          let p : Pair = pair_of old new in
          let q : first_no (move_asks p i) ≡ 0 = sym w.number ∙ z in
          let f = next-bare g old from S.bare i e in
          let P = S.paired in
          let old-is : old' ≡ (moved_over p i).old = w.first ∙ settled-yes r old _ z in
          let new_is : new' ≡ (moved_over p i).new = w.second ∙ settled-yes r new _ z in
          let a : Again old old' = rw (← old-is) at (moved-old old new i q P.first.accepted f.0) in
          let b : Again new new' = rw (← new_is) at (moved_new old new i q P.second.accepted (name f)) in
          let same' : layout_of old' ≡ g = again-layout old old' (opened-facts old P.first.accepted) a in
          record {
            paired =
                record {
                  first = open-again old old' s P.first a;
                  second = open-again new new' l P.second b;
                  keys = P.keys;
                };
            bare =
                rw same' (λ k lk.
                ap (λ (x : Bytes). vacant g (slot g x k)) old-is
                ∙ bare-moved old new i P.first.accepted f.0 q f.2 k lk);
            low = omega (arith, f.0, ap (λ (h : Layout). h.N) same');
            rest =
                ap₂ (λ (x y : Bytes). moves (left - 1) (pair_of x y)) old-is new_is
                ∙ sym (moves-on left p i (lowest-is ∙ e) more q)
                ∙ S.rest;
          }
        where
          name : (i < g.N) × (taken g old i ≡ true) × Bare g i old
              → name_allowed (layout_of new).K (key_of g (slot g old i)) ≡ true
          name f = taken-name old new i S.paired.first.accepted f.0 f.1 (keys-same)

      pub stage-on : r ≡ 0 → 0 < left → (n m : ℕ) → n ≡ i → m ≡ left - 1 → Stage old₀ new₀ s l most old' new' n m
      stage-on z more n m q e = rw (q, e) (turn z more)
