-- What the walk's and the check's exports answer, case by case, and that it fits 32 bits.
-- Assumes nothing.
use mathlib.Core.Path.{◌≡◌, refl, sym, ap, ◌∙◌, subst}
use Prim.Native.Nat.{ℕ, ◌+◌, ◌*◌, ◌^◌, ◌≤◌, ◌<◌}
use native.Mathlib.Omega.{arith}
use mathlib.Core.Bool.{Bool, true, false, cond}
use mathlib.Core.Option.{Option, none, some}
use lib.ListN.{length}
use lib.Dec.{eqb}
use borrow.Author.Tests.{eqb-true}
use Rattle.spec_file.specs.Bytes.{Bytes}
use Rattle.spec_file.specs.Limits.{most_slots, header_size, key_field, slots_field}
use Rattle.spec_file.specs.Image.{field, layout_of, slot_size, slot_start}
use Rattle.spec_file.specs.Questions.{open_number}
use Rattle.spec_file.specs.Inspect.{Stop, stopped, end, stop_number, key_start, key_walk, lowest, slot_fails, count_sound, Verdict, sound, slot_bad, count_bad, verdict_of, verdict_number, check}
use Rattle.law_file.proofs.Opened.{opened-facts, opened-room}
use Rattle.law_file.proofs.Slots.{slot-end}
use Rattle.law_file.proofs.Verdict.{lowest-some}
use Rattle.call_walk.specs.Stops.{stop_slot}
use Rattle.call_walk.proofs.Stopping.{stopped-open, stopped-below}
use Rattle.export_walk.specs.Codes.{verdict_code, verdict_slot}
use Rattle.export_walk.specs.Walks.{Walks, Judges}

-- what an export answers, and that the image is as it was
pub with-image : {A B C : Type 0} {img : Bytes} → A × B × C → A × B × C × (img ≡ img)
with-image w = (w.0, w.1, w.2, refl)

-- ---- the walk

abbrev pub Stops : Bytes → Stop → ℕ → ℕ → ℕ → Type 0
Stops img s n i p = (n ≡ stop_number s) × (i ≡ stop_slot s) × (p ≡ key_start img s)

-- with an image that is as it was
pub walked : {img : Bytes} {from n i p : ℕ} → Stops img (key_walk img from) n i p → Walks img from img n i p
walked w = record { number = w.0; stop = w.1; key = w.2; image = refl }

pub walks-refused : (img : Bytes) (s : Stop) (n : ℕ) → Stop.refused n ≡ s → Stops img s n 0 0
unfolding stop_number stop_slot key_start
walks-refused img s n e = subst (λ (t : Stop). Stops img t n 0 0) e (refl, refl, refl)

pub walks-end : (img : Bytes) (s : Stop) → end ≡ s → Stops img s 0 0 0
unfolding stop_number stop_slot key_start
walks-end img s e = subst (λ (t : Stop). Stops img t 0 0 0) e (refl, refl, refl)

pub walks-stopped : (img : Bytes) (s : Stop) (j i p k : ℕ) → stopped j ≡ s → i ≡ j → k ≡ field img key_field
    → p ≡ 2048 + j * (k + 4)
    → Stops img s 0 i p
unfolding stop_number stop_slot key_start slot_start slot_size layout_of
walks-stopped img s j i p k e q r h =
    subst (λ (t : Stop). Stops img t 0 i p) e (refl, q, h ∙ ap (λ (x : ℕ). 2048 + j * (x + 4)) r)

-- a slot that the walk names, and its place, are small
module _ (img : Bytes) (from j : ℕ) (e : key_walk img from ≡ stopped j) where
  pub walk-key : field img key_field ≤ 32
  walk-key = (opened-facts img (stopped-open img from j e)).key-high

  pub walk-long : header_size ≤ length img
  walk-long = omega (arith, (opened-facts img (stopped-open img from j e)).size_low)

  pub walk-slot : j < most_slots
  unfolding layout_of
  walk-slot = omega (arith, stopped-below img from j e, (opened-facts img (stopped-open img from j e)).slots-high)

  pub walk-place : (k : ℕ) → k ≡ field img key_field → 2048 + j * (k + 4) < 2 ^ 32
  unfolding slot_start slot_size layout_of
  walk-place k r =
      let o = opened-facts img (stopped-open img from j e) in
      let l = slot-end (layout_of img) (opened-room img o) j (stopped-below img from j e) in
      subst (λ (x : ℕ). 2048 + j * (x + 4) < 2 ^ 32) (sym r) (omega (arith, l, o.free-low, o.free-high, o.size-high))

-- ---- the check

abbrev pub Says : Verdict → ℕ → ℕ → ℕ → Type 0
Says v n c i = (n ≡ verdict_number v) × (c ≡ verdict_code v) × (i ≡ verdict_slot v)

-- with an image that is as it was
pub judged : {img : Bytes} {n c i : ℕ} → Says (check img) n c i → Judges img img n c i
judged w = record { number = w.0; code = w.1; bad = w.2; image = refl }

pub says-refused : (v : Verdict) (n : ℕ) → Verdict.refused n ≡ v → Says v n 0 0
unfolding verdict_number verdict_code verdict_slot
says-refused v n e = subst (λ (t : Verdict). Says t n 0 0) e (refl, refl, refl)

pub says-sound : (v : Verdict) → sound ≡ v → Says v 0 0 0
unfolding verdict_number verdict_code verdict_slot
says-sound v e = subst (λ (t : Verdict). Says t 0 0 0) e (refl, refl, refl)

pub says_slot : (v : Verdict) (j i : ℕ) → slot_bad j ≡ v → i ≡ j → Says v 0 1 i
unfolding verdict_number verdict_code verdict_slot
says_slot v j i e q = subst (λ (t : Verdict). Says t 0 1 i) e (refl, refl, q)

pub says-count : (v : Verdict) → count_bad ≡ v → Says v 0 2 0
unfolding verdict_number verdict_code verdict_slot
says-count v e = subst (λ (t : Verdict). Says t 0 2 0) e (refl, refl, refl)

-- the slot that a check names is one of the table's
bad-some : (b : Bool) (o : Option ℕ) (i : ℕ) → verdict_of b o ≡ slot_bad i → o ≡ some i
unfolding verdict_of
bad-some true none i e = let z : ◌≡◌ {A = ℕ} 0 1 = cc in absurd (omega arith)
bad-some false none i e = let z : ◌≡◌ {A = ℕ} 0 1 = cc in absurd (omega arith)
bad-some true (some j) i e = let q : j ≡ i = cc in ap some q
bad-some false (some j) i e = let q : j ≡ i = cc in ap some q

bad-open : (b : Bool) (v : Verdict) (n i : ℕ) → cond b v (Verdict.refused n) ≡ slot_bad i → (b ≡ true) × (v ≡ slot_bad i)
bad-open true v n i e = (refl, e)
bad-open false v n i e = let z : ◌≡◌ {A = ℕ} 0 1 = cc in absurd (omega arith)

pub check-slot : (img : Bytes) (i : ℕ) → check img ≡ slot_bad i → i < most_slots
unfolding check layout_of
check-slot img i e =
    let p = bad-open (eqb (open_number img) 0)
    (verdict_of (count_sound (layout_of img) img) (lowest (slot_fails (layout_of img) img) (field img slots_field) 0))
    (open_number img) i e in
    let f = lowest-some (slot_fails (layout_of img) img) (field img slots_field) 0 i (bad-some _ _ i p.1) in
    omega (arith, f.1, (opened-facts img (eqb-true _ _ p.0)).slots-high)
