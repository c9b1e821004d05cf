-- The measure of delete's walk: how far the entries stand from their homes; what a slot's write and a move do to it.
--     over g img f       the sum over the slots i of f i (the bytes of slot i)
--     spread g img       the sum over the taken slots of the steps from home to slot
--     over-put_slot, over-moved        what such a sum is after a write, and after a move into the hole
--     slot-moved-hole, -from, -other  the slots after a move
-- Assumes nothing.
use mathlib.Core.Path.{◌≡◌, sym, ap, ◌∙◌, subst}
use Prim.Native.Nat.{ℕ, ◌+◌, ◌-◌, ◌*◌, ◌≤◌, ◌<◌}
use native.Mathlib.Omega.{arith}
use mathlib.Core.Bool.{Bool, true, false, cond}
use lib.ListN.{length}
use Rattle.spec_file.specs.Bytes.{Bytes}
use Rattle.spec_file.specs.Image.{Layout, slot_size, slot, put_slot, key_of, blank, vacant, home}
use Rattle.spec_file.specs.Search.{dist}
use Rattle.spec_file.specs.Delete.{moved}
use Rattle.law_file.proofs.Slots.{Room, length-slot, length-put_slot, slot-put_slot-same, slot-put_slot-other, length-blank, vacant-blank}
use Rattle.law_file.proofs.Cyclic.{dist-lt, round3}
use Rattle.law_file.proofs.Probe.{home-lt}
use Rattle.law_file.proofs.Total.{total, total-change, total-bound}
use Rattle.law_file.proofs.Table.{Taken, key_at, home_at}

-- ---- sums over the slots
unfoldable pub over : Layout → Bytes → (ℕ → Bytes → ℕ) → ℕ
over g img f = total (λ i. f i (slot g img i)) g.N

-- steps from home to slot i of the bytes s, 0 where they are vacant
unfoldable pub far : Layout → ℕ → Bytes → ℕ
far g i s = cond (vacant g s) 0 (dist g.N (home g (key_of g s)) i)

unfoldable pub spread : Layout → Bytes → ℕ
spread g img = over g img (far g)

pub far-vacant : (g : Layout) (i : ℕ) (s : Bytes) → vacant g s ≡ true → far g i s ≡ 0
unfolding far
far-vacant g i s v = rw v

pub far-taken : (g : Layout) (i : ℕ) (s : Bytes) → vacant g s ≡ false → far g i s ≡ dist g.N (home g (key_of g s)) i
unfolding far
far-taken g i s t = rw t

pub far-bound : (g : Layout) (i : ℕ) (s : Bytes) → i < g.N → far g i s ≤ g.N - 1
unfolding far
far-bound g i s h = go (vacant g s)
  where
    go : (b : Bool) → cond b 0 (dist g.N (home g (key_of g s)) i) ≤ g.N - 1
    go true = omega arith
    go false = omega (arith, dist-lt g.N (home g (key_of g s)) i (home-lt g (key_of g s) (omega arith)) h)

-- the entries stand at most N × (N − 1) steps from their homes
pub spread-bound : (g : Layout) (img : Bytes) → spread g img ≤ g.N * (g.N - 1)
unfolding spread over
spread-bound g img = total-bound (λ i. far g i (slot g img i)) g.N (g.N - 1) (λ i h. far-bound g i (slot g img i) h)

-- an entry whose home is not among the slots after the hole up to its own, by distances
from-home : (N t h j : ℕ) → t < N → h < N → j < N → dist N h j ≤ dist N t j → dist N t h + dist N h j ≡ dist N t j
from-home N t h j lt lh lj le =
    round3 N t h j lt lh lj (λ one. one) (λ two. absurd (omega (arith, dist-lt N t h lt lh)))

module _ (g : Layout) (img : Bytes) (r : Room g (length img)) where
  pub over-put_slot : (f : ℕ → Bytes → ℕ) (i : ℕ) (s : Bytes) → i < g.N → length s ≡ slot_size g
      → over g (put_slot g img i s) f + f i (slot g img i) ≡ over g img f + f i s
  unfolding over
  over-put_slot f i s h e =
      total-change (λ k. f k (slot g (put_slot g img i s) k)) (λ k. f k (slot g img k)) g.N i h
      (λ k l n. ap (f k) (slot-put_slot-other g img r i s k h e n))
      ∙ ap (λ (x : Bytes). over g img f + f i x) (slot-put_slot-same g img r i s h e)

  -- a table stays in its place while the image keeps its length
  pub room-put_slot : (i : ℕ) (s : Bytes) → i < g.N → length s ≡ slot_size g → Room g (length (put_slot g img i s))
  room-put_slot i s h e = subst (Room g) (sym (length-put_slot g img r i s h e)) r

module _ (g : Layout) (img : Bytes) (r : Room g (length img)) (h j : ℕ) (lh : h < g.N) (lj : j < g.N) where
  -- the image half way: the entry stands in the hole and in its old slot
  pub room-half : Room g (length (put_slot g img h (slot g img j)))
  room-half = room-put_slot g img r h (slot g img j) lh (length-slot g img r j lj)

  pub length_moved : length (moved g img h j) ≡ length img
  unfolding moved
  length_moved =
      length-put_slot g (put_slot g img h (slot g img j)) room-half j (blank g) lj (length-blank g)
      ∙ length-put_slot g img r h (slot g img j) lh (length-slot g img r j lj)

  pub room_moved : Room g (length (moved g img h j))
  room_moved = subst (Room g) (sym length_moved) r

  pub slot-moved-from : slot g (moved g img h j) j ≡ blank g
  unfolding moved
  slot-moved-from =
      slot-put_slot-same g (put_slot g img h (slot g img j)) room-half j (blank g) lj (length-blank g)

  pub slot-moved-hole : (h ≡ j → ⊥) → slot g (moved g img h j) h ≡ slot g img j
  unfolding moved
  slot-moved-hole n =
      slot-put_slot-other g (put_slot g img h (slot g img j)) room-half j (blank g) h lj (length-blank g) n
      ∙ slot-put_slot-same g img r h (slot g img j) lh (length-slot g img r j lj)

  pub slot-moved-other : (k : ℕ) → (k ≡ h → ⊥) → (k ≡ j → ⊥) → slot g (moved g img h j) k ≡ slot g img k
  unfolding moved
  slot-moved-other k nh nj =
      slot-put_slot-other g (put_slot g img h (slot g img j)) room-half j (blank g) k lj (length-blank g) nj
      ∙ slot-put_slot-other g img r h (slot g img j) k lh (length-slot g img r j lj) nh

  -- the old slot is vacant after the move
  pub vacant-moved : vacant g (slot g (moved g img h j) j) ≡ true
  vacant-moved = ap (vacant g) slot-moved-from ∙ vacant-blank g

  -- a sum in which vacant slots count nothing
  pub over-moved : (f : ℕ → Bytes → ℕ) → ((k : ℕ) (s : Bytes) → vacant g s ≡ true → f k s ≡ 0) → (h ≡ j → ⊥)
      → vacant g (slot g img h) ≡ true
      → over g (moved g img h j) f + f j (slot g img j) ≡ over g img f + f h (slot g img j)
  unfolding moved
  over-moved f zero_at n v =
      let half : Bytes = put_slot g img h (slot g img j) in
      let one : over g half f + f h (slot g img h) ≡ over g img f + f h (slot g img j)
      = over-put_slot g img r f h (slot g img j) lh (length-slot g img r j lj) in
      let two : over g (put_slot g half j (blank g)) f + f j (slot g half j) ≡ over g half f + f j (blank g)
      = over-put_slot g half room-half f j (blank g) lj (length-blank g) in
      let there : f j (slot g half j) ≡ f j (slot g img j)
      = ap (f j) (slot-put_slot-other g img r h (slot g img j) j lh (length-slot g img r j lj) (λ e. n (sym e))) in
      omega (arith, one, two, there, zero_at h (slot g img h) v, zero_at j (blank g) (vacant-blank g))

  -- a move lowers the spread by the steps moved
  pub spread-moved : (h ≡ j → ⊥) → vacant g (slot g img h) ≡ true → Taken g img j
      → dist g.N h j ≤ dist g.N (home_at g img j) j → spread g (moved g img h j) + dist g.N h j ≡ spread g img
  unfolding spread
  spread-moved n v t le =
      let lt : home_at g img j < g.N = home-lt g (key_at g img j) (omega arith) in
      omega (
        arith,
        over-moved (far g) (far-vacant g) n v,
        far-taken g j (slot g img j) t,
        far-taken g h (slot g img j) t,
        from-home g.N (home_at g img j) h j lt lh lj le,
      )
