-- What delete's walk leaves as it was: the bytes outside the table, and, as a bag, the entries of the table.
--     part-closed, kept-closed, field-closed     the header and the data area
--     weight-closed        every sum over the entries falls by the deleted entry's term
--     Stands g img s       some taken slot holds the bytes s
--     stands-closed        what stands, but for the deleted entry, is what stood
-- Assumes nothing.
use mathlib.Core.Path.{◌≡◌, refl, sym, ap, ◌∙◌}
use Prim.Native.Nat.{ℕ, ◌+◌, ◌-◌, ◌≤◌, ◌<◌}
use native.Mathlib.Omega.{arith}
use mathlib.Core.Logic.{◌↔◌, inl}
use lib.ListN.{length}
use Rattle.spec_file.specs.Bytes.{Bytes, part, number}
use Rattle.spec_file.specs.Limits.{version_field, serial_field, points_field, multiplier_field, header_size, table_start}
use Rattle.spec_file.specs.Image.{field, Layout, slot, put_slot, key_of, blank, vacant}
use Rattle.spec_file.specs.Delete.{moved, closed}
use Rattle.law_file.proofs.Tests.{by-eq, not-both}
use Rattle.law_file.proofs.Slots.{Room, length-slot, slot-put_slot-same, slot-put_slot-other, Outside, part-put_slot-outside, length-blank, vacant-blank}
use Rattle.law_file.proofs.Kept.{major-same, Kept, middle_size, rest_size}
use Rattle.law_file.proofs.Table.{Taken, key_at, weigh, weight}
use Rattle.law_file.proofs.Spread.{over, over-moved, room-half, slot-moved-from, slot-moved-hole, slot-moved-other}
use Rattle.law_file.proofs.Closing.{Going, hole-other, closed-induct, length-closed}
use Rattle.law_file.proofs.Insert.{Stands, weigh-taken, weigh-vacant, weight-put_slot}

-- ---- the bytes outside the table
pub part_moved : (g : Layout) (img : Bytes) (r : Room g (length img)) (h j : ℕ) (lh : h < g.N) (lj : j < g.N)
    (p m : ℕ) → Outside g p m → part (moved g img h j) p m ≡ part img p m
unfolding moved
part_moved g img r h j lh lj p m f =
    part-put_slot-outside g (put_slot g img h (slot g img j)) (room-half g img r h j lh lj) j (blank g) p m lj
    (length-blank g) f
    ∙ part-put_slot-outside g img r h (slot g img j) p m lh (length-slot g img r j lj) f

module _ (g : Layout) (img : Bytes) (r : Room g (length img)) (i : ℕ) (l : i < g.N) where
  pub part-closed : (p m : ℕ) → Outside g p m → part (closed g img i) p m ≡ part img p m
  unfolding closed
  part-closed p m f =
      closed-induct g img r i l (λ img' h j w. part w.image p m ≡ part img' p m)
      (record {
        stop = λ img' h j s v. refl;
        skip = λ img' h j w s t a e. e;
        move = λ img' h j w s t a e. e ∙ part_moved g img' s.room h j s.hole-lt s.slot_lt p m f;
      })
      ∙ part-put_slot-outside g img r i (blank g) p m l (length-blank g) f

  pub kept-closed : Kept img (closed g img i)
  kept-closed =
      record {
        fixed =
            record {
              size = length-closed g img r i l;
              magic = part-closed 0 5 (inl (omega arith));
              major = major-same img (closed g img i) (part-closed version_field 3 (inl (omega arith)));
              front = part-closed serial_field (points_field - serial_field) (inl (omega arith));
              middle = part-closed multiplier_field middle_size (inl (omega arith));
              rest = part-closed header_size rest_size (inl (omega arith));
            };
        version = part-closed version_field 3 (inl (omega arith));
      }

  pub field-closed : (at : ℕ) → at + 4 ≤ table_start → field (closed g img i) at ≡ field img at
  unfolding field
  field-closed at f = ap number (part-closed at 4 (inl f))

-- ---- sums over the entries
-- the sum is one over the slots
pub weight-over : (g : Layout) (img : Bytes) (w : Bytes → ℕ) → weight g img w ≡ over g img (λ i s. weigh g w s)
unfolding weight over
weight-over g img w = refl

-- a move keeps every sum
pub weight-moved : (g : Layout) (img : Bytes) (h j : ℕ) → Going g img h j → Taken g img j → (w : Bytes → ℕ)
    → weight g (moved g img h j) w ≡ weight g img w
weight-moved g img h j s t w =
    omega (
      arith,
      weight-over g (moved g img h j) w,
      weight-over g img w,
      over-moved g img s.room h j s.hole-lt s.slot_lt (λ i s. weigh g w s) (λ k s v. weigh-vacant g w s v)
          (hole-other g img h j s t) s.hole,
    )

pub weight-closed : (g : Layout) (img : Bytes) → Room g (length img) → (i : ℕ) → i < g.N → Taken g img i
    → (w : Bytes → ℕ)
    → weight g (closed g img i) w + w (slot g img i) ≡ weight g img w
unfolding closed
weight-closed g img r i l t w =
    omega (
      arith,
      closed-induct g img r i l (λ img' h j w'. weight g w'.image w ≡ weight g img' w)
          (record {
            stop = λ img' h j s v. refl;
            skip = λ img' h j w' s t a e. e;
            move = λ img' h j w' s t a e. e ∙ weight-moved g img' h j s t w;
          }),
      weight-put_slot g img i (blank g) w r l (length-blank g),
      weigh-vacant g w (blank g) (vacant-blank g),
      weigh-taken g w (slot g img i) t,
    )

-- ---- what stands in the table

-- slots with the same bytes are taken together
pub taken-same : (g : Layout) (a b : Bytes) (i k : ℕ) → slot g a i ≡ slot g b k → Taken g b k → Taken g a i
taken-same g a b i k e t = ap (vacant g) e ∙ t

module _ (g : Layout) (img : Bytes) (h j : ℕ) (s : Going g img h j) (t : Taken g img j) where
  -- where the entry of slot k stood before the move, by cases on whether it is the one that moved
  pub by-moved {ℓ} : {A : Type ℓ} (k : ℕ) → Taken g (moved g img h j) k
      → (k ≡ h → slot g (moved g img h j) k ≡ slot g img j → A)
      → ((k ≡ h → ⊥) → (k ≡ j → ⊥) → slot g (moved g img h j) k ≡ slot g img k → A) → A
  by-moved k tk hit miss =
      by-eq k h
      (λ e. hit e (ap (slot g (moved g img h j)) e
      ∙ slot-moved-hole g img s.room h j s.hole-lt s.slot_lt (hole-other g img h j s t)))
      (λ nh.
      let nj : k ≡ j → ⊥ = λ e. not-both (vacant g (slot g (moved g img h j) k))
      (ap (λ (x : ℕ). vacant g (slot g (moved g img h j) x)) e
      ∙ ap (vacant g) (slot-moved-from g img s.room h j s.hole-lt s.slot_lt) ∙ vacant-blank g) tk in
      miss nh nj (slot-moved-other g img s.room h j s.hole-lt s.slot_lt k nh nj))

  pub stands-to-moved : (b : Bytes) → Stands g img b → Stands g (moved g img h j) b
  stands-to-moved b (k, l, tk, e) =
      by-eq k j
      (λ q.
      let there : slot g (moved g img h j) h ≡ slot g img j
      = slot-moved-hole g img s.room h j s.hole-lt s.slot_lt (hole-other g img h j s t) in
      (h, s.hole-lt, taken-same g (moved g img h j) img h j there t, there ∙ ap (slot g img) (sym q) ∙ e))
      (λ nj.
      let nh : k ≡ h → ⊥ =
      λ q. not-both (vacant g (slot g img k)) (ap (λ (x : ℕ). vacant g (slot g img x)) q ∙ s.hole) tk in
      let there : slot g (moved g img h j) k ≡ slot g img k
      = slot-moved-other g img s.room h j s.hole-lt s.slot_lt k nh nj in
      (k, l, taken-same g (moved g img h j) img k k there tk, there ∙ e))

  pub stands-from-moved : (b : Bytes) → Stands g (moved g img h j) b → Stands g img b
  stands-from-moved b (k, l, tk, e) =
      by-moved k tk
      (λ q there. (j, s.slot_lt, t, sym there ∙ e))
      (λ nh nj there. (k, l, taken-same g img (moved g img h j) k k (sym there) tk, sym there ∙ e))

-- the walk in `closed` keeps what stands
module _ (g : Layout) (img : Bytes) (r : Room g (length img)) (i : ℕ) (l : i < g.N) where
  pub stands-walked : (b : Bytes) → Stands g (put_slot g img i (blank g)) b ↔ Stands g (closed g img i) b
  unfolding closed
  stands-walked b =
      closed-induct g img r i l (λ img' h j w. Stands g img' b ↔ Stands g w.image b)
      (record {
        stop = λ img' h j s v. (λ x. x, λ x. x);
        skip = λ img' h j w s t a e. e;
        move = λ img' h j w s t a e.
            (λ x. e.0 (stands-to-moved g img' h j s t b x), λ x. stands-from-moved g img' h j s t b (e.1 x));
      })

  blank-other : (k : ℕ) → (k ≡ i → ⊥) → slot g (put_slot g img i (blank g)) k ≡ slot g img k
  blank-other k n = slot-put_slot-other g img r i (blank g) k l (length-blank g) n

  -- a slot that is taken after slot i was zeroed is another one
  pub zeroed-other : (k : ℕ) → Taken g (put_slot g img i (blank g)) k → k ≡ i → ⊥
  zeroed-other k t e =
      not-both (vacant g (slot g (put_slot g img i (blank g)) k))
      (ap (λ (x : ℕ). vacant g (slot g (put_slot g img i (blank g)) x)) e
      ∙ ap (vacant g) (slot-put_slot-same g img r i (blank g) l (length-blank g)) ∙ vacant-blank g) t

  pub zeroed-same : (k : ℕ) → Taken g (put_slot g img i (blank g)) k
      → slot g (put_slot g img i (blank g)) k ≡ slot g img k
  zeroed-same k t = blank-other k (zeroed-other k t)

  pub zeroed-taken : (k : ℕ) → Taken g img k → (k ≡ i → ⊥) → Taken g (put_slot g img i (blank g)) k
  zeroed-taken k t n = taken-same g (put_slot g img i (blank g)) img k k (blank-other k n) t

  -- every entry with another key stands exactly if it stood
  pub stands-closed : (b : Bytes) → (key_of g b ≡ key_at g img i → ⊥) → Stands g img b ↔ Stands g (closed g img i) b
  stands-closed b n = (λ x. (stands-walked b).0 (to x), λ x. from ((stands-walked b).1 x))
    where
      to : Stands g img b → Stands g (put_slot g img i (blank g)) b
      to (k, lk, t, e) =
          let nk : k ≡ i → ⊥ = λ q. n (ap (key_of g) (sym e) ∙ ap (key_at g img) q) in
          (k, lk, zeroed-taken k t nk, blank-other k nk ∙ e)

      from : Stands g (put_slot g img i (blank g)) b → Stands g img b
      from (k, lk, t, e) =
          let same' : slot g (put_slot g img i (blank g)) k ≡ slot g img k = zeroed-same k t in
          (k, lk, taken-same g img (put_slot g img i (blank g)) k k (sym same') t, sym same' ∙ e)
