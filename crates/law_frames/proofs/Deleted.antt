-- What an accepted delete leaves as it was, on any image: the bytes behind the header that are neither the message's
-- letter nor those of a slot that the walk may reach.
--     Walked N i e k      the walk that closes slot i may reach slot k, where slot e is vacant, or i for none
--     closed-keeps        bytes of no such slot are as they were
--     delete-met          and so of the call, of a point that is present in slot i
--     delete-sound, delete-other      a message is sound, and the point is present, where the call is accepted
-- Assumes nothing.
use mathlib.Core.Path.{◌≡◌, refl, sym, ap, ◌∙◌}
use Prim.Native.Nat.{ℕ, ◌-◌, ◌≤◌, ◌<◌}
use native.Mathlib.Omega.{arith}
use mathlib.Core.Logic.{◌⊎◌, inl, inr}
use mathlib.Core.Bool.{true, false, ◌&&◌}
use lib.ListN.{length}
use Rattle.spec_file.specs.Bytes.{Bytes, part}
use Rattle.spec_file.specs.Limits.{points_field, header_size}
use Rattle.spec_file.specs.Image.{field, set_field, Layout, layout_of, slot_size, slot_start, slot, put_slot, offset_of, blank, vacant}
use Rattle.spec_file.specs.Search.{met, search, is_met, next, dist}
use Rattle.spec_file.specs.Messages.{retire}
use Rattle.spec_file.specs.Delete.{moved, closed, deleted_at}
use Rattle.spec_file.specs.Questions.{name_allowed, message_sound, some_point, open_number, delete_number}
use Rattle.spec_file.specs.Calls.{delete}
use Rattle.law_file.proofs.Tests.{by_bool, by-eq, by_le, and_left, not-both}
use Rattle.law_file.proofs.Bytes.{Apart}
use Rattle.law_file.proofs.Slots.{Room, length-slot, length-set_field, length-blank, slot-put_slot-other, slot-set_field}
use Rattle.law_file.proofs.Cyclic.{dist-lt, dist-self, dist-zero, dist_same, dist-next}
use Rattle.law_file.proofs.Table.{Taken}
use Rattle.law_file.proofs.Spread.{room-half, slot-moved-other}
use Rattle.law_file.proofs.Closing.{Going, closed-induct}
use Rattle.law_file.proofs.Opened.{Opened, opened-facts, opened-room}
use Rattle.law_file.proofs.Outcomes.{delete-closed, delete-7, delete-11, delete-14, delete-accepted}
use Rattle.law_file.proofs.Probe.{search-met}
use Rattle.law_file.proofs.Effects.{retire-kept, retire-slot}
use Rattle.law_frames.proofs.Added.{Off, field-keeps, slot-keeps, retire-keeps}

abbrev pub Walked : ℕ → ℕ → ℕ → ℕ → Type 0
Walked N i e k = (e ≡ i) ⊎ (dist N i k < dist N i e)

-- ---- the walk

module _ (g : Layout) (p n : ℕ) where
  -- the n bytes from p on are none of slot k's
  abbrev pub Spares : ℕ → Type 0
  Spares k = Apart p n (slot_start g k) (slot_size g)

  moved_keeps : (b : Bytes) (h j : ℕ) → Going g b h j → Spares h → Spares j → part (moved g b h j) p n ≡ part b p n
  unfolding moved
  moved_keeps b h j s a c =
      slot-keeps p n g (put_slot g b h (slot g b j)) (room-half g b s.room h j s.hole-lt s.slot_lt) j (blank g)
      s.slot_lt (length-blank g) c
      ∙ slot-keeps p n g b s.room h (slot g b j) s.hole-lt (length-slot g b s.room j s.slot_lt) a

  module _ (img : Bytes) (r : Room g (length img)) (i : ℕ) (l : i < g.N) where
    -- the slot itself is zeroed
    zeroed-keeps : Spares i → part (put_slot g img i (blank g)) p n ≡ part img p n
    zeroed-keeps a = slot-keeps p n g img r i (blank g) l (length-blank g) a

    -- no slot is vacant: the walk may go round
    closed-round : ((k : ℕ) → k < g.N → Spares k) → part (closed g img i) p n ≡ part img p n
    unfolding closed
    closed-round a =
        closed-induct g img r i l (λ b h j w. part w.image p n ≡ part b p n)
        (record {
          stop = λ b h j s v. refl;
          skip = λ b h j w s t y e. e;
          move = λ b h j w s t y e. e ∙ moved_keeps b h j s (a h s.hole-lt) (a j s.slot_lt);
        })
        ∙ zeroed-keeps (a i l)

    -- slot e is vacant: the walk ends there or before
    module _ (e : ℕ) (le : e < g.N) (v : vacant g (slot g img e) ≡ true) (other : e ≡ i → ⊥)
        (a : (k : ℕ) → k < g.N → dist g.N i k < dist g.N i e → Spares k) where
      abbrev d : ℕ
      d = dist g.N i e

      -- a slot that is taken and not behind e is before e
      before-e : (b : Bytes) (j : ℕ) → j < g.N → vacant g (slot g b e) ≡ true → Taken g b j → dist g.N i j ≤ d
          → dist g.N i j < d
      before-e b j lj ve t h =
          by-eq (dist g.N i j) d
          (λ q. absurd (not-both (vacant g (slot g b e)) ve
          (ap (λ (k : ℕ). vacant g (slot g b k)) (sym (dist_same g.N i j e l lj le q)) ∙ t)))
          (λ q. by_le d (dist g.N i j) (λ m. absurd (q (omega arith))) (λ m. m))

      -- the slot after it is not behind e
      after-it : (j : ℕ) → j < g.N → dist g.N i j < d → dist g.N i (next g.N j) ≤ d
      after-it j lj h = omega (arith, dist-next g.N i j l lj (omega (arith, dist-lt g.N i e l le)))

      not-e : (k : ℕ) → dist g.N i k < d → e ≡ k → ⊥
      not-e k h q = omega (arith, ap (dist g.N i) q)

      some-way : 0 < d
      some-way = by_le d 0 (λ h. absurd (other (sym (dist-zero g.N i e l le (omega arith))))) (λ h. h)

      closed-to : part (closed g img i) p n ≡ part img p n
      unfolding closed
      closed-to =
          closed-induct g img r i l
          (λ b h j w. dist g.N i h < d → dist g.N i j ≤ d → vacant g (slot g b e) ≡ true
          → part w.image p n ≡ part b p n)
          (record {
            stop = λ b h j s y x1 x2 x3. refl;
            skip = λ b h j w s t y ih hole here ve.
                ih hole (after-it j s.slot_lt (before-e b j s.slot_lt ve t here)) ve;
            move = λ b h j w s t y ih hole here ve.
                let at : dist g.N i j < d = before-e b j s.slot_lt ve t here in
                ih at (after-it j s.slot_lt at)
                (ap (vacant g)
                (slot-moved-other g b s.room h j s.hole-lt s.slot_lt e (not-e h hole) (not-e j at))
                ∙ ve)
                ∙ moved_keeps b h j s (a h s.hole-lt hole) (a j s.slot_lt at);
          })
          (omega (arith, dist-self g.N i, some-way))
          (after-it i l (omega (arith, dist-self g.N i, some-way)))
          (ap (vacant g) (slot-put_slot-other g img r i (blank g) e l (length-blank g) other) ∙ v)
          ∙ zeroed-keeps (a i l (omega (arith, dist-self g.N i, some-way)))

    pub closed-keeps : (e : ℕ) → e < g.N → ((e ≡ i → ⊥) → vacant g (slot g img e) ≡ true)
        → ((k : ℕ) → k < g.N → Walked g.N i e k → Spares k)
        → part (closed g img i) p n ≡ part img p n
    closed-keeps e le v a =
        by-eq e i
        (λ q. closed-round (λ k lk. a k lk (inl q)))
        (λ q. closed-to e le (v q) q (λ k lk h. a k lk (inr h)))

-- ---- the call

module _ (img key : Bytes) (z : delete_number img key ≡ 0) (p n i e : ℕ) where
  abbrev H : Layout
  H = layout_of img

  abbrev at : ℕ
  at = offset_of H (slot H img i)

  opens : open_number img ≡ 0
  opens = by-eq (open_number img) 0 (λ q. q) (λ q. absurd (q (sym (delete-closed img key q) ∙ z)))

  o : Opened img
  o = opened-facts img opens

  some-slot : 0 < H.N
  unfolding layout_of
  some-slot = omega (arith, o.slots-low)

  refused : (k : ℕ) → delete_number img key ≡ k → (k ≡ 0 → ⊥) → ⊥
  refused k q w = w (sym q ∙ z)

  taken_out : i < H.N → message_sound H img at ≡ true → header_size ≤ p → Off at 1 p n
      → e < H.N → ((e ≡ i → ⊥) → vacant H (slot H img e) ≡ true)
      → ((k : ℕ) → k < H.N → Walked H.N i e k → Spares H p n k)
      → part (deleted_at H img i) p n ≡ part img p n
  unfolding deleted_at
  taken_out l s h c le v a =
      let off = retire img at in
      let size : length off ≡ length img = (retire-kept img o at s).fixed.size in
      let fewer : Bytes = set_field off points_field (field img points_field - 1) in
      let len : length fewer ≡ length off =
      length-set_field off points_field (field img points_field - 1) (omega (arith, o.size_low)) in
      let room : Room H (length off) = rw size (opened-room img o) in
      closed-keeps H p n fewer (rw len room) i l e le
      (λ q. ap (vacant H)
      (slot-set_field H off room points_field (field img points_field - 1) e (omega arith) le
      ∙ retire-slot img o at s e le)
      ∙ v q)
      a
      ∙ field-keeps p n off points_field (field img points_field - 1) (omega arith)
      ∙ retire-keeps img o p n at s c

  pub delete-sound : search H img key ≡ met i → message_sound H img at ≡ true
  delete-sound m =
      by_bool (name_allowed H.K key)
      (λ y. by_bool (message_sound H img at && some_point img)
      (λ s. and_left _ (some_point img) s)
      (λ s. absurd (refused 11 (delete-11 img key opens y i m s) (λ w. omega arith))))
      (λ y. absurd (refused 7 (delete-7 img key opens y) (λ w. omega arith)))

  pub delete-met : search H img key ≡ met i → header_size ≤ p → Off at 1 p n
      → e < H.N → ((e ≡ i → ⊥) → vacant H (slot H img e) ≡ true)
      → ((k : ℕ) → k < H.N → Walked H.N i e k → Spares H p n k)
      → part (delete img key).after p n ≡ part img p n
  delete-met m h c le v a =
      by_bool (name_allowed H.K key)
      (λ y.
      ap (λ (x : Bytes). part x p n) (delete-accepted img key opens y i m z)
      ∙ taken_out (search-met H img key some-slot i m).0 (delete-sound m) h c le v a)
      (λ y. absurd (refused 7 (delete-7 img key opens y) (λ w. omega arith)))

  -- the point is present
  pub delete-other : is_met (search H img key) ≡ false → ⊥
  delete-other h =
      by_bool (name_allowed H.K key)
      (λ y. refused 14 (delete-14 img key opens y h) (λ w. omega arith))
      (λ y. refused 7 (delete-7 img key opens y) (λ w. omega arith))
