-- Delete's walk: its turns, an induction over it, and that the count of looks is never what ends it.
--     Going g img h j     the walk's state: the table lies in the image, h and j are slots, the hole h is vacant
--     left g img h j      spread + dist j h, which falls by one with every slot looked at; `looks` is one more
--     close-induct         what stops, skips and moves keep holds of every walk with enough looks
--     turn-stop, turn-skip, turn-move     one turn of the walk with `looks` looks
--     close_more, close-ends, closed-looks, closed-ends     enough looks are enough
-- Assumes nothing.
use mathlib.Core.Path.{◌≡◌, refl, sym, ap, ◌∙◌, subst}
use Prim.Native.Nat.{ℕ, zero, suc, ◌+◌, ◌-◌, ◌*◌, ◌≤◌, ◌<◌}
use native.Mathlib.Nat.{mul-suc}
use native.Mathlib.Omega.{arith}
use mathlib.Core.Bool.{true, false}
use lib.ListN.{length}
use borrow.Author.Tests.{ltb-true, ltb-false}
use Rattle.spec_file.specs.Bytes.{Bytes}
use Rattle.spec_file.specs.Image.{Layout, slot, put_slot, blank, vacant}
use Rattle.spec_file.specs.Search.{next, dist}
use Rattle.spec_file.specs.Delete.{stays, moved, Closing, close_from, closed}
use Rattle.law_file.proofs.Tests.{by_bool, not-both}
use Rattle.law_file.proofs.Slots.{Room, length-put_slot, slot-put_slot-same, length-blank, vacant-blank}
use Rattle.law_file.proofs.Cyclic.{next-lt, dist-lt, dist-back, dist-from-next, dist-next-self, among-dist}
use Rattle.law_file.proofs.Table.{Taken, key_at, home_at}
use Rattle.law_file.proofs.Spread.{spread, spread-bound, spread-moved, length_moved, room_moved, vacant-moved, room-put_slot}
use Rattle.law_file.proofs.Probe.{home-lt}

pub record Going (g : Layout) (img : Bytes) (h j : ℕ) : Type 0 where
  pub room : Room g (length img)
  pub hole-lt : h < g.N
  pub slot_lt : j < g.N
  pub hole : vacant g (slot g img h) ≡ true

unfoldable pub left : Layout → Bytes → ℕ → ℕ → ℕ
left g img h j = spread g img + dist g.N j h

abbrev pub looks : Layout → Bytes → ℕ → ℕ → ℕ
looks g img h j = suc (left g img h j)

-- the walk that has ended at slot j
abbrev pub ended : Bytes → ℕ → Closing
ended img j = record { image = img; at = j }

-- ---- one look
pub close-stop : (f : ℕ) (g : Layout) (img : Bytes) (h j : ℕ) → vacant g (slot g img j) ≡ true
    → close_from f g img h j ≡ ended img j
unfolding close_from
close-stop zero g img h j v = refl
close-stop (suc f) g img h j v = rw (v, close_from)

pub close-skip : (f : ℕ) (g : Layout) (img : Bytes) (h j : ℕ) → Taken g img j → stays g img h j ≡ true
    → close_from (suc f) g img h j ≡ close_from f g img h (next g.N j)
unfolding close_from
close-skip f g img h j t a = rw (t, close_from, a)

pub close-move : (f : ℕ) (g : Layout) (img : Bytes) (h j : ℕ) → Taken g img j → stays g img h j ≡ false
    → close_from (suc f) g img h j ≡ close_from f g (moved g img h j) j (next g.N j)
unfolding close_from
close-move f g img h j t a = rw (t, close_from, a)

-- ---- a turn, and its measure
module _ (g : Layout) (img : Bytes) (h j : ℕ) (s : Going g img h j) (t : Taken g img j) where
  -- the hole is vacant, slot j is taken
  pub hole-other : h ≡ j → ⊥
  hole-other e = not-both (vacant g (slot g img j)) (subst (λ (k : ℕ). vacant g (slot g img k) ≡ true) e s.hole) t

  home-slot : home_at g img j < g.N
  home-slot = home-lt g (key_at g img j) (omega (arith, s.slot_lt))

  -- the test, by distances
  pub stays-near : stays g img h j ≡ true → dist g.N (home_at g img j) j < dist g.N h j
  stays-near a =
      ltb-true (dist g.N (home_at g img j) j) (dist g.N h j)
      (sym (among-dist g.N h j (home_at g img j) s.hole-lt s.slot_lt home-slot hole-other) ∙ a)

  pub goes-far : stays g img h j ≡ false → dist g.N h j ≤ dist g.N (home_at g img j) j
  goes-far a =
      ltb-false (dist g.N (home_at g img j) j) (dist g.N h j)
      (sym (among-dist g.N h j (home_at g img j) s.hole-lt s.slot_lt home-slot hole-other) ∙ a)

  pub going-skip : Going g img h (next g.N j)
  going-skip =
      record { room = s.room; hole-lt = s.hole-lt; slot_lt = next-lt g.N j s.slot_lt; hole = s.hole }

  pub going-move : Going g (moved g img h j) j (next g.N j)
  going-move =
      record {
        room = room_moved g img s.room h j s.hole-lt s.slot_lt;
        hole-lt = s.slot_lt;
        slot_lt = next-lt g.N j s.slot_lt;
        hole = vacant-moved g img s.room h j s.hole-lt s.slot_lt;
      }

  pub left-skip : left g img h j ≡ looks g img h (next g.N j)
  unfolding left
  left-skip =
      omega (arith, dist-from-next g.N j h s.slot_lt s.hole-lt (λ e. hole-other (sym e)))

  pub left-move : stays g img h j ≡ false → left g img h j ≡ looks g (moved g img h j) j (next g.N j)
  unfolding left
  left-move a =
      omega (
        arith,
        spread-moved g img s.room h j s.hole-lt s.slot_lt hole-other s.hole t (goes-far a),
        dist-back g.N h j s.hole-lt s.slot_lt hole-other,
        dist-next-self g.N j s.slot_lt,
      )

-- ---- the turns of the walk with `looks` looks
module _ (g : Layout) (img : Bytes) (h j : ℕ) where
  pub turn-stop : vacant g (slot g img j) ≡ true → close_from (looks g img h j) g img h j ≡ ended img j
  turn-stop v = close-stop (looks g img h j) g img h j v

  pub turn-image : vacant g (slot g img j) ≡ true → (close_from (looks g img h j) g img h j).image ≡ img
  turn-image v = ap (λ (w : Closing). w.image) (turn-stop v)

  pub turn-skip : Going g img h j → Taken g img j → stays g img h j ≡ true
      → close_from (looks g img h j) g img h j ≡ close_from (looks g img h (next g.N j)) g img h (next g.N j)
  turn-skip s t a =
      close-skip (left g img h j) g img h j t a
      ∙ ap (λ (f : ℕ). close_from f g img h (next g.N j)) (left-skip g img h j s t)

  pub turn-move : Going g img h j → Taken g img j → stays g img h j ≡ false
      → close_from (looks g img h j) g img h j
      ≡ close_from (looks g (moved g img h j) j (next g.N j)) g (moved g img h j) j (next g.N j)
  turn-move s t a =
      close-move (left g img h j) g img h j t a
      ∙ ap (λ (f : ℕ). close_from f g (moved g img h j) j (next g.N j)) (left-move g img h j s t a)

-- ---- induction over the walk

-- what is to be kept, of the image, the hole, the slot looked at next, and how the walk ends
abbrev pub Kept : Type 1
Kept = Bytes → ℕ → ℕ → Closing → Type 0

pub record Keeps (g : Layout) (P : Kept) : Type 0 where
  pub stop : (img : Bytes) (h j : ℕ) → Going g img h j → vacant g (slot g img j) ≡ true → P img h j (ended img j)
  pub skip : (img : Bytes) (h j : ℕ) (w : Closing) → Going g img h j → Taken g img j → stays g img h j ≡ true
      → P img h (next g.N j) w → P img h j w
  pub move : (img : Bytes) (h j : ℕ) (w : Closing) → Going g img h j → Taken g img j → stays g img h j ≡ false
      → P (moved g img h j) j (next g.N j) w → P img h j w

pub close-induct : (g : Layout) (P : Kept) → Keeps g P → (f : ℕ) (img : Bytes) (h j : ℕ) → Going g img h j
    → left g img h j < f
    → P img h j (close_from f g img h j)
close-induct g P c zero img h j s l = absurd (omega arith)
close-induct g P c (suc f) img h j s l =
    let ih : (img' : Bytes) (h' j' : ℕ) → Going g img' h' j' → left g img' h' j' < f
    → P img' h' j' (close_from f g img' h' j')
    = λ img' h' j'. close-induct g P c f img' h' j' in
    by_bool (vacant g (slot g img j))
    (λ v. subst (P img h j) (sym (close-stop (suc f) g img h j v)) (c.stop img h j s v))
    (λ t. by_bool (stays g img h j)
    (λ a. subst (P img h j) (sym (close-skip f g img h j t a))
    (c.skip img h j (close_from f g img h (next g.N j)) s t a
    (ih img h (next g.N j) (going-skip g img h j s t) (omega (arith, left-skip g img h j s t)))))
    (λ a. subst (P img h j) (sym (close-move f g img h j t a))
    (c.move img h j (close_from f g (moved g img h j) j (next g.N j)) s t a
    (ih (moved g img h j) j (next g.N j) (going-move g img h j s t) (omega (arith, left-move g img h j s t a))))))

-- ---- the count of looks is never what ends the walk
More : Layout → Kept
More g img h j w = (f : ℕ) → left g img h j < f → close_from f g img h j ≡ w

more-keeps : (g : Layout) → Keeps g (More g)
unfolding More
more-keeps g =
    record {
      stop = λ img h j s v f l. close-stop f g img h j v;
      skip = λ img h j w s t a p f l. after img h j (left g img h j) w f l
          (λ f' l'. close-skip f' g img h j t a ∙ p f' (omega (arith, left-skip g img h j s t)));
      move = λ img h j w s t a p f l. after img h j (left g img h j) w f l
          (λ f' l'. close-move f' g img h j t a ∙ p f' (omega (arith, left-move g img h j s t a)));
    }
  where
    after : (img : Bytes) (h j m : ℕ) (w : Closing) (f : ℕ) → m < f
        → ((f' : ℕ) → m < suc f' → close_from (suc f') g img h j ≡ w) → close_from f g img h j ≡ w
    after img h j m w zero l k = absurd (omega arith)
    after img h j m w (suc f) l k = k f l

pub close_more : (g : Layout) (f f' : ℕ) (img : Bytes) (h j : ℕ) → Going g img h j → left g img h j < f
    → left g img h j < f'
    → close_from f g img h j ≡ close_from f' g img h j
unfolding More
close_more g f f' img h j s l l' = close-induct g (More g) (more-keeps g) f' img h j s l' f l

-- the slot at which the walk ends is vacant
pub close-ends : (g : Layout) (f : ℕ) (img : Bytes) (h j : ℕ) → Going g img h j → left g img h j < f
    → vacant g (slot g (close_from f g img h j).image (close_from f g img h j).at) ≡ true
close-ends g f img h j s l =
    close-induct g (λ img' h' j' w. vacant g (slot g w.image w.at) ≡ true)
    (record { stop = λ img h j s v. v; skip = λ img h j w s t a p. p; move = λ img h j w s t a p. p })
    f img h j s l

pub length-close : (g : Layout) (f : ℕ) (img : Bytes) (h j : ℕ) → Going g img h j → left g img h j < f
    → length (close_from f g img h j).image ≡ length img
length-close g f img h j s l =
    close-induct g (λ img' h' j' w. length w.image ≡ length img')
    (record {
      stop = λ img h j s v. refl;
      skip = λ img h j w s t a p. p;
      move = λ img h j w s t a p. p ∙ length_moved g img s.room h j s.hole-lt s.slot_lt;
    })
    f img h j s l

-- ---- closed: the slot is zeroed and is the hole
square : (n : ℕ) → 0 < n → n * (n - 1) + n ≡ n * n
square zero h = absurd (omega arith)
square (suc n) h = ap (λ (m : ℕ). suc n * m + suc n) (omega arith) ∙ sym (mul-suc (suc n) n)

-- N × N looks are enough from every start
pub left-bound : (g : Layout) (img : Bytes) (h j : ℕ) → Going g img h j → left g img h j < g.N * g.N
unfolding left
left-bound g img h j s =
    omega (
      arith,
      spread-bound g img,
      dist-lt g.N j h s.slot_lt s.hole-lt,
      square g.N (omega (arith, s.slot_lt)),
    )

module _ (g : Layout) (img : Bytes) (r : Room g (length img)) (i : ℕ) (l : i < g.N) where
  pub going-closed : Going g (put_slot g img i (blank g)) i (next g.N i)
  going-closed =
      record {
        room = room-put_slot g img r i (blank g) l (length-blank g);
        hole-lt = l;
        slot_lt = next-lt g.N i l;
        hole = ap (vacant g) (slot-put_slot-same g img r i (blank g) l (length-blank g)) ∙ vacant-blank g;
      }

  enough : left g (put_slot g img i (blank g)) i (next g.N i) < g.N * g.N
  enough = left-bound g (put_slot g img i (blank g)) i (next g.N i) going-closed

  -- what every walk keeps, of the walk in `closed`
  pub closed-induct : (P : Kept) → Keeps g P
      → P (put_slot g img i (blank g)) i (next g.N i)
      (close_from (g.N * g.N) g (put_slot g img i (blank g)) i (next g.N i))
  closed-induct P c = close-induct g P c (g.N * g.N) (put_slot g img i (blank g)) i (next g.N i) going-closed enough

  pub closed-looks : closed g img i
      ≡ (close_from (looks g (put_slot g img i (blank g)) i (next g.N i)) g (put_slot g img i (blank g)) i
      (next g.N i)).image
  unfolding closed
  closed-looks =
      ap (λ (w : Closing). w.image)
      (close_more g (g.N * g.N) (looks g (put_slot g img i (blank g)) i (next g.N i)) (put_slot g img i (blank g)) i
      (next g.N i) going-closed enough (omega arith))

  -- the walk in `closed` ends at a vacant slot, not at the end of its count
  pub closed-ends :
      let ends : ℕ = (close_from (g.N * g.N) g (put_slot g img i (blank g)) i (next g.N i)).at in
      vacant g (slot g (closed g img i) ends) ≡ true
  unfolding closed
  closed-ends = close-ends g (g.N * g.N) (put_slot g img i (blank g)) i (next g.N i) going-closed enough

  pub length-closed : length (closed g img i) ≡ length img
  unfolding closed
  length-closed =
      length-close g (g.N * g.N) (put_slot g img i (blank g)) i (next g.N i) going-closed enough
      ∙ length-put_slot g img r i (blank g) l (length-blank g)
