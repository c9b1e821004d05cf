-- The space of the active messages after a delete, on any image whose header is accepted: that of the image in which
-- alone the message was made inactive. Closing the gap keeps a sum over the taken slots, and the slot that goes counted
-- nothing by then.
--     active_of g img s       what the bytes s of a slot count, if it is taken
--     active-sum             the sum over the slots from the first on
--     active-weight          is one over the taken slots' bytes
--     SameArea               two images have the same data area and the same X
--     retired-quiet          a message that was made inactive is not active
--     active-deleted         the law
-- Assumes nothing.
use mathlib.Core.Path.{◌≡◌, refl, sym, ap, ap₂, ◌∙◌}
use Prim.Native.Nat.{ℕ, zero, suc, ◌+◌, ◌-◌, ◌≤◌, ◌<◌}
use native.Mathlib.Nat.{add-zero, zero-add}
use native.Mathlib.Omega.{arith}
use mathlib.Core.Logic.{inl, inr}
use mathlib.Core.Bool.{Bool, true, false, cond, not, ◌&&◌, ◌||◌}
use mathlib.Core.List.{[], ◌∷◌}
use lib.ListN.{length}
use lib.Dec.{eqb, leb}
use borrow.Author.Tests.{eq-eqb, ne_eqb, lt-leb, not-true}
use Rattle.spec_file.specs.Bytes.{Bytes, part, number}
use Rattle.spec_file.specs.Limits.{active, inactive, points_field, free_field, data_field, table_start}
use Rattle.spec_file.specs.Image.{field, set_field, Layout, layout_of, slot, offset_of, vacant}
use Rattle.spec_file.specs.Messages.{head_size, letter_at, length_at, is_active, retire}
use Rattle.spec_file.specs.Delete.{closed, deleted_at}
use Rattle.spec_file.specs.Questions.{message_sound}
use Rattle.spec_file.specs.Inspect.{taken}
use Rattle.spec_moves.specs.Moves.{active_at, active_from, active_space}
use Rattle.law_file.proofs.Tests.{by_bool, by-eq, by_le}
use Rattle.law_file.proofs.Bytes.{part-store-same}
use Rattle.law_file.proofs.Slots.{Room, slot-set_field, part-set_field-other, field-set_field-other}
use Rattle.law_file.proofs.Total.{total, total-same}
use Rattle.law_file.proofs.Opened.{Opened, opened-room}
use Rattle.law_file.proofs.Table.{Taken, weigh, weight}
use Rattle.law_file.proofs.Frames.{part-closed, field-closed, weight-closed}
use Rattle.law_file.proofs.Insert.{weight-frame}
use Rattle.law_file.proofs.Effects.{area-above, by-retire, retire-slot, retire-field}
use Rattle.law_moves.proofs.Again.{Again, again-layout, retire-again, points-again, deleted-again}

-- ---- the sum as one over the taken slots' bytes

-- what a taken slot of the bytes s counts
unfoldable pub active_of : Layout → Bytes → Bytes → ℕ
active_of g img s =
    let o : ℕ = offset_of g s in
    cond (is_active img o && message_sound g img o) (head_size g + length_at g img o) 0

active-weigh : (g : Layout) (img : Bytes) (i : ℕ) → active_at g img i ≡ weigh g (active_of g img) (slot g img i)
unfolding active_at active_of weigh taken
active-weigh g img i = by_bool (vacant g (slot g img i)) (λ y. rw y refl) (λ n. rw n refl)

-- those from i on, and those below i
active-total : (g : Layout) (img : Bytes) (n i : ℕ)
    → active_from g img n i + total (active_at g img) i ≡ total (active_at g img) (i + n)
unfolding active_from total
active-total g img zero i = rw (add-zero i) (zero-add (total (active_at g img) i))
active-total g img (suc n) i =
    let ih : active_from g img n (suc i) + (total (active_at g img) i + active_at g img i)
    ≡ total (active_at g img) (suc i + n) = active-total g img n (suc i) in
    let at : suc i + n ≡ i + suc n = omega arith in
    omega (arith, ap (total (active_at g img)) at)

pub active-sum : (g : Layout) (img : Bytes) → active_from g img g.N 0 ≡ total (active_at g img) g.N
unfolding total
active-sum g img =
    let all : active_from g img g.N 0 + 0 ≡ total (active_at g img) (0 + g.N) = active-total g img g.N 0 in
    omega (arith, ap (total (active_at g img)) (zero-add g.N))

pub active-weight : (g : Layout) (img : Bytes) → active_from g img g.N 0 ≡ weight g img (active_of g img)
unfolding weight
active-weight g img =
    active-sum g img
    ∙ total-same (active_at g img) (λ i. weigh g (active_of g img) (slot g img i)) g.N (λ i l. active-weigh g img i)

-- ---- what it reads: the data area, and X
pub record SameArea (g : Layout) (img img' : Bytes) : Type 0 where
  pub area : (p m : ℕ) → g.D ≤ p → part img' p m ≡ part img p m
  pub free : field img' free_field ≡ field img free_field

module _ (g : Layout) (img : Bytes) (o : ℕ) where
  active-none : o ≡ 0 → is_active img o ≡ false
  unfolding is_active
  active-none z = rw (eq-eqb o 0 z) refl

  below-unsound : (o ≡ 0 → ⊥) → o < g.D → message_sound g img o ≡ false
  unfolding message_sound
  below-unsound z l = rw (ne_eqb o 0 z, lt-leb g.D o l) refl

and_no : (a b : Bool) → b ≡ false → (a && b) ≡ false
and_no true b e = e
and_no false b e = refl

module _ (g : Layout) (img img' : Bytes) (a : SameArea g img img') where
  same-active : (s : Bytes) → active_of g img' s ≡ active_of g img s
  unfolding active_of
  same-active s =
      let o : ℕ = offset_of g s in
      by-eq o 0
      (λ z. rw (active-none g img' o z, active-none g img o z) refl)
      (λ z. by_le g.D o
      (λ le. there o le)
      (λ lt. rw (
        and_no (is_active img' o) _ (below-unsound g img' o z lt),
        and_no (is_active img o) _ (below-unsound g img o z lt),
      ) refl))
    where
      there : (o : ℕ) → g.D ≤ o
          → cond (is_active img' o && message_sound g img' o) (head_size g + length_at g img' o) 0
          ≡ cond (is_active img o && message_sound g img o) (head_size g + length_at g img o) 0
      there o le = unfold is_active message_sound letter_at length_at in
          rw (a.area o 1 le, a.area (o + 1) g.W (omega arith), a.free) refl

weight-by : (g : Layout) (img : Bytes) (w w' : Bytes → ℕ) → ((s : Bytes) → w s ≡ w' s)
    → weight g img w ≡ weight g img w'
unfolding weight weigh
weight-by g img w w' e =
    total-same (λ i. cond (vacant g (slot g img i)) 0 (w (slot g img i)))
    (λ i. cond (vacant g (slot g img i)) 0 (w' (slot g img i))) g.N
    (λ i l. ap (cond (vacant g (slot g img i)) 0) (e (slot g img i)))

-- a message that was made inactive is not active
pub retired-quiet : (img : Bytes) → Opened img → (at : ℕ) → message_sound (layout_of img) img at ≡ true
    → is_active (retire img at) at ≡ false
retired-quiet img o at s =
    by-retire img o at s (λ (x : Bytes). is_active x at ≡ false)
    (λ h lo hi. unfold is_active letter_at number in
    rw (part-store-same img at (inactive ∷ []) (omega arith))
    (by_bool (not (eqb at 0)) (λ y. rw y refl) (λ n. rw n refl)))
    (λ h. h)

-- ---- the law
module _ (img : Bytes) (o : Opened img) (i : ℕ) (l : i < (layout_of img).N) (t : taken (layout_of img) img i ≡ true)
    (s : message_sound (layout_of img) img (offset_of (layout_of img) (slot (layout_of img) img i)) ≡ true) where
  abbrev g : Layout
  g = layout_of img

  abbrev at : ℕ
  at = offset_of g (slot g img i)

  abbrev off : Bytes
  off = retire img at

  abbrev fewer : Bytes
  fewer = set_field off points_field (field img points_field - 1)

  abbrev gone : Bytes
  gone = deleted_at g img i

  off-again : Again img off
  off-again = retire-again img o at s

  few : field img points_field - 1 ≤ g.N
  unfolding layout_of
  few = omega (arith, o.points)

  fewer-again : Again img fewer
  fewer-again = points-again img o off off-again (field img points_field - 1) few

  room : Room g (length fewer)
  room = rw fewer-again.fixed.size (opened-room img o)

  off-room : Room g (length off)
  off-room = rw off-again.fixed.size (opened-room img o)

  long : 4096 ≤ length off
  long = off-again.opened.size_low

  above : table_start ≤ g.D
  above = omega (arith, (opened-room img o).table)

  same_area : SameArea g off gone
  unfolding deleted_at
  same_area =
      record {
        area = λ p m le.
            part-closed g fewer room i l p m (inr le)
            ∙ part-set_field-other off points_field (field img points_field - 1) p m (omega (arith, long))
            (inr (omega (arith, above)));
        free =
            field-closed g fewer room i l free_field (omega arith)
            ∙ field-set_field-other off points_field (field img points_field - 1) free_field (omega (arith, long))
            (inr (omega arith));
      }

  fewer-slots : (k : ℕ) → k < g.N → slot g fewer k ≡ slot g off k
  fewer-slots k lk = slot-set_field g off off-room points_field (field img points_field - 1) k (omega arith) lk

  same-slot : slot g fewer i ≡ slot g img i
  same-slot = fewer-slots i l ∙ retire-slot img o at s i l

  taken-there : Taken g fewer i
  unfolding taken
  taken-there = ap (vacant g) same-slot ∙ not-true (vacant g (slot g img i)) t

  -- the message is inactive by then
  quiet : is_active off at ≡ false
  quiet = retired-quiet img o at s

  counts-none : active_of g off (slot g fewer i) ≡ 0
  unfolding active_of
  counts-none = rw (same-slot, quiet) refl

  pub active-deleted : active_space gone ≡ active_space off
  unfolding active_space deleted_at
  active-deleted =
      let W : Bytes → ℕ = active_of g off in
      let one : active_from g gone g.N 0 ≡ weight g gone W =
      active-weight g gone ∙ weight-by g gone (active_of g gone) W (same-active g off gone same_area) in
      let two : weight g gone W + W (slot g fewer i) ≡ weight g fewer W =
      weight-closed g fewer room i l taken-there W in
      let three : weight g fewer W ≡ weight g off W = weight-frame g off fewer W fewer-slots in
      let there : active_from g gone g.N 0 ≡ active_from g off g.N 0 =
      omega (arith, one, two, three, counts-none, active-weight g off) in
      ap (λ (h : Layout). active_from h gone h.N 0) (again-layout img gone o (deleted-again img o i l s))
      ∙ there
      ∙ sym (ap (λ (h : Layout). active_from h off h.N 0) (again-layout img off o off-again))
