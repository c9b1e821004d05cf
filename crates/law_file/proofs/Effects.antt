-- The effects of a call on any image whose header is accepted, and what they leave as it was for the next step.
--     retire, take_space, set_field C      each keeps what no call changes, and the header is accepted again
--     by-retire          what an image with its message retired is
--     Spaced, spaced     what new space leaves, and what stands in it
-- Assumes nothing.
use mathlib.Core.Path.{◌≡◌, refl, sym, ap, ◌∙◌}
use Prim.Native.Nat.{ℕ, ◌+◌, ◌≤◌, ◌<◌}
use native.Mathlib.Omega.{arith}
use mathlib.Core.Logic.{inl, inr}
use mathlib.Core.Bool.{true, false, not}
use mathlib.Core.List.{[], ◌∷◌}
use lib.ListN.{length, length-append}
use lib.Dec.{eqb}
use borrow.Author.Tests.{eq-eqb, not-true}
use Rattle.spec_file.specs.Bytes.{Bytes, part, store, digits}
use Rattle.spec_file.specs.Limits.{page_size, active, inactive, points_field, free_field, page_field, slots_field, data_field, header_size, table_start}
use Rattle.spec_file.specs.Image.{field, set_field, last_page, major_of, wide, width_of, Layout, layout_of, slot_size, slot_start, slot}
use Rattle.spec_file.specs.Messages.{head_size, is_active, message, set_free, take_space, retire}
use Rattle.spec_file.specs.Questions.{message_sound}
use Rattle.law_file.proofs.Tests.{by_bool, by-eq, and_left, not-both}
use Rattle.law_file.proofs.Bytes.{length-store, part-store-same, part-store-below, part-store-above, length_digits}
use Rattle.law_file.proofs.Slots.{slot-above, slot-store-data, part-set_field-other, field-store-other, field-set_field-other, field-set_field-same, length-set_field}
use Rattle.law_file.proofs.Opened.{Opened, opened-room}
use Rattle.law_file.proofs.Kept.{Kept, kept_refl, kept_trans, kept_store, kept-points, kept_free, kept-page, opened-kept}
use Rattle.law_file.proofs.Stretch.{span, sound-lies}

-- the data area begins above the table's start
pub area-above : (img : Bytes) → Opened img → table_start ≤ field img data_field
unfolding layout_of
area-above img o = omega (arith, (opened-room img o).table)

-- a message's offset other than 0 lies in the data area, and its header in the image
pub message-low : (img : Bytes) → Opened img → (at : ℕ) → message_sound (layout_of img) img at ≡ true → (at ≡ 0 → ⊥)
    → field img data_field ≤ at
unfolding layout_of
message-low img o at s z = (sound-lies (layout_of img) img at s z).low

pub message-end : (img : Bytes) → Opened img → (at : ℕ) → message_sound (layout_of img) img at ≡ true → (at ≡ 0 → ⊥)
    → at + span (layout_of img) img at ≤ field img free_field
message-end img o at s z = (sound-lies (layout_of img) img at s z).end

-- a header has 4 or 5 bytes
pub head-least : (img : Bytes) → 4 ≤ head_size (layout_of img)
unfolding head_size layout_of width_of
head-least img = by_bool (wide (major_of img)) (λ y. rw y (omega arith)) (λ n. rw n (omega arith))

pub head-most : (img : Bytes) → head_size (layout_of img) ≤ 5
unfolding head_size layout_of width_of
head-most img = by_bool (wide (major_of img)) (λ y. rw y (omega arith)) (λ n. rw n (omega arith))

head_small : (img : Bytes) → head_size (layout_of img) ≤ page_size
head_small img = omega (arith, head-most img)

pub message-fits : (img : Bytes) → Opened img → (at : ℕ) → message_sound (layout_of img) img at ≡ true
    → at + head_size (layout_of img) ≤ length img
message-fits img o at s =
    by-eq at 0
    (λ z. omega (arith, o.size_low, head_small img))
    (λ z. omega (arith, message-end img o at s z, o.free-high))

-- the header has 4 bytes
pub message-head : (img : Bytes) → Opened img → (at : ℕ) → message_sound (layout_of img) img at ≡ true
    → at + 4 ≤ length img
message-head img o at s = omega (arith, message-fits img o at s, head-least img)

-- the letter is the header's first byte
letter-first : (img : Bytes) → 1 ≤ head_size (layout_of img)
unfolding head_size
letter-first img = omega arith

-- ---- retire

pub active-some : (img : Bytes) (at : ℕ) → is_active img at ≡ true → at ≡ 0 → ⊥
unfolding is_active
active-some img at h z = not-both (eqb at 0) (eq-eqb at 0 z) (not-true (eqb at 0) (and_left (not (eqb at 0)) _ h))

module _ (img : Bytes) (o : Opened img) (at : ℕ) (s : message_sound (layout_of img) img at ≡ true) where
  -- by cases on the letter
  pub by-retire : (P : Bytes → Type 0)
      → (is_active img at ≡ true → (field img data_field ≤ at) → (at + 1 ≤ length img) → P (store img at (inactive ∷ [])))
      → (is_active img at ≡ false → P img) → P (retire img at)
  unfolding retire
  by-retire P yes' no' =
      by_bool (is_active img at)
      (λ h. rw h
      (yes' h (message-low img o at s (active-some img at h))
      (omega (arith, message-fits img o at s, letter-first img))))
      (λ h. rw h (no' h))

  pub retire-kept : Kept img (retire img at)
  retire-kept =
      by-retire (λ (i : Bytes). Kept img i)
      (λ h lo hi. kept_store img at (inactive ∷ []) hi (omega (arith, area-above img o)))
      (λ h. kept_refl img)

  pub retire-field : (f : ℕ) → f + 4 ≤ table_start → field (retire img at) f ≡ field img f
  retire-field f l =
      by-retire (λ (i : Bytes). field i f ≡ field img f)
      (λ h lo hi. field-store-other img at (inactive ∷ []) f hi (inl (omega (arith, area-above img o))))
      (λ h. refl)

  pub retire-slot : (k : ℕ) → k < (layout_of img).N → slot (layout_of img) (retire img at) k ≡ slot (layout_of img) img k
  retire-slot k l =
      by-retire (λ (i : Bytes). slot (layout_of img) i k ≡ slot (layout_of img) img k)
      (λ h lo hi. slot-store-data (layout_of img) img (opened-room img o) at (inactive ∷ []) k l
      (unfold layout_of in lo) hi)
      (λ h. refl)

  -- what stands behind the letter is as it was
  pub retire-behind : (p m : ℕ) → at + 1 ≤ p → part (retire img at) p m ≡ part img p m
  retire-behind p m l =
      by-retire (λ (i : Bytes). part i p m ≡ part img p m)
      (λ h lo hi. part-store-above img at (inactive ∷ []) p m hi l)
      (λ h. refl)

  pub retire-opened : Opened (retire img at)
  retire-opened =
      opened-kept retire-kept o
      (rw (retire-field points_field (omega arith)) o.points)
      (rw (retire-field free_field (omega arith)) o.free-low)
      (rw (retire-field free_field (omega arith)) o.free-high)

-- ---- C

module _ (img : Bytes) (o : Opened img) (n : ℕ) (l : n ≤ field img slots_field) where
  long : header_size ≤ length img
  long = omega (arith, o.size_low)

  pub points_kept : Kept img (set_field img points_field n)
  points_kept = kept-points img n long

  pub points-is : field (set_field img points_field n) points_field ≡ n
  points-is = field-set_field-same img points_field n (omega (arith, long)) (omega (arith, l, o.slots-high))

  pub points-free : field (set_field img points_field n) free_field ≡ field img free_field
  points-free = field-set_field-other img points_field n free_field (omega (arith, long)) (inr (omega arith))

  -- what stands behind the header is as it was
  pub points-behind : (p m : ℕ) → table_start ≤ p → part (set_field img points_field n) p m ≡ part img p m
  points-behind p m h = part-set_field-other img points_field n p m (omega (arith, long)) (inr (omega arith))

  pub points-opened : Opened (set_field img points_field n)
  points-opened =
      opened-kept points_kept o (rw points-is l) (rw points-free o.free-low) (rw points-free o.free-high)

-- ---- new space

pub length-message : (g : Layout) (t : Bytes) → length (message g.W t) ≡ head_size g + length t
unfolding message head_size
length-message g t =
    length-append (active ∷ digits g.W (length t)) t ∙ omega (arith, length_digits g.W (length t))

pub record Spaced (g : Layout) (img t : Bytes) : Type 0 where
  pub kept : Kept img (take_space g img t)
  pub free : field (take_space g img t) free_field ≡ field img free_field + head_size g + length t
  pub points : field (take_space g img t) points_field ≡ field img points_field
  pub slots : (k : ℕ) → k < g.N → slot g (take_space g img t) k ≡ slot g img k
  -- other messages end at or below X, and the new one stands there
  pub below : (p m : ℕ) → g.D ≤ p → p + m ≤ field img free_field → part (take_space g img t) p m ≡ part img p m
  pub there : part (take_space g img t) (field img free_field) (head_size g + length t) ≡ message g.W t

module _ (img : Bytes) (o : Opened img) (t : Bytes)
    (fits : field img free_field + head_size (layout_of img) + length t ≤ length img) where
  abbrev g : Layout
  g = layout_of img

  abbrev x : ℕ
  x = field img free_field

  abbrev written : Bytes
  written = store img x (message g.W t)

  abbrev ends : ℕ
  ends = x + head_size g + length t

  abbrev first : Bytes
  first = set_field written free_field ends

  in_image : x + length (message g.W t) ≤ length img
  in_image = rw (length-message g t) (omega (arith, fits))

  low : g.D ≤ x
  unfolding layout_of
  low = o.free-low

  above : table_start ≤ g.D
  above = omega (arith, (opened-room img o).table)

  long-written : header_size ≤ length written
  long-written = rw (length-store img x (message g.W t) in_image) (omega (arith, o.size_low))

  long-first : header_size ≤ length first
  long-first = rw (length-set_field written free_field ends (omega (arith, long-written))) long-written

  is-space : take_space g img t ≡ set_field first page_field (last_page g.D ends)
  unfolding take_space set_free
  is-space = refl

  -- X and M stand in the header
  behind : (p m : ℕ) → table_start ≤ p → part (take_space g img t) p m ≡ part written p m
  behind p m h =
      ap (λ (i : Bytes). part i p m) is-space
      ∙ part-set_field-other first page_field (last_page g.D ends) p m (omega (arith, long-first)) (inr (omega arith))
      ∙ part-set_field-other written free_field ends p m (omega (arith, long-written)) (inr (omega arith))

  not-page : (at : ℕ) → at + 4 ≤ page_field → field (take_space g img t) at ≡ field first at
  not-page at h =
      ap (λ (i : Bytes). field i at) is-space
      ∙ field-set_field-other first page_field (last_page g.D ends) at (omega (arith, long-first)) (inl h)

  slots₁ : (k : ℕ) → k < g.N → slot g (take_space g img t) k ≡ slot g img k
  unfolding slot
  slots₁ k l =
      behind (slot_start g k) (slot_size g) (slot-above g k)
      ∙ slot-store-data g img (opened-room img o) x (message g.W t) k l low in_image

  pub spaced : Spaced g img t
  spaced =
      record {
        kept =
            rw is-space
            (kept_trans (kept_store img x (message g.W t) in_image (omega (arith, low, above)))
            (kept_trans (kept_free written ends long-written) (kept-page first (last_page g.D ends) long-first)));
        free =
            not-page free_field (omega arith)
            ∙ field-set_field-same written free_field ends (omega (arith, long-written))
            (omega (arith, fits, o.size-high));
        points =
            not-page points_field (omega arith)
            ∙ field-set_field-other written free_field ends points_field (omega (arith, long-written)) (inl (omega arith))
            ∙ field-store-other img x (message g.W t) points_field in_image (inl (omega (arith, low, above)));
        slots = slots₁;
        below =
            λ p m lo hi.
            behind p m (omega (arith, above)) ∙ part-store-below img x (message g.W t) p m o.free-high hi;
        there =
            behind x (head_size g + length t) (omega (arith, low, above))
            ∙ ap (part written x) (sym (length-message g t))
            ∙ part-store-same img x (message g.W t) o.free-high;
      }

  pub space-kept : Kept img (take_space g img t)
  space-kept = spaced.kept

  pub space-opened : Opened (take_space g img t)
  space-opened =
      opened-kept space-kept o
      (rw spaced.points o.points)
      (rw spaced.free (omega (arith, o.free-low)))
      (rw spaced.free fits)
