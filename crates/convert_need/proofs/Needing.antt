-- What a slot's message needs in the target, as code reads it, and the sums from a slot on.
--     need-vacant, need-quiet, need-active      by what stands in the slot
--     need-most                 a sound message needs 5 bytes more than an image has, at the most
--     needs-on, told-on         one slot, and those behind it
--     needs-none, told_none     behind the last slot
-- Assumes nothing.
use mathlib.Core.Path.{◌≡◌, refl, ap, ◌∙◌}
use Prim.Native.Nat.{ℕ, suc, ◌+◌, ◌-◌, ◌≤◌, ◌<◌}
use native.Mathlib.Omega.{arith}
use mathlib.Core.Bool.{true, false, not, ◌&&◌}
use lib.Dec.{leb}
use Rattle.spec_file.specs.Bytes.{Bytes}
use Rattle.spec_file.specs.Limits.{most_image}
use Rattle.spec_file.specs.Image.{major_of, wide, width_of, Layout, layout_of}
use Rattle.spec_file.specs.Messages.{head_size, length_at, is_active}
use Rattle.spec_file.specs.Inspect.{taken}
use Rattle.spec_conversion.specs.Convert.{other_major, recast, other_layout, needs, needs_from, told, told_from}
use Rattle.law_file.proofs.Tests.{by_bool}
use Rattle.law_file.proofs.Opened.{opened-facts}
use Rattle.law_file.proofs.Effects.{active-some, message-end}
use Rattle.header_layout.specs.declared.shape.Shape.{Shape}
use Rattle.table_search.specs.Slots.{vacant_in, offset_in}
use Rattle.message_stretch.specs.Checked.{Readable}

-- ---- one slot
module _ (img : Bytes) (i : ℕ) where
  abbrev g : Layout
  g = layout_of img

  abbrev h : Layout
  h = other_layout img

  pub slot-taken : vacant_in img i ≡ false → taken g img i ≡ true
  unfolding taken
  slot-taken v = ap not v

  pub need-vacant : vacant_in img i ≡ true → (needs g h img i ≡ 0) × (told g h img i ≡ true)
  unfolding needs told taken
  need-vacant v = (rw v refl, rw v refl)

  pub need-quiet : is_active img (offset_in img i) ≡ false → (needs g h img i ≡ 0) × (told g h img i ≡ true)
  unfolding needs told
  need-quiet a =
      by_bool (taken g img i) (λ t. (rw (t, a) refl, rw (t, a) refl)) (λ t. (rw t refl, rw t refl))

  pub need-active : vacant_in img i ≡ false → is_active img (offset_in img i) ≡ true
      → (needs g h img i ≡ head_size h + length_at g img (offset_in img i))
      × (told g h img i ≡ leb (length_at g img (offset_in img i)) h.most)
  unfolding needs told taken
  need-active v a = (rw (v, a) refl, rw (v, a) refl)

pub other-head : (img : Bytes) → head_size (other_layout img) ≤ 5
unfolding head_size other_layout recast width_of
other-head img =
    by_bool (wide (other_major (major_of img))) (λ y. rw y (omega arith)) (λ n. rw n (omega arith))

-- an active message ends at or below X
pub active-length : (img : Bytes) (s : Shape) (i : ℕ) → Readable img s i → vacant_in img i ≡ false
    → is_active img (offset_in img i) ≡ true → length_at (layout_of img) img (offset_in img i) ≤ most_image
active-length img s i r v a =
    let f = opened-facts img r.opened.accepted in
    omega (
      arith,
      message-end img f (offset_in img i) (r.message (slot-taken img i v)) (active-some img (offset_in img i) a),
      f.free-high,
      f.size-high,
    )

pub need-most : (img : Bytes) (s : Shape) (i : ℕ) → Readable img s i
    → needs (layout_of img) (other_layout img) img i ≤ most_image + 5
need-most img s i r =
    by_bool (vacant_in img i)
    (λ v. omega (arith, (need-vacant img i v).0))
    (λ v.
    by_bool (is_active img (offset_in img i))
    (λ a. omega (arith, (need-active img i v a).0, active-length img s i r v a, other-head img))
    (λ a. omega (arith, (need-quiet img i a).0)))

-- ---- the slots from i on, of n
module _ (img : Bytes) (n i : ℕ) where
  abbrev g₂ : Layout
  g₂ = layout_of img

  abbrev h₂ : Layout
  h₂ = other_layout img

  pub needs-on : i < n
      → needs_from g₂ h₂ img (n - i) i ≡ needs g₂ h₂ img i + needs_from g₂ h₂ img (n - (i + 1)) (i + 1)
  unfolding needs_from
  needs-on l =
      let e : n - i ≡ suc (n - (i + 1)) = omega arith in
      let f : suc i ≡ i + 1 = omega arith in
      ap (λ (k : ℕ). needs_from g₂ h₂ img k i) e
      ∙ ap (λ (j : ℕ). needs g₂ h₂ img i + needs_from g₂ h₂ img (n - (i + 1)) j) f

  pub told-on : i < n
      → told_from g₂ h₂ img (n - i) i ≡ (told g₂ h₂ img i && told_from g₂ h₂ img (n - (i + 1)) (i + 1))
  unfolding told_from
  told-on l =
      let e : n - i ≡ suc (n - (i + 1)) = omega arith in
      let f : suc i ≡ i + 1 = omega arith in
      ap (λ (k : ℕ). told_from g₂ h₂ img k i) e
      ∙ ap (λ (j : ℕ). told g₂ h₂ img i && told_from g₂ h₂ img (n - (i + 1)) j) f

  pub needs-none : n ≤ i → needs_from g₂ h₂ img (n - i) i ≡ 0
  unfolding needs_from
  needs-none l = let e : n - i ≡ 0 = omega arith in ap (λ (k : ℕ). needs_from g₂ h₂ img k i) e

  pub told_none : n ≤ i → told_from g₂ h₂ img (n - i) i ≡ true
  unfolding told_from
  told_none l = let e : n - i ≡ 0 = omega arith in ap (λ (k : ℕ). told_from g₂ h₂ img k i) e
