-- Two images of one kind: what is known of an image's version by the width of its message headers.
--     by-version        an opened image has version 1 or 2
--     same-major        two that have headers of one width have one version
--     same-heads        whether two versions are equal is whether the headers' sizes are
--     text-short        no message in an image is longer than its headers can tell
-- Assumes nothing.
use mathlib.Core.Path.{◌≡◌, refl, sym, ap, ◌∙◌}
use Prim.Native.Nat.{ℕ, ◌+◌, ◌^◌, ◌≤◌, ◌<◌}
use native.Mathlib.Omega.{arith}
use mathlib.Core.Bool.{true, false}
use lib.ListN.{length}
use lib.Dec.{eqb}
use borrow.Author.Tests.{eqb-true}
use Rattle.spec_file.specs.Bytes.{Bytes}
use Rattle.spec_file.specs.Limits.{free_field}
use Rattle.spec_file.specs.Image.{field, major_of, wide, width_of, most_of, layout_of}
use Rattle.spec_file.specs.Messages.{head_size}
use Rattle.law_file.proofs.Tests.{by_bool}
use Rattle.law_file.proofs.Opened.{Opened}
use Rattle.law_file.proofs.Kept.{major-narrow}

pub by-version {ℓ} : {A : Type ℓ} (img : Bytes) → Opened img → (major_of img ≡ 1 → A) → (major_of img ≡ 2 → A) → A
by-version img o one two =
    by_bool (wide (major_of img))
    (λ y. two (unfold wide in eqb-true (major_of img) 2 y))
    (λ n. one (major-narrow img o.version n))

-- of one version
module _ (img : Bytes) where
  narrow-width : major_of img ≡ 1 → (layout_of img).W ≡ 3
  unfolding layout_of width_of wide
  narrow-width e = rw e refl

  wide-width : major_of img ≡ 2 → (layout_of img).W ≡ 4
  unfolding layout_of width_of wide
  wide-width e = rw e refl

  narrow-most : major_of img ≡ 1 → (layout_of img).most ≡ 16777215
  unfolding layout_of most_of wide
  narrow-most e = rw e refl

  wide-most : major_of img ≡ 2 → (layout_of img).most ≡ 1073741823
  unfolding layout_of most_of wide
  wide-most e = rw e refl

module _ (a b : Bytes) (oa : Opened a) (ob : Opened b) where
  pub same-major : (layout_of a).W ≡ (layout_of b).W → major_of a ≡ major_of b
  same-major e =
      by-version a oa
      (λ x. by-version b ob (λ y. x ∙ sym y) (λ y. absurd (omega (arith, e, narrow-width a x, wide-width b y))))
      (λ x. by-version b ob (λ y. absurd (omega (arith, e, wide-width a x, narrow-width b y))) (λ y. x ∙ sym y))

  pub same-most : (layout_of a).W ≡ (layout_of b).W → (layout_of a).most ≡ (layout_of b).most
  unfolding layout_of
  same-most e = ap most_of (same-major e)

  pub same-heads : eqb (major_of a) (major_of b) ≡ eqb (head_size (layout_of a)) (head_size (layout_of b))
  unfolding head_size layout_of width_of wide
  same-heads =
      by-version a oa
      (λ x. by-version b ob (λ y. rw (x, y) refl) (λ y. rw (x, y) refl))
      (λ x. by-version b ob (λ y. rw (x, y) refl) (λ y. rw (x, y) refl))

-- a message that ends within the image
pub text-short : (img : Bytes) → Opened img → (o n : ℕ) → (o ≡ 0 → ⊥) → n < 256 ^ (layout_of img).W
    → o + head_size (layout_of img) + n ≤ length img → n ≤ (layout_of img).most
text-short img op o n z s end =
    by-version img op
    (λ x.
    let w : n < 256 ^ 3 = rw (narrow-width img x) at s in
    omega (arith, w, narrow-most img x))
    (λ x. omega (arith, end, z, wide-most img x, op.size-high))
