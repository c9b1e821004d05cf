-- The shape's numbers are the layout's; and those of a message's header by the width that the code reads and writes.
--     shape-area, area-field, shape-head, shape-most      D, the header's size, the largest length
--     head-major             the header's size, by the version's first byte
--     head-width, head-range      the header is a letter and W bytes: 4 or 5
--     most-tells                  which can tell the largest length
-- Assumes nothing.
use mathlib.Core.Path.{◌≡◌, refl, ap, ◌∙◌}
use Prim.Native.Nat.{ℕ, ◌+◌, ◌-◌, ◌≤◌}
use native.Mathlib.Omega.{arith}
use borrow.Author.Tests.{eqb-true}
use Rattle.spec_file.specs.Bytes.{Bytes}
use Rattle.spec_file.specs.Limits.{data_field}
use Rattle.spec_file.specs.Image.{field, major_of, wide, width_of, most_of, layout_of}
use Rattle.spec_file.specs.Messages.{head_size}
use Rattle.spec_file.specs.Questions.{open_number}
use Rattle.law_file.proofs.Tests.{by_bool}
use Rattle.law_file.proofs.Opened.{opened-facts}
use Rattle.law_file.proofs.Kept.{major-narrow}
use Rattle.law_file.proofs.Effects.{head-least, head-most}
use Rattle.header_layout.specs.Shapes.{most_by, shape_of, Open, Tells}
use Rattle.header_layout.specs.declared.shape.Shape.{Shape}

-- by the version's first byte, of an accepted header
pub head-major : (img : Bytes) → open_number img ≡ 0 → head_size (layout_of img) ≡ 3 + major_of img
unfolding head_size layout_of width_of
head-major img h =
    by_bool (wide (major_of img))
    (λ y. let e : major_of img ≡ 2 = unfold wide in eqb-true (major_of img) 2 y in rw y (omega (arith, e)))
    (λ n.
    let e : major_of img ≡ 1 = major-narrow img (opened-facts img h).version n in
    rw n (omega (arith, e)))

module _ {img : Bytes} {s : Shape} (o : Open img s) where
  pub shape-area : s.area.0 ≡ (layout_of img).D
  unfolding shape_of
  shape-area = ap (λ (t : Shape). t.area.0) o.shape

  pub area-field : s.area.0 ≡ field img data_field
  unfolding layout_of
  area-field = shape-area

  pub shape-head : s.head ≡ head_size (layout_of img)
  unfolding shape_of
  shape-head = ap (λ (t : Shape). t.head) o.shape

  pub head-width : s.head ≡ (layout_of img).W + 1
  unfolding head_size
  head-width = shape-head

  pub width_is : s.head - 1 ≡ (layout_of img).W
  width_is = omega (arith, head-width)

  -- 4 in version 1, 5 in version 2.0
  pub head-range : (4 ≤ s.head) × (s.head ≤ 5)
  head-range = (omega (arith, shape-head, head-least img), omega (arith, shape-head, head-most img))

  pub shape-most : most_by s.head ≡ (layout_of img).most
  unfolding most_by head_size layout_of width_of most_of
  shape-most =
      by_bool (wide (major_of img))
      (λ y. let h : s.head ≡ 5 = shape-head ∙ rw y refl in rw (h, y) refl)
      (λ n. let h : s.head ≡ 4 = shape-head ∙ rw n refl in rw (h, n) refl)

  -- the header's bytes behind the letter can tell every length up to the largest
  pub most-tells : (m : ℕ) → m ≤ most_by s.head → Tells s.head m
  unfolding most_by head_size layout_of width_of
  most-tells m l =
      by_bool (wide (major_of img))
      (λ y.
      let h : s.head ≡ 5 = shape-head ∙ rw y refl in
      let k : most_by s.head ≡ 1073741823 = ap most_by h in
      record {
        low = omega (arith, h);
        high = omega (arith, h);
        short = λ e. omega (arith, h, e);
        small = omega (arith, k, l);
      })
      (λ n.
      let h : s.head ≡ 4 = shape-head ∙ rw n refl in
      let k : most_by s.head ≡ 16777215 = ap most_by h in
      record {
        low = omega (arith, h);
        high = omega (arith, h);
        short = λ e. omega (arith, k, l);
        small = omega (arith, k, l);
      })
