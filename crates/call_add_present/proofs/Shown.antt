-- The text that a sound offset shows, as a part of the image that lies below X.
--     head-fits, head-end      the message's header ends in the image, and below X
--     shown-part, shown-end    the text is the part behind the header, and ends below X
--     length-appended          how long that text and the bytes behind it are
--     text-none                none of the old text
-- Assumes nothing.
use mathlib.Core.Path.{◌≡◌, refl, sym, ap, ◌∙◌}
use Prim.Native.Nat.{ℕ, ◌+◌, ◌≤◌}
use native.Mathlib.Omega.{arith}
use mathlib.Core.Bool.{true}
use mathlib.Core.List.{◌++◌}
use lib.ListN.{length}
use Rattle.spec_file.specs.Bytes.{Bytes, part}
use Rattle.spec_file.specs.Limits.{free_field}
use Rattle.spec_file.specs.Image.{field, layout_of}
use Rattle.spec_file.specs.Messages.{is_active, text_at, shown, bytes_of, shown_length}
use Rattle.spec_file.specs.Questions.{message_sound}
use Rattle.law_file.proofs.Tests.{by_bool, by-eq}
use Rattle.law_file.proofs.Bytes.{length-part-append}
use Rattle.law_file.proofs.Opened.{Opened, opened-facts}
use Rattle.law_file.proofs.Effects.{area-above, message-end, message-fits, active-some}
use Rattle.bytes_words.proofs.Numbers.{part-zero}
use Rattle.header_layout.specs.Shapes.{Open}
use Rattle.header_layout.specs.declared.shape.Shape.{Shape}
use Rattle.header_layout.proofs.Shaped.{shape-head, head-range}
use Rattle.message_read.proofs.Sound.{length-shown-yes, length-shown-no}

module _ {img : Bytes} {s : Shape} (open₀ : Open img s) (o : ℕ) where
  pub shown-part : part img (o + s.head) (shown_length (layout_of img) img o) ≡ bytes_of (shown (layout_of img) img o)
  unfolding shown bytes_of shown_length text_at
  shown-part =
      by_bool (is_active img o)
      (λ h. rw (h, shape-head open₀) refl)
      (λ h. rw (h, part-zero img (o + s.head)) refl)

  module _ (m : message_sound (layout_of img) img o ≡ true) where
    f : Opened img
    f = opened-facts img open₀.accepted

    pub head-fits : o + s.head ≤ length img
    head-fits = omega (arith, shape-head open₀, message-fits img f o m)

    -- with no offset, the header's size below X
    pub head-end : o + s.head ≤ field img free_field
    head-end =
        by-eq o 0
        (λ e. omega (arith, head-range open₀, area-above img f, f.free-low))
        (λ n. omega (arith, shape-head open₀, message-end img f o m n))

    pub shown-end : o + s.head + shown_length (layout_of img) img o ≤ field img free_field
    shown-end =
        let g = layout_of img in
        by_bool (is_active img o)
        (λ h. omega (arith, length-shown-yes g img o h, shape-head open₀, message-end img f o m (active-some img o h)))
        (λ h. omega (arith, length-shown-no g img o h, head-end))

    pub length-appended : (bytes : Bytes)
        → length (bytes_of (shown (layout_of img) img o) ++ bytes) ≡ shown_length (layout_of img) img o + length bytes
    length-appended bytes =
        ap (λ (t : Bytes). length (t ++ bytes)) (sym shown-part)
        ∙ length-part-append img (o + s.head) (shown_length (layout_of img) img o) bytes
        (omega (arith, shown-end, f.free-high))

-- no bytes of the old text
pub text-none : (img : Bytes) (p : ℕ) (bytes : Bytes) → part img p 0 ++ bytes ≡ bytes
text-none img p bytes = ap (λ (t : Bytes). t ++ bytes) (part-zero img p)
