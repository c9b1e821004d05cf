-- Writes to slots leave the header as it was.
--     SameHead img img'      img' is opened, and its layout, shape and length are those of img
--     same-open              so the shape that was its shape still is
--     head_opened            an image that keeps what no call changes, with its header accepted
--     head-put_slot, head-moved       a write to a slot, and a move, keep them
--     kept-shape             the shape is among what no call changes
-- Assumes nothing.
use mathlib.Core.Path.{◌≡◌, refl, sym, ap, ◌∙◌}
use Prim.Native.Nat.{ℕ, ◌+◌, ◌<◌}
use native.Mathlib.Omega.{arith}
use lib.ListN.{length}
use Rattle.spec_file.specs.Bytes.{Bytes}
use Rattle.spec_file.specs.Limits.{points_field, free_field}
use Rattle.spec_file.specs.Image.{field, width_of, Layout, layout_of, slot_size, slot_start, slot, put_slot, blank}
use Rattle.spec_file.specs.Messages.{head_size}
use Rattle.spec_file.specs.Delete.{moved}
use Rattle.spec_file.specs.Questions.{open_number}
use Rattle.law_file.proofs.Slots.{Room, slot-end, slot-above, length-slot, field-put_slot, length-blank}
use Rattle.law_file.proofs.Spread.{room-half}
use Rattle.law_file.proofs.Opened.{Opened, opened-facts, facts-opened}
use Rattle.law_file.proofs.Kept.{Fixed, Kept, kept_store, kept-layout, opened-kept, kept-key, kept-slots, kept-data, kept-multiplier, kept-start, kept-first, kept-last}
use Rattle.header_layout.specs.Shapes.{shape_of, Open}
use Rattle.header_layout.specs.declared.shape.Shape.{Shape}

-- ---- the shape
kept-head : {img img' : Bytes} → Fixed img img' → head_size (layout_of img') ≡ head_size (layout_of img)
unfolding head_size layout_of
kept-head k = ap (λ (v : ℕ). width_of v + 1) k.major

pub kept-shape : {img img' : Bytes} → Fixed img img' → shape_of img' ≡ shape_of img
unfolding shape_of layout_of
kept-shape k =
    rw (
      kept-head k,
      kept-key k,
      kept-slots k,
      kept-data k,
      kept-multiplier k,
      kept-start k,
      kept-first k,
      kept-last k,
    ) refl

-- ---- what stays where C and X stay too
pub record SameHead (img img' : Bytes) : Type 0 where
  pub opened : open_number img' ≡ 0
  pub layout : layout_of img' ≡ layout_of img
  pub shape : shape_of img' ≡ shape_of img
  pub size : length img' ≡ length img

pub head-trans : {a b c : Bytes} → SameHead a b → SameHead b c → SameHead a c
head-trans p q =
    record {
      opened = q.opened;
      layout = q.layout ∙ p.layout;
      shape = q.shape ∙ p.shape;
      size = q.size ∙ p.size;
    }

pub same-open : {img img' : Bytes} {s : Shape} → SameHead img img' → Open img s → Open img' s
same-open h o = record { accepted = h.opened; shape = o.shape ∙ sym h.shape }

-- an image whose header is accepted, with what no call changes
pub head_opened : (img img' : Bytes) → Opened img → Kept img img' → Opened img' → SameHead img img'
head_opened img img' o k o' =
    record {
      opened = facts-opened img' o';
      layout = kept-layout k.fixed o.last;
      shape = kept-shape k.fixed;
      size = k.fixed.size;
    }

pub head-kept : (img img' : Bytes) → open_number img ≡ 0 → Kept img img' → field img' points_field ≡ field img points_field
    → field img' free_field ≡ field img free_field → SameHead img img'
head-kept img img' h k c x =
    let o = opened-facts img h in
    head_opened img img' o k (opened-kept k o (rw c o.points) (rw x o.free-low) (rw x o.free-high))

module _ (g : Layout) (img : Bytes) (h : open_number img ≡ 0) (r : Room g (length img)) where
  pub head-put_slot : (i : ℕ) (v : Bytes) → i < g.N → length v ≡ slot_size g → SameHead img (put_slot g img i v)
  head-put_slot i v l e =
      head-kept img (put_slot g img i v) h kept
      (field-put_slot g img r i v points_field l e (omega arith))
      (field-put_slot g img r i v free_field l e (omega arith))
    where
      kept : Kept img (put_slot g img i v)
      kept =
          unfold put_slot in kept_store img (slot_start g i) v (omega (arith, slot-end g r i l, r.area)) (slot-above g i)

  pub head-half : (a j : ℕ) → a < g.N → j < g.N → SameHead img (put_slot g img a (slot g img j))
  head-half a j la lj = head-put_slot a (slot g img j) la (length-slot g img r j lj)

pub head-moved : (g : Layout) (img : Bytes) → open_number img ≡ 0 → Room g (length img) → (a j : ℕ) → a < g.N → j < g.N
    → SameHead img (moved g img a j)
unfolding moved
head-moved g img h r a j la lj =
    let half = head-half g img h r a j la lj in
    head-trans half
    (head-put_slot g (put_slot g img a (slot g img j)) half.opened (room-half g img r a j la lj) j (blank g) lj
    (length-blank g))
