-- The windows that code makes of a shape's numbers are in order, and are those of the slot and of the message.
--     of_entry, of-walk-up, of-walk-round      an add's; a delete's, by where its walk ends
--     message-small      a message's end is below 2^32
-- Assumes nothing.
use mathlib.Core.Path.{◌≡◌, sym, ◌∙◌}
use Prim.Native.Nat.{ℕ, ◌+◌, ◌*◌, ◌^◌, ◌≤◌, ◌<◌}
use native.Mathlib.Omega.{arith}
use mathlib.Core.Bool.{true}
use lib.ListN.{length}
use Rattle.spec_file.specs.Bytes.{Bytes}
use Rattle.spec_file.specs.Limits.{free_field, table_start}
use Rattle.spec_file.specs.Image.{field, layout_of, slot_size, slot_start, slot, vacant}
use Rattle.spec_file.specs.Messages.{head_size, length_at, is_active, shown_length}
use Rattle.spec_file.specs.Questions.{message_sound}
use Rattle.law_file.proofs.Tests.{by_bool, by-eq}
use Rattle.law_file.proofs.Slots.{slot-end}
use Rattle.law_file.proofs.Opened.{Opened, opened-facts, opened-room}
use Rattle.law_file.proofs.Effects.{message-low, message-end}
use Rattle.law_file.proofs.Stretch.{span}
use Rattle.changes_windows.specs.Windows.{Sorted}
use Rattle.changes_windows.specs.declared.Windows.{Windows}
use Rattle.header_layout.specs.Shapes.{Open}
use Rattle.header_layout.specs.declared.shape.Shape.{Shape}
use Rattle.header_layout.proofs.Shaped.{shape-area, area-field, shape-head}
use Rattle.table_search.proofs.Headers.{layout-slots, slot-place, slot-room}
use Rattle.changes_extent.specs.Reaches.{OnMessage, Entry, Walk}
use Rattle.changes_extent.proofs.Reaching.{slot-low, slot-before}

-- no more text is shown than there is
pub shown-few : (img : Bytes) (at : ℕ) → shown_length (layout_of img) img at ≤ length_at (layout_of img) img at
unfolding shown_length
shown-few img at = by_bool (is_active img at) (λ y. rw y (omega arith)) (λ no'. rw no' (omega arith))

module _ (img : Bytes) (s : Shape) (o : Open img s) (at : ℕ) (sound : message_sound (layout_of img) img at ≡ true) where
  f : Opened img
  f = opened-facts img o.accepted

  pub message-small : (m : ℕ) → m ≤ span (layout_of img) img at → (at ≡ 0 → ⊥) → at + m < 2 ^ 32
  message-small m h z = omega (arith, message-end img f at sound z, f.free-high, f.size-high)

  -- a message's window lies in the data area, below X
  on-message : (m from end : ℕ) → m ≤ span (layout_of img) img at → OnMessage s.area.0 at m from end
      → ((layout_of img).D ≤ from) × (from ≤ end) × (end ≤ field img free_field)
  on-message m from end h e =
      by-eq at 0
      (λ z. let q = e.none z in (
        omega (arith, q.0, shape-area o),
        omega (arith, q.0, q.1),
        omega (arith, q.1, area-field o, f.free-low),
      ))
      (λ z. let q = e.some z in (
        omega (arith, q.0, message-low img f at sound z, shape-area o, area-field o),
        omega (arith, q.0, q.1),
        omega (arith, q.1, message-end img f at sound z),
      ))

  module _ (i : ℕ) (l : i < s.slots) (start : ℕ) (is : start ≡ table_start + i * (s.keylen + 4)) where
    place : start ≡ slot_start (layout_of img) i
    place = is ∙ sym (slot-place img s o.shape i)

    in_table : i < (layout_of img).N
    in_table = omega (arith, layout-slots img s o.shape)

    ends : slot_start (layout_of img) i + slot_size (layout_of img) ≤ (layout_of img).D
    ends = slot-end (layout_of img) (opened-room img f) i in_table

    pub of_entry : (n m shown free from3 end3 end : ℕ) → free ≡ field img free_field → m ≡ length_at (layout_of img) img at
        → shown ≡ shown_length (layout_of img) img at
        → OnMessage s.area.0 at (s.head + m) from3 end3
        → (free ≤ end) × (end ≤ length img)
        × ((k : ℕ) → k ≤ s.head + shown + n → free + k ≤ length img → free + k ≤ end)
        → let w : Windows = record {
          end1 = 60;
          from2 = start;
          end2 = start + (s.keylen + 4);
          from3 = from3;
          end3 = end3;
          from4 = free;
          end4 = end;
        } in
        Sorted w (length img) × Entry img i at n w
    of_entry n m shown free from3 end3 end x len sh e b =
        let q = on-message (s.head + m) from3 end3 (omega (arith, shape-head o, len)) e in
        let size = slot-room img s o.shape in (
          record {
            gap1 = omega (arith, is);
            second = omega arith;
            gap2 = omega (arith, place, size, ends, q.0);
            third = q.1;
            gap3 = omega (arith, q.2, x);
            fourth = b.0;
            high = b.1;
          },
          record {
            header = omega arith;
            slot-from = place;
            slot-end = omega (arith, place, size);
            message = λ z. ((e.some z).0, omega (arith, (e.some z).1, shape-head o, len));
            fresh-from = x;
            fresh-end = λ k few fits.
                omega (arith, b.2 k (omega (arith, shape-head o, sh)) (omega (arith, x)), x);
          },
        )

    module _ (last : ℕ) (ll : last < s.slots) (end : ℕ) (ise : end ≡ table_start + last * (s.keylen + 4))
        (v : (last ≡ i → ⊥) → vacant (layout_of img) (slot (layout_of img) img last) ≡ true)
        (from3 end3 : ℕ) (e : OnMessage s.area.0 at 1 from3 end3) where
      last-place : end ≡ slot_start (layout_of img) last
      last-place = ise ∙ sym (slot-place img s o.shape last)

      last-ends : slot_start (layout_of img) last + slot_size (layout_of img) ≤ (layout_of img).D
      last-ends =
          slot-end (layout_of img) (opened-room img f) last (omega (arith, layout-slots img s o.shape))

      bounds : ((layout_of img).D ≤ from3) × (from3 ≤ end3) × (end3 ≤ field img free_field)
      bounds = on-message 1 from3 end3 (unfold head_size in omega arith) e

      -- the walk ends above slot i
      pub of-walk-up : start < end
          → let w : Windows = record {
            end1 = 60;
            from2 = start;
            end2 = end;
            from3 = from3;
            end3 = end3;
            from4 = end3;
            end4 = end3;
          } in
          Sorted w (length img) × Walk img i at w
      of-walk-up h = (
        record {
          gap1 = omega (arith, is);
          second = omega arith;
          gap2 = omega (arith, last-place, last-ends, bounds.0);
          third = bounds.1;
          gap3 = omega arith;
          fourth = omega arith;
          high = omega (arith, bounds.2, f.free-high);
        },
        record {
          last = last;
          last-lt = omega (arith, layout-slots img s o.shape);
          vacant-last = v;
          header = omega arith;
          slot-from = place;
          up = λ q. last-place;
          round = λ q. absurd (omega (arith, slot-low (layout_of img) last i q, place, last-place));
          message = λ z. e.some z;
        },
      )

      -- it ends at slot i, or below
      pub of-walk-round : (area : ℕ) → area ≡ s.area.0 → end ≤ start
          → let w : Windows = record {
            end1 = end;
            from2 = start;
            end2 = area;
            from3 = from3;
            end3 = end3;
            from4 = end3;
            end4 = end3;
          } in
          Sorted w (length img) × Walk img i at w
      of-walk-round area d h = (
        record {
          gap1 = h;
          second = omega (arith, place, ends, d, shape-area o);
          gap2 = omega (arith, d, shape-area o, bounds.0);
          third = bounds.1;
          gap3 = omega arith;
          fourth = omega arith;
          high = omega (arith, bounds.2, f.free-high);
        },
        record {
          last = last;
          last-lt = omega (arith, layout-slots img s o.shape);
          vacant-last = v;
          header = omega (arith, ise);
          slot-from = place;
          up = λ q. absurd (not-above q);
          round = λ q. (last-place, omega (arith, d, shape-area o));
          message = λ z. e.some z;
        },
      )
        where
          -- a slot has bytes, so that a higher one begins above
          not-above : i < last → ⊥
          not-above q =
              omega (arith, slot-before (layout_of img) i last q, slot-room img s o.shape, place, last-place)
