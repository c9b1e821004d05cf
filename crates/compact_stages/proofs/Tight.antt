-- Where the active messages fill the data area, the first stage is the last: none of them has to move.
--     bytes_fit        they are not more than that
--     tight-stage      the last stage
-- Assumes nothing.
use mathlib.Core.Path.{◌≡◌, refl, sym, ap, ◌∙◌}
use Prim.Native.Nat.{ℕ, ◌+◌, ◌-◌, ◌≤◌, ◌<◌}
use native.Mathlib.Omega.{arith}
use lib.ListN.{length}
use borrow.Author.Tests.{lt-ltb, le-ltb}
use Rattle.spec_file.specs.Bytes.{Bytes, part}
use Rattle.spec_file.specs.Limits.{free_field}
use Rattle.spec_file.specs.Image.{field, Layout, layout_of}
use Rattle.spec_file.specs.Messages.{is_active}
use Rattle.spec_file.specs.Inspect.{taken}
use Rattle.spec_compaction.specs.Compact.{packed_below, packed, packed_offset, packed_end}
use Rattle.law_file.proofs.Tests.{by_bool}
use Rattle.law_compaction.proofs.Packing.{start_at, Live, Stretches, sound-stretches, live-begins}
use Rattle.law_compaction.proofs.Packed.{end_fits, tight-bytes, tight-at}
use Rattle.header_layout.specs.declared.shape.Shape.{Shape}
use Rattle.compact_stages.specs.Stages.{offset_now, slot_now, Stage, Forgotten, Sound}

-- the active messages have no more bytes than the data area
pub bytes_fit : (img img' : Bytes) (s : Shape) (n : ℕ) → Sound img s → Forgotten img img' n
    → (layout_of img).D + n ≤ field img free_field
unfolding packed_end
bytes_fit img img' s n ok F =
    omega (arith, end_fits (layout_of img) img (sound-stretches img ok.checked), F.bytes)

module _ (img img' : Bytes) (s : Shape) (n : ℕ) (ok : Sound img s) (F : Forgotten img img' n)
    (full : (layout_of img).D + n ≡ field img free_field) where
  abbrev g : Layout
  g = layout_of img

  abbrev X : ℕ
  X = field img free_field

  S : Stretches g img
  S = sound-stretches img ok.checked

  all : length (packed_below g img X) ≡ n
  unfolding packed
  all = sym F.bytes

  tight : packed_end g img ≡ X
  unfolding packed_end packed
  tight = ap (λ (m : ℕ). g.D + m) all ∙ full

  stands : (i : ℕ) → Live g img i → g.D + length (packed_below g img (start_at g img i)) ≡ start_at g img i
  unfolding packed_offset
  stands i v = sym (rw v.active refl) ∙ tight-at g img S tight (start_at g img i) (live-begins g img i v)

  slot_same : (i : ℕ) → i < g.N → slot_now g img g.D i ≡ slot_now g img X i
  unfolding slot_now offset_now
  slot_same i l =
      by_bool (taken g img i)
      (λ t. by_bool (is_active img (start_at g img i))
      (λ a.
      let v : Live g img i = record { low = l; is = t; active = a } in
      rw (
        t,
        a,
        le-ltb (start_at g img i) g.D (S.low i v),
        lt-ltb (start_at g img i) X (omega (arith, S.end i v, S.head)),
        stands i v,
      ) refl)
      (λ a. rw (t, a) refl))
      (λ t. rw t refl)

  filled : part img' g.D (length (packed_below g img X)) ≡ packed_below g img X
  unfolding packed
  filled =
      let size : length (packed_below g img X) ≡ X - g.D = omega (arith, all, full) in
      ap (part img' g.D) size
      ∙ F.area g.D (X - g.D) (omega arith)
      ∙ sym (tight-bytes g img S tight)

  pub tight-stage : Stage g img img' X X
  tight-stage =
      let T = F.stage in
      record {
        size = T.size;
        front = T.front;
        slots = λ i l. T.slots i l ∙ slot_same i l;
        behind = T.behind;
        place = omega (arith, all, full);
        filled = filled;
        waiting = λ i a b c w.
            absurd (omega (arith, S.end i (record { low = a; is = b; active = c }), S.head, w));
      }
