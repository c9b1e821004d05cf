-- A slot's stretch, as code reads it.
--     start_none, start-some, start-low, start-high, start-taken      where it starts, by whether the slot is empty
--     start-above, end_read      where it ends
--     Stretched, stretched      it lies in the data area, and is not empty
--     checked-slot      what is asked of every slot below the bound is asked of one
-- Assumes nothing.
use mathlib.Core.Path.{◌≡◌, refl, sym, ap, ◌∙◌}
use Prim.Native.Nat.{ℕ, ◌+◌, ◌^◌, ◌≤◌, ◌<◌}
use native.Mathlib.Omega.{arith}
use mathlib.Core.Bool.{Bool, true, false, cond, not}
use lib.Dec.{eqb}
use lib.ListN.{length}
use borrow.Author.Tests.{ne_eqb, eq-eqb}
use Rattle.spec_file.specs.Bytes.{Bytes}
use Rattle.spec_file.specs.Limits.{data_field, free_field}
use Rattle.spec_file.specs.Image.{field, layout_of}
use Rattle.spec_file.specs.Messages.{head_size, length_at}
use Rattle.spec_file.specs.Inspect.{taken, stretch_start, stretch_end, end_at}
use Rattle.law_file.proofs.Tests.{by_bool, by-eq}
use Rattle.law_file.proofs.Opened.{opened-facts}
use Rattle.law_file.proofs.Effects.{message-low, message-end}
use Rattle.header_layout.specs.declared.shape.Shape.{Shape}
use Rattle.header_layout.proofs.Shaped.{shape-head, head-range}
use Rattle.table_search.specs.Slots.{vacant_in, offset_in}
use Rattle.message_stretch.specs.Checked.{start_in, end_in, Readable, Checked}

module _ (img : Bytes) (i : ℕ) where
  start_is : (b : Bool) → vacant_in img i ≡ b → start_in img i ≡ cond (not b) (offset_in img i) 0
  unfolding stretch_start taken
  start_is b e = ap (λ (v : Bool). cond (not v) (offset_in img i) 0) e

  pub start_none : vacant_in img i ≡ true → start_in img i ≡ 0
  start_none e = start_is true e

  pub start-some : vacant_in img i ≡ false → start_in img i ≡ offset_in img i
  start-some e = start_is false e

  -- whether the slot is empty or not
  pub start-low : start_in img i ≤ offset_in img i
  start-low = by_bool (vacant_in img i) (λ e. omega (arith, start_none e)) (λ e. omega (arith, start-some e))

  pub start-high : (lo hi : ℕ) → 0 < lo → hi ≤ offset_in img i → (lo ≤ start_in img i → start_in img i < hi → ⊥)
  start-high lo hi z h a b =
      by_bool (vacant_in img i) (λ e. omega (arith, start_none e)) (λ e. omega (arith, start-some e))

  pub start-not : (lo hi : ℕ) → 0 < lo → (lo ≤ offset_in img i → offset_in img i < hi → ⊥)
      → (lo ≤ start_in img i → start_in img i < hi → ⊥)
  start-not lo hi z n a b =
      by_bool (vacant_in img i) (λ e. omega (arith, start_none e))
      (λ e. n (omega (arith, start-some e)) (omega (arith, start-some e)))

  -- a slot with a stretch is taken
  pub start-taken : 0 < start_in img i → (taken (layout_of img) img i ≡ true) × (start_in img i ≡ offset_in img i)
  unfolding taken
  start-taken z =
      by_bool (vacant_in img i) (λ e. absurd (omega (arith, start_none e))) (λ e. (ap not e, start-some e))

  end_is : (b : Bool) → eqb (start_in img i) 0 ≡ b
      → end_in img i ≡ cond b 0 (start_in img i + head_size (layout_of img) + length_at (layout_of img) img (start_in img i))
  unfolding stretch_end end_at
  end_is b e =
      let o = start_in img i in
      ap (λ (t : Bool). cond t 0 (o + head_size (layout_of img) + length_at (layout_of img) img o)) e

  end_none : start_in img i ≡ 0 → end_in img i ≡ 0
  end_none z = end_is true (eq-eqb (start_in img i) 0 z)

  -- what has an end has a start
  pub start-above : 0 < end_in img i → 0 < start_in img i
  start-above h = by-eq (start_in img i) 0 (λ z. absurd (omega (arith, end_none z))) (λ n. omega arith)

  end-some : 0 < start_in img i
      → end_in img i ≡ start_in img i + head_size (layout_of img) + length_at (layout_of img) img (start_in img i)
  end-some z = end_is false (ne_eqb (start_in img i) 0 (λ e. omega arith))

-- a stretch lies in the data area, below X; its header is in it, and is not empty
pub record Stretched (img : Bytes) (i : ℕ) : Type 0 where
  pub low : field img data_field ≤ start_in img i
  pub order : start_in img i + head_size (layout_of img) ≤ end_in img i
  pub some : 0 < head_size (layout_of img)
  pub high : end_in img i ≤ field img free_field
  pub inside : end_in img i ≤ length img
  pub small : end_in img i < 2 ^ 32

pub stretched : (img : Bytes) (s : Shape) (i : ℕ) → Readable img s i → 0 < start_in img i → Stretched img i
stretched img s i r z =
    let t = start-taken img i z in
    let o = opened-facts img r.opened.accepted in
    let m = r.message t.0 in
    let n : offset_in img i ≡ 0 → ⊥ = λ e. omega (arith, t.1) in
    let e = end-some img i z in
    let l : length_at (layout_of img) img (start_in img i) ≡ length_at (layout_of img) img (offset_in img i) =
    ap (length_at (layout_of img) img) t.1 in
    record {
      low = omega (arith, t.1, message-low img o (offset_in img i) m n);
      order = omega (arith, e);
      some = omega (arith, head-range r.opened, shape-head r.opened);
      high = omega (arith, e, l, t.1, message-end img o (offset_in img i) m n);
      inside = omega (arith, e, l, t.1, message-end img o (offset_in img i) m n, o.free-high);
      small = omega (arith, e, l, t.1, message-end img o (offset_in img i) m n, o.free-high, o.size-high);
    }

-- the end, as code adds it up from the offset o and the length m
pub end_read : (img : Bytes) (i : ℕ) → 0 < start_in img i → (o m : ℕ) → o ≡ offset_in img i
    → m ≡ length_at (layout_of img) img o → o + head_size (layout_of img) + m ≡ end_in img i
end_read img i z o m eo em =
    let g = layout_of img in
    let e : o ≡ start_in img i = eo ∙ sym (start-taken img i z).1 in
    let l : length_at g img o ≡ length_at g img (start_in img i) = ap (length_at g img) e in
    omega (arith, end-some img i z)

pub checked-slot : (img : Bytes) (s : Shape) (bound : ℕ) → Checked img s bound → (i : ℕ) → i < bound → Readable img s i
checked-slot img s bound c i l =
    record { opened = c.opened; low = omega (arith, c.low); message = c.messages i l }
