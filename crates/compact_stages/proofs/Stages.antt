-- What is read from an image in the middle of a compaction.
--     front_kept, stage-layout, stage-open      header and layout as at first
--     taken-now, offset-now, key-now      a slot's parts
--     start-live, live-start      a start from s on is a live slot's, as at first; and the other way round
--     one_each      no cell of 4 places has two starts
--     span-now      a waiting message's length
-- Assumes nothing.
use mathlib.Core.Path.{◌≡◌, refl, sym, ap, ap₂, ◌∙◌, subst}
use Prim.Native.Nat.{ℕ, zero, suc, ◌+◌, ◌-◌, ◌*◌, ◌/◌, ◌≤◌, ◌<◌}
use native.Mathlib.Omega.{arith}
use mathlib.Core.Bool.{Bool, true, false, cond, not}
use lib.ListN.{length}
use lib.Dec.{ltb}
use borrow.Author.Tests.{lt-ltb, le-ltb}
use Rattle.spec_file.specs.Bytes.{Bytes, part, number, all_zero}
use Rattle.spec_file.specs.Limits.{version_field, word, table_start, points_field, free_field, serial_field, multiplier_field, start_field, first_field, last_field, header_size}
use Rattle.spec_file.specs.Image.{field, Layout, layout_of, slot_size, slot, key_of, offset_of, slot_bytes, vacant}
use Rattle.spec_file.specs.Messages.{head_size, length_at, is_active}
use Rattle.spec_file.specs.Inspect.{taken, stretch_start}
use Rattle.spec_compaction.specs.Compact.{packed_below}
use Rattle.law_file.proofs.Tests.{by_bool, by-eq, by_le}
use Rattle.law_file.proofs.Bytes.{part-part}
use Rattle.law_file.proofs.Slots.{Room, length-slot, length-key_of, length-entry, key_of-entry, offset_of-entry}
use Rattle.law_file.proofs.Opened.{Opened, opened-facts, facts-opened}
use Rattle.law_file.proofs.Kept.{major-same, Kept, kept-layout, opened-kept, kept-multiplier, kept-start, kept-first, kept-last, middle_size, rest_size}
use Rattle.law_file.proofs.Stretch.{span}
use Rattle.law_compaction.proofs.Packing.{start_at, stop_at, Live, Stretches, packed-below}
use Rattle.header_layout.specs.Shapes.{shape_of, Open}
use Rattle.header_layout.specs.declared.shape.Shape.{Shape}
use Rattle.compact_stages.specs.Stages.{offset_now, slot_now, Stage}
use Rattle.compact_stages.specs.Charts.{OneEach}

-- ---- the header

-- the same bytes below the table
module _ (img img' : Bytes) (size : length img' ≡ length img)
    (front : part img' 0 table_start ≡ part img 0 table_start) where
  pub front-part : (q m : ℕ) → q + m ≤ table_start → part img' q m ≡ part img q m
  front-part q m h =
      let e : 0 + q ≡ q = omega arith in
      ap (λ (n : ℕ). part img' n m) (sym e)
      ∙ sym (part-part img' 0 table_start q m h)
      ∙ ap (λ (v : Bytes). part v q m) front
      ∙ part-part img 0 table_start q m h
      ∙ ap (λ (n : ℕ). part img n m) e

  pub front-field : (at : ℕ) → at + 4 ≤ table_start → field img' at ≡ field img at
  unfolding field
  front-field at h = ap number (front-part at 4 h)

  front_kept : Kept img img'
  front_kept =
      record {
        fixed =
            record {
              size = size;
              magic = front-part 0 5 (omega arith);
              major = major-same img img' (front-part version_field 3 (omega arith));
              front = front-part serial_field (points_field - serial_field) (omega arith);
              middle = front-part multiplier_field middle_size (omega arith);
              rest = front-part header_size rest_size (omega arith);
            };
        version = front-part version_field 3 (omega arith);
      }

  pub front-layout : Opened img → layout_of img' ≡ layout_of img
  front-layout o = kept-layout front_kept.fixed o.last

  pub front-opened : Opened img → Opened img'
  front-opened o =
      let C = front-field points_field (omega arith) in
      let X = front-field free_field (omega arith) in
      opened-kept front_kept o (omega (arith, C, o.points)) (omega (arith, X, o.free-low))
      (omega (arith, X, o.free-high))

  pub front-open : (s : Shape) → Open img s → Open img' s
  unfolding shape_of
  front-open s o =
      let f = opened-facts img o.accepted in
      record {
        accepted = facts-opened img' (front-opened f);
        shape = o.shape ∙ sym (rw (
          front-layout f,
          kept-multiplier front_kept.fixed,
          kept-start front_kept.fixed,
          kept-first front_kept.fixed,
          kept-last front_kept.fixed,
        ) refl);
      }

-- ---- slots

module _ (g : Layout) (img img' : Bytes) (s q : ℕ) (S : Stretches g img) (T : Stage g img img' s q) where
  slot-taken : (i : ℕ) → i < g.N → taken g img i ≡ true
      → slot g img' i ≡ slot_bytes (key_of g (slot g img i)) (offset_now g img s (start_at g img i))
  slot-taken i l t = T.slots i l ∙ (unfold slot_now in (rw t refl))

  slot-vacant : (i : ℕ) → i < g.N → taken g img i ≡ false → slot g img' i ≡ slot g img i
  slot-vacant i l t = T.slots i l ∙ (unfold slot_now in (rw t refl))

  key-size : (i : ℕ) → i < g.N → length (key_of g (slot g img i)) ≡ g.K
  key-size i l = length-key_of g (slot g img i) (length-slot g img S.room i l)

  pub key-now : (i : ℕ) → i < g.N → key_of g (slot g img' i) ≡ key_of g (slot g img i)
  key-now i l =
      by_bool (taken g img i)
      (λ t. ap (key_of g) (slot-taken i l t) ∙ key_of-entry g (key_of g (slot g img i)) _ (key-size i l))
      (λ t. ap (key_of g) (slot-vacant i l t))

  pub taken-now : (i : ℕ) → i < g.N → taken g img' i ≡ taken g img i
  unfolding taken vacant
  taken-now i l = ap (λ (k : Bytes). not (all_zero k)) (key-now i l)

  -- an offset fits 32 bits
  pub offset-small : (i : ℕ) → i < g.N → taken g img i ≡ true → offset_now g img s (start_at g img i) < word
  unfolding offset_now
  offset-small i l t =
      by_bool (is_active img (start_at g img i))
      (λ a.
      let v : Live g img i = record { low = l; is = t; active = a } in
      let small : start_at g img i < word = omega (arith, S.end i v, S.free-high, S.small) in
      by_bool (ltb (start_at g img i) s)
      (λ b. rw (a, b) (omega (arith, packed-below g img S i v, small)))
      (λ b. rw (a, b) small))
      (λ a. rw a (omega arith))

  pub offset-now : (i : ℕ) → i < g.N → taken g img i ≡ true
      → offset_of g (slot g img' i) ≡ offset_now g img s (start_at g img i)
  offset-now i l t =
      ap (offset_of g) (slot-taken i l t)
      ∙ offset_of-entry g (key_of g (slot g img i)) _ (key-size i l) (offset-small i l t)

  -- ---- starts from s on

  now-waiting : (i : ℕ) → Live g img i → s ≤ start_at g img i → offset_now g img s (start_at g img i) ≡ start_at g img i
  unfolding offset_now
  now-waiting i v l = rw (v.active, le-ltb (start_at g img i) s l) refl

  pub start-live : (i : ℕ) → Live g img i → s ≤ start_at g img i → offset_of g (slot g img' i) ≡ start_at g img i
  start-live i v l = offset-now i v.low v.is ∙ now-waiting i v l

  pub stretch-live : (i : ℕ) → Live g img i → s ≤ start_at g img i → stretch_start g img' i ≡ start_at g img i
  unfolding stretch_start
  stretch-live i v l = rw (taken-now i v.low ∙ v.is) (start-live i v l)

  pub live-start : g.D ≤ s → (i : ℕ) → i < g.N → s ≤ stretch_start g img' i
      → Live g img i × (start_at g img i ≡ stretch_start g img' i)
  unfolding stretch_start
  live-start d i l h =
      let zero' : 0 < s = omega (arith, d, S.room.table) in
      by_bool (taken g img i)
      (λ t.
      let is : stretch_start g img' i ≡ offset_now g img s (start_at g img i) =
      rw (taken-now i l ∙ t) (offset-now i l t) in
      by_bool (is_active img (start_at g img i))
      (λ a.
      let v : Live g img i = record { low = l; is = t; active = a } in
      by_le s (start_at g img i)
      (λ w. (v, sym (is ∙ now-waiting i v w)))
      (λ w.
      let gone : offset_now g img s (start_at g img i) ≡ g.D + length (packed_below g img (start_at g img i)) =
      unfold offset_now in (rw (a, lt-ltb (start_at g img i) s w) refl) in
      absurd (omega (arith, is, gone, packed-below g img S i v, w, h))))
      (λ a.
      let gone : offset_now g img s (start_at g img i) ≡ 0 = unfold offset_now in (rw a refl) in
      absurd (omega (arith, is, gone, zero', h))))
      (λ t.
      let gone : stretch_start g img' i ≡ 0 = rw (taken-now i l ∙ t) refl in
      absurd (omega (arith, gone, zero', h)))

  -- two live slots' starts are in two cells
  pub two_cells : (i j : ℕ) → Live g img i → Live g img j → s ≤ start_at g img i → s ≤ start_at g img j
      → (start_at g img i - s) / 4 ≡ (start_at g img j - s) / 4 → i ≡ j
  two_cells i j a b la lb e =
      by-eq (start_at g img i) (start_at g img j)
      (λ q. S.alone i j a b q)
      (λ q. by_le (start_at g img i) (start_at g img j)
      (λ l. absurd (omega (arith, S.apart i j a b (omega (arith, l, q)), S.head, e, la, lb)))
      (λ l. absurd (omega (arith, S.apart j i b a l, S.head, e, la, lb))))

  pub one_each : g.D ≤ s → OneEach (stretch_start g img') g.N s
  one_each d i j li lj hi hj e =
      let a = live-start d i li hi in
      let b = live-start d j lj hj in
      two_cells i j a.0 b.0 (omega (arith, a.1, hi)) (omega (arith, b.1, hj))
      (ap (λ (n : ℕ). (n - s) / 4) a.1 ∙ e ∙ ap (λ (n : ℕ). (n - s) / 4) (sym b.1))

  -- a waiting message's bytes and length
  pub live-waiting : (i : ℕ) → Live g img i → s ≤ start_at g img i
      → part img' (start_at g img i) (span g img (start_at g img i))
      ≡ part img (start_at g img i) (span g img (start_at g img i))
  live-waiting i v l = T.waiting i v.low v.is v.active l

  pub length-now : (i : ℕ) → Live g img i → s ≤ start_at g img i
      → length_at g img' (start_at g img i) ≡ length_at g img (start_at g img i)
  unfolding length_at head_size
  length-now i v l =
      let o = start_at g img i in
      let n = span g img o in
      ap number
      (sym (part-part img' o n 1 g.W (omega arith))
      ∙ ap (λ (x : Bytes). part x 1 g.W) (live-waiting i v l)
      ∙ part-part img o n 1 g.W (omega arith))
