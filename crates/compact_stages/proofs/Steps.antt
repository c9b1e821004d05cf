-- From one stage to the next: past places where no message begins, and past a message that is moved.
--     stage-skip, stage-back      no message begins from s up to e
--     stage-move      slot i's alone does, and is moved down to the next free place
--     place-below     the next free place is not above a waiting message
-- Assumes nothing.
use mathlib.Core.Path.{◌≡◌, refl, sym, ap, ap₂, ◌∙◌, subst}
use Prim.Native.Nat.{ℕ, zero, suc, ◌+◌, ◌-◌, ◌*◌, ◌≤◌, ◌<◌}
use native.Mathlib.Omega.{arith}
use mathlib.Core.Bool.{Bool, true, false, cond}
use mathlib.Core.List.{◌++◌}
use mathlib.Core.Logic.{inl, inr}
use lib.ListN.{length, length-append}
use lib.Dec.{ltb, eqb}
use borrow.Author.Tests.{lt-ltb, le-ltb, eq-eqb, ne_eqb}
use Rattle.spec_file.specs.Bytes.{Bytes, part, store}
use Rattle.spec_file.specs.Limits.{table_start}
use Rattle.spec_file.specs.Image.{Layout, slot_size, slot_start, slot, put_slot, key_of, offset_of, slot_bytes}
use Rattle.spec_file.specs.Messages.{head_size, length_at, is_active}
use Rattle.spec_file.specs.Inspect.{taken}
use Rattle.spec_compaction.specs.Compact.{packed_below}
use Rattle.law_file.proofs.Tests.{by_bool, by-eq, by_le}
use Rattle.law_file.proofs.Bytes.{part_length, length-store, part-store-same, part-store-below, part-store-above, part-store-other}
use Rattle.law_file.proofs.Slots.{Room, length-slot, length-key_of, length-entry, length-put_slot, slot-put_slot-same, slot-put_slot-other, part-put_slot-outside, slot-store-data}
use Rattle.law_file.proofs.Stretch.{span}
use Rattle.law_compaction.proofs.Packing.{start_at, stop_at, Live, Stretches, below_none, below_one, packed-fits, packed-below}
use Rattle.bytes_compare.proofs.Little.{part_join}
use Rattle.compact_stages.specs.Stages.{offset_now, slot_now, table_end, Stage}
use Rattle.compact_stages.proofs.Entries.{behind-put_slot}
use Rattle.compact_stages.proofs.Stages.{key-now, live-waiting}

-- an offset at two stages: the same where its message begins below both places, or below none of them
now-same : (g : Layout) (img : Bytes) (s e i : ℕ)
    → (Live g img i → ltb (start_at g img i) s ≡ ltb (start_at g img i) e)
    → i < g.N → slot_now g img s i ≡ slot_now g img e i
unfolding slot_now offset_now
now-same g img s e i f l =
    by_bool (taken g img i)
    (λ t. by_bool (is_active img (start_at g img i))
    (λ a. rw (t, a, f (record { low = l; is = t; active = a })) refl)
    (λ a. rw (t, a) refl))
    (λ t. rw t refl)

module _ (g : Layout) (img : Bytes) (S : Stretches g img) where
  -- the next free place lies in the image, and not above a message that waits
  pub place-below : (s i : ℕ) → g.D ≤ s → Live g img i → s ≤ start_at g img i
      → g.D + length (packed_below g img s) ≤ start_at g img i
  place-below s i d v l =
      packed-fits g img S s (start_at g img i) d (S.low i v) (λ j w h. S.apart j i w v (omega (arith, h, l)))

  -- ---- no message begins
  pub stage-skip : (img' : Bytes) (s e q : ℕ) → g.D ≤ s → s ≤ e
      → ((i : ℕ) → Live g img i → s ≤ start_at g img i → start_at g img i < e → ⊥)
      → Stage g img img' s q → Stage g img img' e q
  stage-skip img' s e q d l none T =
      let same : packed_below g img e ≡ packed_below g img s = below_none g img s e d l none in
      record {
        size = T.size;
        front = T.front;
        slots = λ i h. T.slots i h ∙ now-same g img s e i
            (λ v. by_le s (start_at g img i)
            (λ w. le-ltb (start_at g img i) s w
            ∙ sym (le-ltb (start_at g img i) e
            (by_le e (start_at g img i) (λ x. x) (λ x. absurd (none i v w x)))))
            (λ w. lt-ltb (start_at g img i) s w ∙ sym (lt-ltb (start_at g img i) e (omega (arith, w, l)))))
            h;
        behind = T.behind;
        place = T.place ∙ ap (λ (b : Bytes). g.D + length b) (sym same);
        filled = subst (λ (b : Bytes). part img' g.D (length b) ≡ b) (sym same) T.filled;
        waiting = λ i a b c w. T.waiting i a b c (omega (arith, w, l));
      }

  -- and back
  pub stage-back : (img' : Bytes) (s e q : ℕ) → g.D ≤ s → s ≤ e
      → ((i : ℕ) → Live g img i → s ≤ start_at g img i → ⊥)
      → Stage g img img' e q → Stage g img img' s q
  stage-back img' s e q d l none T =
      let same : packed_below g img e ≡ packed_below g img s = below_none g img s e d l (λ i v a b. none i v a) in
      record {
        size = T.size;
        front = T.front;
        slots = λ i h. T.slots i h ∙ now-same g img e s i
            (λ v. by_le s (start_at g img i)
            (λ w. absurd (none i v w))
            (λ w. lt-ltb (start_at g img i) e (omega (arith, w, l)) ∙ sym (lt-ltb (start_at g img i) s w)))
            h;
        behind = T.behind;
        place = T.place ∙ ap (λ (b : Bytes). g.D + length b) same;
        filled = subst (λ (b : Bytes). part img' g.D (length b) ≡ b) same T.filled;
        waiting = λ i a b c w. absurd (none i (record { low = a; is = b; active = c }) w);
      }

  -- ---- one message begins
  module _ (s e i q : ℕ) (d : g.D ≤ s) (v : Live g img i) (lo : s ≤ start_at g img i) (hi : start_at g img i < e)
      (only : (j : ℕ) → Live g img j → s ≤ start_at g img j → start_at g img j < e → j ≡ i) where
    abbrev o : ℕ
    o = start_at g img i

    abbrev n : ℕ
    n = span g img o

    grown : packed_below g img e ≡ packed_below g img s ++ part img o n
    grown = below_one g img s e i d v lo hi (λ j w a b. ap (start_at g img) (only j w a b))

    text-size : length (part img o n) ≡ n
    text-size = part_length img o n (omega (arith, S.end i v, S.free-high))

    grown-size : length (packed_below g img e) ≡ length (packed_below g img s) + n
    grown-size =
        ap length grown ∙ length-append (packed_below g img s) (part img o n)
        ∙ ap (λ (m : ℕ). length (packed_below g img s) + m) text-size

    -- the slot's own offset afterwards
    arrives : slot_now g img e i ≡ slot_bytes (key_of g (slot g img i)) (g.D + length (packed_below g img s))
    unfolding slot_now offset_now
    arrives =
        rw (v.is, v.active, lt-ltb o e hi)
        (ap (λ (b : Bytes). slot_bytes (key_of g (slot g img i)) (g.D + length b))
        (below_none g img s o d lo
        (λ j w a b. absurd (omega (arith, ap (start_at g img) (only j w a (omega (arith, b, hi))), b)))))

    waits : slot_now g img s i ≡ slot_bytes (key_of g (slot g img i)) o
    unfolding slot_now offset_now
    waits = rw (v.is, v.active, le-ltb o s lo) refl

    -- every other slot's
    others : (j : ℕ) → j < g.N → (j ≡ i → ⊥) → slot_now g img s j ≡ slot_now g img e j
    others j l m =
        now-same g img s e j
        (λ w. by_le s (start_at g img j)
        (λ a. le-ltb (start_at g img j) s a
        ∙ sym (le-ltb (start_at g img j) e
        (by_le e (start_at g img j) (λ x. x) (λ x. absurd (m (only j w a x))))))
        (λ a. lt-ltb (start_at g img j) s a ∙ sym (lt-ltb (start_at g img j) e (omega (arith, a, lo, hi)))))
        l

    -- what is packed from then on
    joined : (x : Bytes) → part x g.D (length (packed_below g img s)) ≡ packed_below g img s
        → part x (g.D + length (packed_below g img s)) n ≡ part img o n
        → part x g.D (length (packed_below g img e)) ≡ packed_below g img e
    joined x f t =
        let k = length (packed_below g img s) in
        ap (part x g.D) grown-size
        ∙ sym (part_join x g.D k n)
        ∙ ap₂ ◌++◌ f t
        ∙ sym grown

    next_place : (T : q ≡ g.D + length (packed_below g img s)) → q + n ≡ g.D + length (packed_below g img e)
    next_place T = omega (arith, T, grown-size)

    -- it stands there already
    pub stage-stays : (img' : Bytes) → q ≡ o → Stage g img img' s q → Stage g img img' e (q + n)
    stage-stays img' z T =
        record {
          size = T.size;
          front = T.front;
          slots = λ j l.
              by-eq j i
              (λ m. rw m (T.slots i v.low ∙ waits
              ∙ ap (slot_bytes (key_of g (slot g img i))) (sym z ∙ T.place) ∙ sym arrives))
              (λ m. T.slots j l ∙ others j l m);
          behind = T.behind;
          place = next_place T.place;
          filled =
              joined img' T.filled
              (ap (λ (p : ℕ). part img' p n) (sym T.place ∙ z) ∙ live-waiting g img img' s q S T i v lo);
          waiting = λ j a b c w. T.waiting j a b c (omega (arith, w, lo, hi));
        }

    -- it is moved
    module _ (img' : Bytes) (T : Stage g img img' s q) where
      -- the message copied, and then its slot written
      abbrev key : Bytes
      key = key_of g (slot g img' i)

      abbrev copied : Bytes
      copied = store img' q (part img' o n)

      abbrev after : Bytes
      after = put_slot g copied i (slot_bytes key q)

      at_most : q ≤ o
      at_most = omega (arith, T.place, place-below s i d v lo)

      at_least : g.D ≤ q
      at_least = omega (arith, T.place)

      ends : o + n ≤ length img'
      ends = omega (arith, T.size, S.end i v, S.free-high)

      copy-size : length (part img' o n) ≡ n
      copy-size = part_length img' o n ends

      fits : q + length (part img' o n) ≤ length img'
      fits = omega (arith, copy-size, at_most, ends)

      size-copied : length copied ≡ length img'
      size-copied = length-store img' q (part img' o n) fits

      room' : Room g (length img')
      room' = rw T.size S.room

      room'' : Room g (length copied)
      room'' = rw size-copied room'

      entry-size : length (slot_bytes key q) ≡ slot_size g
      entry-size = length-entry g key q (length-key_of g (slot g img' i) (length-slot g img' room' i v.low))

      -- outside the table only the copy shows
      data-part : (p m : ℕ) → g.D ≤ p → part after p m ≡ part copied p m
      data-part p m h = part-put_slot-outside g copied room'' i (slot_bytes key q) p m v.low entry-size (inr h)

      pub stage-moved : Stage g img after e (q + n)
      stage-moved =
          record {
            size = length-put_slot g copied room'' i (slot_bytes key q) v.low entry-size ∙ size-copied ∙ T.size;
            front =
                part-put_slot-outside g copied room'' i (slot_bytes key q) 0 table_start v.low entry-size
                (inl (omega arith))
                ∙ part-store-below img' q (part img' o n) 0 table_start (omega (arith, fits))
                (omega (arith, at_least, S.room.table))
                ∙ T.front;
            slots = λ j l.
                by-eq j i
                (λ m. rw m (slot-put_slot-same g copied room'' i (slot_bytes key q) v.low entry-size
                ∙ ap₂ slot_bytes (key-now g img img' s q S T i v.low) T.place ∙ sym arrives))
                (λ m. slot-put_slot-other g copied room'' i (slot_bytes key q) j v.low entry-size m
                ∙ slot-store-data g img' room' q (part img' o n) j l at_least fits
                ∙ T.slots j l ∙ others j l m);
            behind =
                behind-put_slot g copied i (slot_bytes key q) room'' v.low entry-size
                ∙ part-store-below img' q (part img' o n) (table_end g) (g.D - table_end g) (omega (arith, fits))
                (omega (arith, at_least, S.room.table))
                ∙ T.behind;
            place = next_place T.place;
            filled =
                joined after
                (data-part g.D (length (packed_below g img s)) (omega arith)
                ∙ part-store-below img' q (part img' o n) g.D (length (packed_below g img s)) (omega (arith, fits))
                (omega (arith, T.place))
                ∙ T.filled)
                (data-part (g.D + length (packed_below g img s)) n (omega arith)
                ∙ ap₂ (λ (p m : ℕ). part copied p m) (sym T.place) (sym copy-size)
                ∙ part-store-same img' q (part img' o n) (omega (arith, fits))
                ∙ live-waiting g img img' s q S T i v lo);
            waiting = λ j a b c w.
                let u : Live g img j = record { low = a; is = b; active = c } in
                data-part (start_at g img j) (span g img (start_at g img j)) (S.low j u)
                ∙ part-store-above img' q (part img' o n) (start_at g img j) (span g img (start_at g img j)) fits
                (omega (arith, copy-size, at_most, S.apart i j v u (omega (arith, hi, w))))
                ∙ T.waiting j a b c (omega (arith, lo, hi, w));
          }
