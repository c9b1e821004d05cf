-- Steps in the table: a point's slot written where it was met, or entered where the search ended.
--     set-change, set-point          an offset written into the point's slot
--     enter-change, enter-point      a new point
-- Assumes nothing.
use mathlib.Core.Path.{◌≡◌, refl, sym, ap, ◌∙◌}
use Prim.Native.Nat.{ℕ, ◌+◌, ◌≤◌, ◌<◌}
use native.Mathlib.Omega.{arith}
use mathlib.Core.Logic.{inr}
use mathlib.Core.Option.{some, some-injective}
use lib.ListN.{length}
use Rattle.spec_file.specs.Bytes.{Bytes}
use Rattle.spec_file.specs.Limits.{word, slots_field, points_field, free_field, table_start}
use Rattle.spec_file.specs.Image.{field, set_field, Layout, slot_size, slot_start, offset_of, slot, put_slot, key_of, slot_bytes}
use Rattle.spec_file.specs.Messages.{enter}
use Rattle.spec_file.specs.Search.{search, met, empty}
use Rattle.law_file.proofs.Bytes.{Apart}
use Rattle.law_file.proofs.Slots.{Room, slot-above, slot-end, slot-set_field, part-put_slot-outside, field-put_slot, length-put_slot, length-entry, key_of-entry, offset_of-entry}
use Rattle.law_file.proofs.Opened.{Opened}
use Rattle.law_file.proofs.Kept.{Kept, kept_trans, kept_store, kept-slots, kept-known, opened-kept}
use Rattle.law_file.proofs.Effects.{points_kept, points-is, points-free, points-behind}
use Rattle.law_file.proofs.Table.{Findable, entry_of, weight}
use Rattle.law_file.proofs.Probe.{search-met, search-empty, entry_of-frame}
use Rattle.law_file.proofs.Insert.{weight-frame, insert-findable, insert_entry, insert-other, insert-weight, replace-findable, replace-entry, replace-other, replace-weight}
use Rattle.law_file.proofs.Stretch.{span, sound-lies, Stored, none-stored, SameOn, same-on-trans, span_same, stored_same}
use Rattle.law_agreement.proofs.Data.{frame-findable, file-above}
use Rattle.law_agreement.proofs.File.{Allowed, allowed-length, allowed-zero, value_of, point_of, point_of-some, value_same, File, file-slots, file-room, file-some, Change}

-- ---- a step that leaves the data area alone and writes the offset x into the point's slot

-- x is 0, or a sound message that no other point's meets
pub record Unshared (g : Layout) (img key : Bytes) (x : ℕ) : Type 0 where
  pub stored : Stored g img x
  pub small : x < word
  pub away : (x ≡ 0 → ⊥) → (key' s' : Bytes) → Allowed g key' → (key' ≡ key → ⊥) → entry_of g img key' ≡ some s'
      → (offset_of g s' ≡ 0 → ⊥) → Apart x (span g img x) (offset_of g s') (span g img (offset_of g s'))

pub unshared-none : (g : Layout) (img key : Bytes) → Unshared g img key 0
unshared-none g img key =
    record { stored = none-stored g img; small = omega arith; away = λ z. absurd (z refl) }

module _ (g : Layout) (img : Bytes) (f : File g img) (key : Bytes) (a : Allowed g key) (x : ℕ)
    (fr : Unshared g img key x) (img' : Bytes) (k : Kept img img') (free : field img' free_field ≡ field img free_field)
    (same-on : (p n : ℕ) → g.D ≤ p → SameOn img img' p n) (e : entry_of g img' key ≡ some (slot_bytes key x)) where
  -- the offset is read back
  offset-is : offset_of g (slot_bytes key x) ≡ x
  offset-is = offset_of-entry g key x (allowed-length g key a) fr.small

  -- x's message is as it was
  x-same : (x ≡ 0 → ⊥) → SameOn img img' x (span g img x)
  x-same z = same-on x _ (sound-lies g img x fr.stored.sound z).low

  pub slot-point : point_of g img' key ≡ some (value_of g img key x)
  slot-point =
      point_of-some g img' key (slot_bytes key x) e
      ∙ ap (λ (o : ℕ). some (value_of g img' key o)) offset-is
      ∙ ap some (value_same g img img' key x x-same)

  pub slot-change : field img' points_field ≤ g.N → Findable g img' → field img' points_field ≡ weight g img' (λ s. 1)
      → ((key' : Bytes) → Allowed g key' → (key' ≡ key → ⊥) → entry_of g img' key' ≡ entry_of g img key')
      → Change g img img' key
  slot-change points table counted others =
      record {
        kept = k.fixed;
        known = kept-known k f.opened;
        free-low = rw free (omega arith);
        free-high = rw free f.opened.free-high;
        points = points;
        table = table;
        counted = counted;
        others = others;
        still = λ key' s a' n e' z. same-on _ _ (sound-lies g img _ (f.messages key' s a' e').sound z).low;
        here = λ s a₁ e₁. rw (is_x s e₁) (stored_same g img img' x x-same (rw free (omega arith)) fr.stored);
        here-apart = λ s key' s' a₁ a' n e₁ e' z z'. apart₁ s key' s' a' n e₁ e' z z';
      }
    where
      is_x : (s : Bytes) → entry_of g img' key ≡ some s → offset_of g s ≡ x
      is_x s e₁ = ap (offset_of g) (some-injective s (slot_bytes key x) (sym e₁ ∙ e)) ∙ offset-is

      apart₁ : (s key' s' : Bytes) → Allowed g key' → (key' ≡ key → ⊥)
          → entry_of g img' key ≡ some s → entry_of g img key' ≡ some s' → (offset_of g s ≡ 0 → ⊥)
          → (offset_of g s' ≡ 0 → ⊥)
          → Apart (offset_of g s) (span g img' (offset_of g s)) (offset_of g s') (span g img (offset_of g s'))
      apart₁ s key' s' a' n e₁ e' z z' =
          let z₁ : x ≡ 0 → ⊥ = λ q. z (is_x s e₁ ∙ q) in
          rw (is_x s e₁, span_same g img img' x (x-same z₁)) (fr.away z₁ key' s' a' n e' z')

-- ---- a slot's write

module _ (g : Layout) (img : Bytes) (f : File g img) (i : ℕ) (s : Bytes) (l : i < g.N)
    (len : length s ≡ slot_size g) where
  put-kept : Kept img (put_slot g img i s)
  unfolding put_slot
  put-kept =
      kept_store img (slot_start g i) s
      (omega (arith, slot-end g (file-room f) i l, (file-room f).area)) (slot-above g i)

  put_same : (p n : ℕ) → g.D ≤ p → SameOn img (put_slot g img i s) p n
  put_same p n lo =
      record { on = λ q m a b. part-put_slot-outside g img (file-room f) i s q m l len (inr (omega arith)) }

  put-field : (at : ℕ) → at + 4 ≤ table_start → field (put_slot g img i s) at ≡ field img at
  put-field at h = field-put_slot g img (file-room f) i s at l len h

-- ---- the offset x in the point's slot

module _ (g : Layout) (img : Bytes) (f : File g img) (key : Bytes) (a : Allowed g key) (x : ℕ)
    (fr : Unshared g img key x) (i : ℕ) where
  len : length (slot_bytes key x) ≡ slot_size g
  len = length-entry g key x (allowed-length g key a)

  key-is : key_of g (slot_bytes key x) ≡ key
  key-is = key_of-entry g key x (allowed-length g key a)

  -- ---- written where the point was met
  module _ (m : search g img key ≡ met i) where
    set-lt : i < g.N
    set-lt = (search-met g img key (file-some f) i m).0

    set-entry : entry_of g (put_slot g img i (slot_bytes key x)) key ≡ some (slot_bytes key x)
    set-entry = replace-entry g img key i (slot_bytes key x) (file-room f) (file-some f) len key-is m

    pub set-field : (at : ℕ) → at + 4 ≤ table_start → field (put_slot g img i (slot_bytes key x)) at ≡ field img at
    set-field = put-field g img f i (slot_bytes key x) set-lt len

    set-counted : field (put_slot g img i (slot_bytes key x)) points_field
        ≡ weight g (put_slot g img i (slot_bytes key x)) (λ s. 1)
    set-counted =
        set-field points_field (omega arith) ∙ f.counted
        ∙ omega (
          arith,
          replace-weight g img key i (slot_bytes key x) (file-room f) (file-some f) len key-is m
              (allowed-zero g key a) (λ s. 1),
        )

    pub set-change : Change g img (put_slot g img i (slot_bytes key x)) key
    set-change =
        slot-change g img f key a x fr (put_slot g img i (slot_bytes key x))
        (put-kept g img f i (slot_bytes key x) set-lt len)
        (set-field free_field (omega arith))
        (put_same g img f i (slot_bytes key x) set-lt len)
        set-entry
        (rw (set-field points_field (omega arith)) (omega (arith, f.opened.points, file-slots f)))
        (replace-findable g img key i (slot_bytes key x) (file-room f) (file-some f) len key-is m f.table)
        set-counted
        (λ key' a' n. replace-other g img key i (slot_bytes key x) (file-room f) (file-some f) len key-is m key' n)

    pub set-point : point_of g (put_slot g img i (slot_bytes key x)) key ≡ some (value_of g img key x)
    set-point =
        slot-point g img f key a x fr (put_slot g img i (slot_bytes key x))
        (put-kept g img f i (slot_bytes key x) set-lt len)
        (set-field free_field (omega arith))
        (put_same g img f i (slot_bytes key x) set-lt len)
        set-entry

  -- ---- a new point, in the empty slot where its search ended
  module _ (m : search g img key ≡ empty i) (left : field img points_field < g.N) where
    put : Bytes
    put = put_slot g img i (slot_bytes key x)

    lt : i < g.N
    lt = (search-empty g img key (file-some f) i m).0

    length-put : length put ≡ length img
    unfolding put
    length-put = length-put_slot g img (file-room f) i (slot_bytes key x) lt len

    room-put : Room g (length put)
    room-put = rw length-put (file-room f)

    put-opened : Opened put
    unfolding put
    put-opened =
        opened-kept (put-kept g img f i (slot_bytes key x) lt len) f.opened
        (rw (put-field g img f i (slot_bytes key x) lt len points_field (omega arith)) f.opened.points)
        (rw (put-field g img f i (slot_bytes key x) lt len free_field (omega arith)) f.opened.free-low)
        (rw (put-field g img f i (slot_bytes key x) lt len free_field (omega arith)) f.opened.free-high)

    more : field img points_field + 1 ≤ field put slots_field
    unfolding put
    more = omega (arith, left, file-slots f, kept-slots (put-kept g img f i (slot_bytes key x) lt len).fixed)

    is-enter : enter g img i key x ≡ set_field put points_field (field img points_field + 1)
    unfolding enter put
    is-enter = refl

    enter-slot : (k : ℕ) → k < g.N → slot g (enter g img i key x) k ≡ slot g put k
    enter-slot k h =
        ap (λ (j : Bytes). slot g j k) is-enter ∙ slot-set_field g put room-put points_field (field img points_field + 1) k
        (omega arith) h

    enter-entry : (k : Bytes) → entry_of g (enter g img i key x) k ≡ entry_of g put k
    enter-entry k = entry_of-frame g put (enter g img i key x) k (file-some f) enter-slot

    entry-is : entry_of g (enter g img i key x) key ≡ some (slot_bytes key x)
    unfolding put
    entry-is =
        enter-entry key
        ∙ insert_entry g img key i (slot_bytes key x) (file-room f) (file-some f) f.table len key-is
        (allowed-zero g key a) m

    pub enter-points : field (enter g img i key x) points_field ≡ field img points_field + 1
    enter-points =
        ap (λ (j : Bytes). field j points_field) is-enter ∙ points-is put put-opened (field img points_field + 1) more

    pub enter-free : field (enter g img i key x) free_field ≡ field img free_field
    unfolding put
    enter-free =
        ap (λ (j : Bytes). field j free_field) is-enter
        ∙ points-free put put-opened (field img points_field + 1) more
        ∙ put-field g img f i (slot_bytes key x) lt len free_field (omega arith)

    enter-kept : Kept img (enter g img i key x)
    unfolding put
    enter-kept =
        rw is-enter (kept_trans (put-kept g img f i (slot_bytes key x) lt len)
        (points_kept put put-opened (field img points_field + 1) more))

    enter-same : (p n : ℕ) → g.D ≤ p → SameOn img (enter g img i key x) p n
    unfolding put
    enter-same p n h =
        rw is-enter
        (same-on-trans (put_same g img f i (slot_bytes key x) lt len p n h)
        (record {
          on = λ q m lo hi. points-behind put put-opened (field img points_field + 1) more q m
              (omega (arith, h, file-above f));
        }))

    pub enter-change : Change g img (enter g img i key x) key
    unfolding put
    enter-change =
        slot-change g img f key a x fr (enter g img i key x) enter-kept enter-free enter-same entry-is
        (rw enter-points (omega (arith, left)))
        (frame-findable g put (enter g img i key x) (file-some f) enter-slot
        (insert-findable g img key i (slot_bytes key x) (file-room f) (file-some f) f.table len key-is
        (allowed-zero g key a) m))
        (enter-points
        ∙ ap (λ (n : ℕ). n + 1) f.counted
        ∙ sym (weight-frame g put (enter g img i key x) (λ s. 1) enter-slot
        ∙ insert-weight g img key i (slot_bytes key x) (file-room f) (file-some f) f.table len key-is
        (allowed-zero g key a) m (λ s. 1)))
        (λ key' a' n.
        enter-entry key'
        ∙ insert-other g img key i (slot_bytes key x) (file-room f) (file-some f) f.table len key-is
        (allowed-zero g key a) m key' n
        (allowed-zero g key' a'))

    pub enter-point : point_of g (enter g img i key x) key ≡ some (value_of g img key x)
    enter-point = slot-point g img f key a x fr (enter g img i key x) enter-kept enter-free enter-same entry-is
