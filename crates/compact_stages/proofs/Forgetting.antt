-- Slot by slot, the offsets of inactive messages are set to 0.
--     Forgetting g img img' n      done below slot n
--     forgetting-start, forgetting-on, forgotten-all      the loop: nothing done, one slot, all
--     active-same, active_on      the bytes of active messages, added up meanwhile
-- Assumes nothing.
use mathlib.Core.Path.{◌≡◌, refl, sym, ap, ap₂, ◌∙◌, subst}
use Prim.Native.Nat.{ℕ, zero, suc, ◌+◌, ◌-◌, ◌*◌, ◌≤◌, ◌<◌}
use native.Mathlib.Numerals.{add-one}
use native.Mathlib.Omega.{arith}
use mathlib.Core.Bool.{Bool, true, false, cond, not, ◌&&◌, ◌||◌}
use mathlib.Core.List.{[]}
use mathlib.Core.Logic.{inl, inr}
use lib.ListN.{length}
use lib.Dec.{eqb, ltb}
use borrow.Author.Tests.{le-ltb, eq-eqb, ne_eqb, not-true, not-false}
use Rattle.spec_file.specs.Bytes.{Bytes, part, number}
use Rattle.spec_file.specs.Limits.{table_start, free_field}
use Rattle.spec_file.specs.Image.{field, Layout, layout_of, slot_size, slot_start, slot, put_slot, key_of, offset_of, slot_bytes, vacant}
use Rattle.spec_file.specs.Messages.{head_size, letter_at, length_at, is_active}
use Rattle.spec_file.specs.Inspect.{taken}
use Rattle.spec_compaction.specs.Compact.{packed_below, packed}
use Rattle.law_file.proofs.Effects.{head-most}
use Rattle.law_file.proofs.Tests.{by_bool, by-eq, by_le, and_left, and_right, and-true, not-both}
use Rattle.law_file.proofs.Slots.{Room, length-slot, length-key_of, length-entry, length-put_slot, slot-put_slot-same, slot-put_slot-other, part-put_slot-outside}
use Rattle.law_file.proofs.Opened.{Opened, opened-facts}
use Rattle.law_file.proofs.Stretch.{span, Lies, sound-lies}
use Rattle.law_file.proofs.Verdict.{check-messages}
use Rattle.law_compaction.proofs.Packing.{start_at, Live, Stretches, sound-stretches, below-start}
use Rattle.law_file.proofs.Total.{total, total-same, total-bound}
use Rattle.law_file.proofs.Table.{weigh, weight}
use Rattle.law_compaction.proofs.Packed.{active_span, packed-weight}
use Rattle.header_layout.specs.Shapes.{Open}
use Rattle.header_layout.proofs.Shaped.{shape-head}
use Rattle.header_layout.specs.declared.shape.Shape.{Shape}
use Rattle.table_search.specs.Slots.{with_offset}
use Rattle.compact_stages.specs.Stages.{offset_in, key_in, span_in, offset_now, slot_now, table_end, dead_in, active_in, Stage, Forgotten, Sound}
use Rattle.compact_stages.proofs.Entries.{slot-back, slot-bytes, behind-put_slot}
use Rattle.compact_stages.proofs.Stages.{front-layout, front-open}

pub record Forgetting (g : Layout) (img img' : Bytes) (n : ℕ) : Type 0 where
  pub size : length img' ≡ length img
  pub front : part img' 0 table_start ≡ part img 0 table_start
  pub area : (p m : ℕ) → g.D ≤ p → part img' p m ≡ part img p m
  pub behind : part img' (table_end g) (g.D - table_end g) ≡ part img (table_end g) (g.D - table_end g)
  pub done : (i : ℕ) → i < n → i < g.N → slot g img' i ≡ slot_now g img g.D i
  pub rest : (i : ℕ) → n ≤ i → i < g.N → slot g img' i ≡ slot g img i

pub forgetting-start : (g : Layout) (img : Bytes) → Forgetting g img img 0
forgetting-start g img =
    record {
      size = refl;
      front = refl;
      area = λ p m h. refl;
      behind = refl;
      done = λ i h l. absurd (omega arith);
      rest = λ i h l. refl;
    }

module _ (img : Bytes) (s : Shape) (ok : Sound img s) where
  abbrev g : Layout
  g = layout_of img

  S : Stretches g img
  S = sound-stretches img ok.checked

  facts : Opened img
  facts = opened-facts img ok.opened.accepted

  -- a taken slot's message, active or not
  taken-lies : (i : ℕ) → i < g.N → taken g img i ≡ true → (start_at g img i ≡ 0 → ⊥) → Lies g img (start_at g img i)
  unfolding taken
  taken-lies i l t z =
      sound-lies g img (start_at g img i)
      (check-messages img ok.checked i l (not-true (vacant g (slot g img i)) t)) z

  head_small : head_size g ≤ 5
  head_small = head-most img

  -- its header lies in the image
  pub taken-inside : (i : ℕ) → i < g.N → taken g img i ≡ true → start_at g img i + head_size g ≤ length img
  taken-inside i l t =
      by-eq (start_at g img i) 0
      (λ z. omega (arith, z, head_small, facts.size_low))
      (λ z. omega (arith, (taken-lies i l t z).end, facts.free-high))

  own : (i : ℕ) → i < g.N → slot_bytes (key_of g (slot g img i)) (start_at g img i) ≡ slot g img i
  own i l =
      slot-back g (slot g img i) (length-slot g img S.room i l) (slot-bytes g img i ok.bytes)

  none-active : is_active img 0 ≡ false
  unfolding is_active
  none-active = refl

  -- a slot that is left as it was, and one whose message is inactive
  left_alone : (i : ℕ) → i < g.N
      → (taken g img i ≡ true → (start_at g img i ≡ 0 → ⊥) → is_active img (start_at g img i) ≡ true)
      → slot g img i ≡ slot_now g img g.D i
  unfolding slot_now
  left_alone i l f =
      by_bool (taken g img i)
      (λ t. by-eq (start_at g img i) 0
      (λ z.
      let gone : offset_now g img g.D (start_at g img i) ≡ start_at g img i =
      unfold offset_now in (rw (z, none-active) refl) in
      rw (t, gone) (sym (own i l)))
      (λ z.
      let a = f t z in
      let v : Live g img i = record { low = l; is = t; active = a } in
      let stays : offset_now g img g.D (start_at g img i) ≡ start_at g img i =
      unfold offset_now in (rw (a, le-ltb (start_at g img i) g.D (S.low i v)) refl) in
      rw (t, stays) (sym (own i l))))
      (λ t. rw t refl)

  made_none : (i : ℕ) → i < g.N → taken g img i ≡ true → is_active img (start_at g img i) ≡ false
      → slot_bytes (key_of g (slot g img i)) 0 ≡ slot_now g img g.D i
  unfolding slot_now offset_now
  made_none i l t a = rw (t, a) refl

  -- ---- the loop
  module _ (img' : Bytes) (i : ℕ) (l : i < g.N) (F : Forgetting g img img' i) where
    layout-same : layout_of img' ≡ g
    layout-same = front-layout img img' F.size F.front facts

    pub forgetting-open : Open img' s
    forgetting-open = front-open img img' F.size F.front s ok.opened

    here : slot (layout_of img') img' i ≡ slot g img i
    here = ap (λ (x : Layout). slot x img' i) layout-same ∙ F.rest i (omega arith) l

    taken_here : taken (layout_of img') img' i ≡ taken g img i
    unfolding taken
    taken_here = ap₂ (λ (x : Layout) (v : Bytes). not (vacant x v)) layout-same here

    offset-here : offset_in img' i ≡ start_at g img i
    offset-here = ap₂ (λ (x : Layout) (v : Bytes). offset_of x v) layout-same here

    key_here : key_in img' i ≡ key_of g (slot g img i)
    key_here = ap₂ (λ (x : Layout) (v : Bytes). key_of x v) layout-same here

    pub forgetting-inside : taken (layout_of img') img' i ≡ true → offset_in img' i + s.head ≤ length img'
    forgetting-inside t =
        omega (arith, offset-here, taken-inside i l (sym taken_here ∙ t), F.size, shape-head ok.opened)

    -- whether the message is active can still be read
    active-here : taken g img i ≡ true → (start_at g img i ≡ 0 → ⊥)
        → is_active img' (offset_in img' i) ≡ is_active img (start_at g img i)
    unfolding is_active letter_at
    active-here t z =
        ap (is_active img') offset-here
        ∙ ap (λ (v : Bytes). not (eqb (start_at g img i) 0) && eqb (number v) 97)
        (F.area (start_at g img i) 1 (taken-lies i l t z).low)

    -- and how long it is
    span-here : taken g img i ≡ true → (start_at g img i ≡ 0 → ⊥) → span_in img' i ≡ span_in img i
    unfolding length_at
    span-here t z =
        ap₂ (λ (x : Layout) (o : ℕ). head_size x + number (part img' (o + 1) x.W)) layout-same offset-here
        ∙ ap (λ (v : Bytes). head_size g + number v)
        (F.area (start_at g img i + 1) g.W (omega (arith, (taken-lies i l t z).low)))

    quiet-zero : is_active img' 0 ≡ false
    unfolding is_active
    quiet-zero = refl

    pub active-same : active_in img' i ≡ active_in img i
    unfolding active_in
    active-same =
        by_bool (taken g img i)
        (λ t. by-eq (start_at g img i) 0
        (λ z. rw (taken_here, t, offset-here, z, none-active, quiet-zero) refl)
        (λ z. rw (taken_here, t, active-here t z, span-here t z) refl))
        (λ t. rw (taken_here, t) refl)

    dead-yes : taken g img i ≡ true → (start_at g img i ≡ 0 → ⊥) → is_active img (start_at g img i) ≡ false
        → dead_in img' i ≡ true
    unfolding dead_in
    dead-yes t z a =
        rw (taken_here ∙ t, ne_eqb (offset_in img' i) 0 (λ q. z (sym offset-here ∙ q)), active-here t z ∙ a) refl

    room' : Room g (length img')
    room' = rw F.size S.room

    key-size : length (key_in img' i) ≡ g.K
    key-size = ap length key_here ∙ length-key_of g (slot g img i) (length-slot g img S.room i l)

    -- slot i done, the others as they were
    step_kept : dead_in img' i ≡ false → Forgetting g img img' (i + 1)
    step_kept d =
        record {
          size = F.size;
          front = F.front;
          area = F.area;
          behind = F.behind;
          done = λ j h k.
              by-eq j i
              (λ m. rw m (F.rest i (omega arith) l ∙ left_alone i l alive))
              (λ m. F.done j (omega (arith, m, h)) k);
          rest = λ j h k. F.rest j (omega (arith, h)) k;
        }
      where
        alive : taken g img i ≡ true → (start_at g img i ≡ 0 → ⊥) → is_active img (start_at g img i) ≡ true
        alive t z =
            by_bool (is_active img (start_at g img i))
            (λ a. a)
            (λ a. absurd (not-both (dead_in img' i) (dead-yes t z a) d))

    -- what a dead slot is
    abbrev seen : Bool
    seen = taken (layout_of img') img' i

    abbrev some? : Bool
    some? = not (eqb (offset_in img' i) 0)

    abbrev quiet : Bool
    quiet = not (is_active img' (offset_in img' i))

    dead-taken : dead_in img' i ≡ true → taken g img i ≡ true
    unfolding dead_in
    dead-taken d = sym taken_here ∙ and_left seen (some? && quiet) d

    dead-some : dead_in img' i ≡ true → start_at g img i ≡ 0 → ⊥
    unfolding dead_in
    dead-some d q =
        not-both (eqb (offset_in img' i) 0) (eq-eqb _ _ (offset-here ∙ q))
        (not-true (eqb (offset_in img' i) 0) (and_left some? quiet (and_right seen (some? && quiet) d)))

    dead-quiet : dead_in img' i ≡ true → is_active img (start_at g img i) ≡ false
    unfolding dead_in
    dead-quiet d =
        sym (active-here (dead-taken d) (dead-some d))
        ∙ not-true (is_active img' (offset_in img' i)) (and_right some? quiet (and_right seen (some? && quiet) d))

    step-forgot : dead_in img' i ≡ true → Forgetting g img (put_slot g img' i (slot_bytes (key_in img' i) 0)) (i + 1)
    step-forgot d =
        let v = slot_bytes (key_in img' i) 0 in
        let e : length v ≡ slot_size g = length-entry g (key_in img' i) 0 key-size in
        record {
          size = length-put_slot g img' room' i v l e ∙ F.size;
          front =
              part-put_slot-outside g img' room' i v 0 table_start l e (inl (omega arith)) ∙ F.front;
          area = λ p m h. part-put_slot-outside g img' room' i v p m l e (inr h) ∙ F.area p m h;
          behind = behind-put_slot g img' i v room' l e ∙ F.behind;
          done = λ j h k.
              by-eq j i
              (λ m. rw m (slot-put_slot-same g img' room' i v l e
              ∙ ap (λ (x : Bytes). slot_bytes x 0) key_here ∙ made_none i l (dead-taken d) (dead-quiet d)))
              (λ m. slot-put_slot-other g img' room' i v j l e m ∙ F.done j (omega (arith, m, h)) k);
          rest = λ j h k.
              slot-put_slot-other g img' room' i v j l e (λ m. omega (arith, m, h)) ∙ F.rest j (omega (arith, h)) k;
        }

    with_none : with_offset img' i 0 ≡ put_slot g img' i (slot_bytes (key_in img' i) 0)
    unfolding with_offset
    with_none = ap (λ (x : Layout). put_slot x img' i (slot_bytes (key_in img' i) 0)) layout-same

    pub forgetting-on : (img'' : Bytes) → img'' ≡ cond (dead_in img' i) (with_offset img' i 0) img'
        → Forgetting g img img'' (i + 1)
    forgetting-on img'' e =
        by_bool (dead_in img' i)
        (λ d. subst (λ (x : Bytes). Forgetting g img x (i + 1)) (sym (e ∙ rw d refl ∙ with_none)) (step-forgot d))
        (λ d. subst (λ (x : Bytes). Forgetting g img x (i + 1)) (sym (e ∙ rw d refl)) (step_kept d))

  -- ---- what the active messages have together

  active-weight : (i : ℕ) → active_in img i ≡ weigh g (active_span g img) (slot g img i)
  unfolding active_in weigh active_span taken
  active-weight i =
      by_bool (vacant g (slot g img i))
      (λ v. rw v refl)
      (λ v. by_bool (is_active img (start_at g img i)) (λ a. rw (v, a) refl) (λ a. rw (v, a) refl))

  active-all : total (active_in img) g.N ≡ length (packed g img)
  active-all =
      total-same (active_in img) (λ i. weigh g (active_span g img) (slot g img i)) g.N (λ i l. active-weight i)
      ∙ sym (packed-weight g img S ∙ (unfold weight in refl))

  -- no message is longer than an image
  pub active-one : (i : ℕ) → i < g.N → active_in img i ≤ 1073741824
  unfolding active_in
  active-one i l =
      by_bool (taken g img i)
      (λ t. by_bool (is_active img (start_at g img i))
      (λ a.
      rw (t, a)
      (omega (arith, S.end i (record { low = l; is = t; active = a }), S.free-high, facts.size-high)))
      (λ a. rw (t, a) (omega arith)))
      (λ t. rw t (omega arith))

  pub active-small : (n : ℕ) → n ≤ g.N → total (active_in img) n ≤ n * 1073741824
  active-small n h = total-bound (active_in img) n 1073741824 (λ i l. active-one i (omega (arith, l, h)))

  pub active_on : (n : ℕ) → total (active_in img) (n + 1) ≡ total (active_in img) n + active_in img n
  unfolding total
  active_on n = ap (total (active_in img)) (add-one n)

  pub active-none : total (active_in img) 0 ≡ 0
  unfolding total
  active-none = refl

  -- ---- the end

  forgotten : (img' : Bytes) (n : ℕ) → g.N ≤ n → Forgetting g img img' n → Stage g img img' g.D g.D
  forgotten img' n h F =
      let none : packed_below g img g.D ≡ [] = below-start g img g.D (omega arith) in
      record {
        size = F.size;
        front = F.front;
        slots = λ i l. F.done i (omega (arith, h, l)) l;
        behind = F.behind;
        place = omega (arith, ap length none);
        filled = rw none (unfold part in refl);
        waiting = λ i a b c w. F.area (start_at g img i) (span g img (start_at g img i)) w;
      }

  pub forgotten-all : (img' : Bytes) (n bytes : ℕ) → n ≡ g.N → Forgetting g img img' n
      → bytes ≡ total (active_in img) n → Forgotten img img' bytes
  forgotten-all img' n bytes h F e =
      record {
        stage = forgotten img' n (omega (arith, h)) F;
        area = F.area;
        bytes = e ∙ ap (total (active_in img)) h ∙ active-all;
      }
