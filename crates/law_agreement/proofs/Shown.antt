-- After an accepted add in mode 2, lookup shows the data: on any image of bytes, also one that no list of calls has
-- led to and whose table is damaged.
--     search-entered      a key put into the empty slot where its search ended is met there
--     replaced-shown      the law, of data that are not empty
-- Assumes nothing.
use mathlib.Core.Path.{◌≡◌, refl, sym, ap, ap₂, ◌∙◌, subst}
use Prim.Native.Nat.{ℕ, ◌+◌, ◌-◌, ◌^◌, ◌≤◌, ◌<◌}
use native.Mathlib.Omega.{arith}
use native.Mathlib.Nat.{add-zero}
use mathlib.Core.Logic.{inl, inr}
use mathlib.Core.Bool.{true, false, not, ◌&&◌}
use mathlib.Core.List.{[], ◌∷◌, ◌++◌}
use mathlib.Core.Option.{Option, none, some}
use lib.ListN.{length, length-append}
use lib.Dec.{eqb, leb, ltb}
use lib.Seq.{take_at}
use borrow.Author.Tests.{leb-true, ltb-true, ne_eqb, not-true}
use Rattle.spec_file.specs.Bytes.{Bytes, part, store, zeros, all_zero}
use Rattle.spec_file.specs.Limits.{word, table_start, slots_field, points_field, free_field, header_size}
use Rattle.spec_file.specs.Image.{field, set_field, Layout, layout_of, slot, put_slot, key_of, offset_of, slot_bytes, slot_start, slot_size, vacant, home}
use Rattle.spec_file.specs.Search.{Probe, met, empty, exhausted, dist, search}
use Rattle.spec_file.specs.Messages.{head_size, length_at, is_active, shown, bytes_of, held, message, take_space, retire, overwrite, enter, inserted, relocated, fresh_text, renewed_text, renewed_at, added_at, noted, added}
use Rattle.spec_file.specs.Questions.{name_allowed, mode_known, message_sound, length_allowed, space_left, place_number, open_number, add_number}
use Rattle.spec_file.specs.Calls.{Answer, add, lookup}
use Rattle.law_file.proofs.Tests.{by_bool, by-eq, by_le, and_left, and_right, not-both}
use Rattle.law_file.proofs.Bytes.{AreBytes, part-below, part-store-inside, length-zeros}
use Rattle.law_file.proofs.Slots.{Room, layout-most, slot-end, slot-above, length-put_slot, slot-put_slot-same, slot-put_slot-other, part-put_slot-outside, field-put_slot, slot-store-data, slot-set_field, field-store-other, field-set_field-other, part-set_field-other, length-entry, key_of-entry, offset_of-entry}
use Rattle.law_file.proofs.Opened.{Opened, opened-facts, facts-opened, opened-room, first_no-head, first_no-tail}
use Rattle.law_file.proofs.Kept.{Kept, kept_refl, kept_trans, kept-slots, kept_store, kept-points, kept-layout, opened-kept}
use Rattle.law_file.proofs.Table.{Taken, key_at}
use Rattle.law_file.proofs.Probe.{home-lt, vacant-key, search-met, search-empty, search-exhausted, by-search, search-frame}
use Rattle.law_file.proofs.Cyclic.{dist_same, dist-lt}
use Rattle.law_file.proofs.Insert.{replace-search}
use Rattle.law_file.proofs.Effects.{area-above, message-low, message-end, length-message, retire-kept, retire-opened, retire-field, retire-slot, points_kept, points-free, points-behind, points-opened, Spaced, spaced, space-opened}
use Rattle.law_file.proofs.Stretch.{span, lies-sound, held-some}
use Rattle.law_file.proofs.Texts.{replaced-none, replaced-some, replaced-held, replaced-written, renewed-moved}
use Rattle.law_file.proofs.Outcomes.{settled-yes, lookup-shows, add-closed, add-7, add-10-exhausted, add-10-full, add-11, add-renewed, add-fresh}
use Rattle.law_frames.proofs.Added.{name-length}
use Rattle.law_agreement.proofs.Space.{Written, written, written-lies}

-- ---- the search

-- of any table: what stands on the way to the empty slot is taken by other keys
module _ (g : Layout) (img key : Bytes) (i : ℕ) (s : Bytes) (room : Room g (length img)) (pos : 0 < g.N)
    (fits : length s ≡ slot_size g) (k : key_of g s ≡ key) (z : all_zero key ≡ false) (e : search g img key ≡ empty i)
  where
    abbrev put : Bytes
    put = put_slot g img i s

    abbrev far : ℕ → ℕ
    far j = dist g.N (home g key) j

    here_lt : i < g.N
    here_lt = (search-empty g img key pos i e).0

    key_here : key_at g put i ≡ key
    key_here = ap (key_of g) (slot-put_slot-same g img room i s here_lt fits) ∙ k

    other-slot : (j : ℕ) → (j ≡ i → ⊥) → slot g put j ≡ slot g img j
    other-slot j n = slot-put_slot-other g img room i s j here_lt fits n

    -- another slot stands nearer to home or farther from it
    by-far {ℓ} : {A : Type ℓ} (j : ℕ) → j < g.N → (j ≡ i → ⊥) → (far j < far i → A) → (far i < far j → A) → A
    by-far j l n near more =
        by_le (far i) (far j)
        (λ le. by-eq (far i) (far j)
        (λ q. absurd (n (sym (dist_same g.N (home g key) i j (home-lt g key pos) here_lt l q))))
        (λ q. more (omega arith)))
        near

    pub search-entered : search g put key ≡ met i
    search-entered =
        by-search g put key pos
        (λ j f. by-eq j i
        (λ q. f ∙ ap met q)
        (λ n. absurd (by-far j (search-met g put key pos j f).0 n
        (λ near.
        ((search-empty g img key pos i e).2 j (search-met g put key pos j f).0 near).1
        (sym (ap (key_of g) (other-slot j n)) ∙ (search-met g put key pos j f).1))
        (λ more. ((search-met g put key pos j f).2 i here_lt more).1 key_here))))
        (λ j f. absurd (by-eq j i
        (λ q. (search-empty g put key pos j f).3 (ap (key_at g put) q ∙ key_here))
        (λ n. by-far j (search-empty g put key pos j f).0 n
        (λ near.
        not-both _ (sym (ap (vacant g) (other-slot j n)) ∙ (search-empty g put key pos j f).1)
        ((search-empty g img key pos i e).2 j (search-empty g put key pos j f).0 near).0)
        (λ more. ((search-empty g put key pos j f).2 i here_lt more).1 key_here))))
        (λ f. absurd ((search-exhausted g put key pos f i here_lt).1 key_here))

-- ---- the image, and the key that is allowed there

module _ (img key t : Bytes) (o : Opened img) (a : name_allowed (layout_of img).K key ≡ true) where
  abbrev g : Layout
  g = layout_of img

  abbrev x : ℕ
  x = field img free_field

  -- the message's offset in slot i
  abbrev offset : ℕ → ℕ
  offset i = offset_of g (slot g img i)

  abbrev Shows : Bytes → Type 0
  Shows img₁ = (lookup img₁ key).answer ≡ record { number = 0; amount = length t; text = some t; epoch = 0 }

  some-slot : 0 < g.N
  unfolding layout_of
  some-slot = omega (arith, o.slots-low)

  key-size : length key ≡ g.K
  key-size = name-length g.K key a

  not-zero : all_zero key ≡ false
  unfolding name_allowed
  not-zero = not-true (all_zero key) (and_right (eqb (length key) g.K) (not (all_zero key)) a)

  -- ---- a message that was written, where the key's slot says

  module _ (img₁ : Bytes) (k : Kept img img₁) (o₁ : Opened img₁) where
    same_layout : layout_of img₁ ≡ g
    same_layout = kept-layout k.fixed o.last

    low-some : (p : ℕ) → g.D ≤ p → p ≡ 0 → ⊥
    unfolding layout_of
    low-some p lo q = omega (arith, area-above img o)

    text-shown : (p : ℕ) → Written g img₁ p t → (p ≡ 0 → ⊥) → shown g img₁ p ≡ some t
    unfolding shown is_active
    text-shown p w z = rw (w.letter, w.text, ne_eqb p 0 z) refl

    final : (i p : ℕ) → search g img₁ key ≡ met i → offset_of g (slot g img₁ i) ≡ p
        → g.D ≤ p → length t < 256 ^ g.W → part img₁ p (head_size g + length t) ≡ message g.W t
        → p + (head_size g + length t) ≤ field img₁ free_field
        → Shows img₁
    unfolding bytes_of
    final i p m e lo small there hi =
        let z : p ≡ 0 → ⊥ = low-some p lo in
        let w : Written g img₁ p t = written g img₁ p t small there in
        let s : message_sound g img₁ p ≡ true = lies-sound g img₁ p (written-lies g img₁ p t w z lo hi) in
        lookup-shows img₁ key (facts-opened img₁ o₁) (rw same_layout a) i (rw same_layout m)
        (rw same_layout (rw e s))
        ∙ rw (same_layout, e, text-shown p w z) refl

  -- ---- in place

  module _ (bytes : AreBytes img) (i : ℕ) (m : search g img key ≡ met i)
      (s : message_sound g img (offset i) ≡ true) (z : offset i ≡ 0 → ⊥) (le : length t ≤ held g img (offset i)) where
    abbrev v : Bytes
    v = message g.W t ++ zeros (held g img (offset i) - length t)

    abbrev over : Bytes
    over = store img (offset i) v

    length-v : length v ≡ span g img (offset i)
    length-v =
        length-append (message g.W t) (zeros (held g img (offset i) - length t))
        ∙ ap₂ ◌+◌ (length-message g t) (length-zeros (held g img (offset i) - length t))
        ∙ omega (arith, held-some g img (offset i) z, le)

    inside : offset i + length v ≤ length img
    inside = rw length-v (omega (arith, message-end img o (offset i) s z, o.free-high))

    low : g.D ≤ offset i
    unfolding layout_of
    low = message-low img o (offset i) s z

    above : table_start ≤ offset i
    unfolding layout_of
    above = omega (arith, area-above img o, message-low img o (offset i) s z)

    small : length t < 256 ^ g.W
    unfolding length_at head_size
    small =
        omega (
          arith,
          le,
          held-some g img (offset i) z,
          part-below img (offset i + 1) g.W bytes (omega (arith, message-end img o (offset i) s z, o.free-high)),
        )

    over-kept : Kept img over
    over-kept = kept_store img (offset i) v inside above

    over-field : (f : ℕ) → f + 4 ≤ table_start → field over f ≡ field img f
    over-field f h = field-store-other img (offset i) v f inside (inl (omega (arith, above)))

    over-opened : Opened over
    over-opened =
        opened-kept over-kept o
        (rw (over-field points_field (omega arith)) o.points)
        (rw (over-field free_field (omega arith)) o.free-low)
        (rw (over-field free_field (omega arith)) o.free-high)

    over-slot : (j : ℕ) → j < g.N → slot g over j ≡ slot g img j
    over-slot j l = slot-store-data g img (opened-room img o) (offset i) v j l low inside

    over-there : part over (offset i) (head_size g + length t) ≡ message g.W t
    unfolding part
    over-there =
        ap (λ (p : ℕ). part over p (head_size g + length t)) (sym (add-zero (offset i)))
        ∙ part-store-inside img (offset i) v 0 (head_size g + length t) (omega (arith, inside))
        (rw length-v (omega (arith, held-some g img (offset i) z, le)))
        ∙ take_at (message g.W t) (zeros (held g img (offset i) - length t)) (head_size g + length t)
        (length-message g t)

    overwrite-shown : Shows (overwrite g img (offset i) t)
    unfolding overwrite
    overwrite-shown =
        final over over-kept over-opened i (offset i)
        (search-frame g img over key some-slot over-slot ∙ m)
        (ap (offset_of g) (over-slot i (search-met g img key some-slot i m).0))
        low small over-there
        (rw (over-field free_field (omega arith))
        (omega (arith, message-end img o (offset i) s z, held-some g img (offset i) z, le)))

  -- ---- in new space, which is taken in an image b that keeps what no call changes, and X; then the key's slot is put

  abbrev entry : Bytes
  entry = slot_bytes key x

  entry-long : length entry ≡ slot_size g
  entry-long = length-entry g key x key-size

  entry_key : key_of g entry ≡ key
  entry_key = key_of-entry g key x key-size

  module _ (b : Bytes) (kb : Kept img b) (ob : Opened b) (free-b : field b free_field ≡ x)
      (short : length t ≤ g.most) (fits : x + head_size g + length t ≤ length img) where
    layout-b : layout_of b ≡ g
    layout-b = kept-layout kb.fixed o.last

    fits-b : field b free_field + head_size (layout_of b) + length t ≤ length b
    fits-b = rw (layout-b, free-b, kb.fixed.size) fits

    abbrev wide : Bytes
    wide = take_space g b t

    space : Spaced g b t
    space = rw layout-b at (spaced b ob t fits-b)

    wide-opened : Opened wide
    wide-opened = rw layout-b at (space-opened b ob t fits-b)

    wide-kept : Kept img wide
    wide-kept = kept_trans kb space.kept

    wide_room : Room g (length wide)
    wide_room = rw wide-kept.fixed.size (opened-room img o)

    low_x : g.D ≤ x
    unfolding layout_of
    low_x = o.free-low

    module _ (i : ℕ) (il : i < g.N) where
      abbrev entered : Bytes
      entered = put_slot g wide i entry

      entered-kept : Kept wide entered
      unfolding put_slot
      entered-kept =
          kept_store wide (slot_start g i) entry (omega (arith, slot-end g wide_room i il, wide_room.area, entry-long))
          (slot-above g i)

      entered-field : (f : ℕ) → f + 4 ≤ table_start → field entered f ≡ field wide f
      entered-field f h = field-put_slot g wide wide_room i entry f il entry-long h

      entered-opened : Opened entered
      entered-opened =
          opened-kept entered-kept wide-opened
          (rw (entered-field points_field (omega arith)) wide-opened.points)
          (rw (entered-field free_field (omega arith)) wide-opened.free-low)
          (rw (entered-field free_field (omega arith)) wide-opened.free-high)

      entered-there : part entered x (head_size g + length t) ≡ message g.W t
      entered-there =
          part-put_slot-outside g wide wide_room i entry x (head_size g + length t) il entry-long (inr low_x)
          ∙ ap (λ (p : ℕ). part wide p (head_size g + length t)) (sym free-b)
          ∙ space.there

      -- the image f, in which C may be another
      placed-shown : (f : Bytes) → Kept entered f → Opened f → ((j : ℕ) → j < g.N → slot g f j ≡ slot g entered j)
          → part f x (head_size g + length t) ≡ part entered x (head_size g + length t)
          → field f free_field ≡ field entered free_field → search g entered key ≡ met i
          → Shows f
      placed-shown f kf of slots-f there-f free-f m =
          let size : x < word = omega (arith, o.free-high, o.size-high) in
          final f (kept_trans wide-kept (kept_trans entered-kept kf)) of i x
          (search-frame g entered f key some-slot slots-f ∙ m)
          (ap (offset_of g) (slots-f i il ∙ slot-put_slot-same g wide wide_room i entry il entry-long)
          ∙ offset_of-entry g key x key-size size)
          low_x (omega (arith, short, layout-most img)) (there-f ∙ entered-there)
          (rw (free-f, entered-field free_field (omega arith), space.free, free-b) (omega arith))

  module _ (short : length t ≤ g.most) (fits : x + head_size g + length t ≤ length img) where
    -- a point that is present
    module _ (i : ℕ) (m : search g img key ≡ met i) (s : message_sound g img (offset i) ≡ true) where
      abbrev off : Bytes
      off = retire img (offset i)

      off-kept : Kept img off
      off-kept = retire-kept img o (offset i) s

      off-opened : Opened off
      off-opened = retire-opened img o (offset i) s

      off-free : field off free_field ≡ x
      off-free = retire-field img o (offset i) s free_field (omega arith)

      off-met : search g (take_space g off t) key ≡ met i
      off-met =
          search-frame g off (take_space g off t) key some-slot
          (space off off-kept off-opened off-free short fits).slots
          ∙ search-frame g img off key some-slot (retire-slot img o (offset i) s)
          ∙ m

      relocate-shown : Shows (relocated g img i (offset i) key t)
      unfolding relocated
      relocate-shown =
          let il = (search-met g img key some-slot i m).0 in
          placed-shown off off-kept off-opened off-free short fits i il _ (kept_refl _)
          (entered-opened off off-kept off-opened off-free short fits i il) (λ j l. refl) refl refl
          (replace-search g (take_space g off t) key i entry (wide_room off off-kept off-opened off-free short fits)
          some-slot entry-long entry_key off-met key
          ∙ off-met)

    -- a point that is absent
    module _ (i : ℕ) (e : search g img key ≡ empty i) (left : field img points_field < g.N) where
      il₂ : i < g.N
      il₂ = (search-empty g img key some-slot i e).0

      abbrev new : Bytes
      new = put_slot g (take_space g img t) i entry

      abbrev count : ℕ
      count = field (take_space g img t) points_field + 1

      new-opened : Opened new
      new-opened = entered-opened img (kept_refl img) o refl short fits i il₂

      new-kept : Kept img new
      new-kept =
          kept_trans (wide-kept img (kept_refl img) o refl short fits)
          (entered-kept img (kept_refl img) o refl short fits i il₂)

      counted : count ≤ field new slots_field
      unfolding layout_of
      counted =
          omega (
            arith,
            left,
            (space img (kept_refl img) o refl short fits).points,
            kept-slots new-kept.fixed,
          )

      new-room : Room g (length new)
      new-room = rw new-kept.fixed.size (opened-room img o)

      new-met : search g new key ≡ met i
      new-met =
          search-entered g (take_space g img t) key i entry (wide_room img (kept_refl img) o refl short fits) some-slot
          entry-long entry_key not-zero
          (search-frame g img (take_space g img t) key some-slot (space img (kept_refl img) o refl short fits).slots
          ∙ e)

      above-table : table_start ≤ x
      above-table = omega (arith, area-above img o, o.free-low)

      insert-shown : Shows (inserted g img i key (some t))
      unfolding inserted enter
      insert-shown =
          placed-shown img (kept_refl img) o refl short fits i il₂ (set_field new points_field count)
          (points_kept new new-opened count counted)
          (points-opened new new-opened count counted)
          (λ j l. slot-set_field g new new-room points_field count j (omega arith) l)
          (points-behind new new-opened count counted x (head_size g + length t) above-table)
          (points-free new new-opened count counted)
          new-met

-- ---- the call

module _ (img key t : Bytes) (bytes : AreBytes img) (some' : 0 < length t) (z : add_number img key t 2 ≡ 0) where
  other : (k : ℕ) → add_number img key t 2 ≡ k → (k ≡ 0 → ⊥) → ⊥
  other k e w = w (sym e ∙ z)

  open₀ : open_number img ≡ 0
  open₀ = by-eq (open_number img) 0 (λ e. e) (λ e. absurd (e (sym (add-closed img key e t 2) ∙ z)))

  opened₀ : Opened img
  opened₀ = opened-facts img open₀

  abbrev lay : Layout
  lay = layout_of img

  allowed : name_allowed lay.K key ≡ true
  allowed =
      by_bool (name_allowed lay.K key) (λ y. y)
      (λ n. absurd (other 7 (add-7 img key open₀ t 2 n) (λ e. omega arith)))

  known : mode_known 2 ≡ true
  unfolding mode_known
  known = refl

  -- 12 and 13 are answered yes
  room : place_number lay img (some t) ≡ 0
      → (length t ≤ lay.most) × (field img free_field + head_size lay + length t ≤ length img)
  unfolding length_allowed space_left
  room h =
      let long = leb (length t) lay.most in
      let end = leb (field img free_field + head_size lay + length t) (length img) in (
        leb-true _ _ (first_no-head 12 long _ (λ e. omega arith) h),
        leb-true _ _ (first_no-head 13 end [] (λ e. omega arith) (first_no-tail 12 long _ (λ e. omega arith) h)),
      )

  -- the image that the call leaves, by how its search ended; the data are not empty, so that no version is written
  after_is : (p : Probe) → search lay img key ≡ p → (add img key t 2).after ≡ added_at lay img p key t 2
  unfolding add added noted
  after_is p e =
      settled-yes (add_number img key t 2) img _ z
      ∙ rw (ne_eqb (length t) 0 (λ q. omega (arith, some'))) (ap (λ (q : Probe). added_at lay img q key t 2) e)

  abbrev Answers : Bytes → Type 0
  Answers img₁ = (lookup img₁ key).answer ≡ record { number = 0; amount = length t; text = some t; epoch = 0 }

  present : (i : ℕ) → search lay img key ≡ met i → Answers (add img key t 2).after
  unfolding added_at
  present i m =
      let p : ℕ = offset_of lay (slot lay img i) in
      let s : message_sound lay img p ≡ true =
      by_bool (message_sound lay img p) (λ y. y)
      (λ n. absurd (other 11 (add-11 img key open₀ t 2 allowed known i m refl n) (λ e. omega arith))) in
      let number : place_number lay img (renewed_text lay img p t 2) ≡ 0 =
      sym (add-renewed img key open₀ t 2 allowed known i m refl s) ∙ z in
      by_bool (not (eqb p 0) && leb (length t) (held lay img p))
      (λ y.
      let none' = replaced-none lay img i p key t y in
      let there = replaced-held lay img i p key t none' in
      subst Answers (sym (after_is (met i) m ∙ replaced-written lay img i p key t none'))
      (overwrite-shown img key t opened₀ allowed bytes i m s there.0 there.1))
      (λ n.
      let some₁ = replaced-some lay img i p key t n in
      let fits = room (ap (place_number lay img) (sym some₁) ∙ number) in
      subst Answers (sym (after_is (met i) m ∙ renewed-moved lay img i p key t 2 t some₁))
      (relocate-shown img key t opened₀ allowed fits.0 fits.1 i m s))

  absent : (i : ℕ) → search lay img key ≡ empty i → Answers (add img key t 2).after
  unfolding added_at fresh_text
  absent i e =
      by_bool (ltb (field img points_field) lay.N)
      (λ y.
      let fits = room (sym (add-fresh img key open₀ t 2 allowed known refl i e y) ∙ z) in
      subst Answers (sym (after_is (empty i) e))
      (insert-shown img key t opened₀ allowed fits.0 fits.1 i e (ltb-true _ _ y)))
      (λ n. absurd (other 10 (add-10-full img key open₀ t 2 allowed known refl i e n) (λ q. omega arith)))

  pub replaced-shown : Answers (add img key t 2).after
  replaced-shown =
      by-search lay img key (some-slot img key t opened₀ allowed) present absent
      (λ e. absurd (other 10 (add-10-exhausted img key open₀ t 2 allowed known refl e) (λ q. omega arith)))
