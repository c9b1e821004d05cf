-- Document 02, Job 11: the image that an accepted conversion leaves, part by part: "Points, texts and each point's slot
-- are equal before and after, as are scramble and header but for version, X and M; space is compacted as in Job 2, all
-- other bytes are zero."
--     rewritten_from       the active messages of taken slots, with headers of the target, one behind the other in the
--                         order of their offsets: those that begin at p, p + 1, .., of so many places
--     Sofar, sofar        the target with the messages of so many places, part by part
--     rewritten_slot       a slot afterwards: its key, and where its active message stands
--     converted-..        the whole: length, header, scramble, slots, data area, X and M, and zeros everywhere else
-- Assumes nothing.
use mathlib.Core.Path.{◌≡◌, refl, sym, ap, ap₂, ◌∙◌, subst}
use Prim.Native.Nat.{ℕ, zero, suc, ◌+◌, ◌-◌, ◌*◌, ◌≤◌, ◌<◌}
use native.Mathlib.Nat.{add-zero}
use native.Mathlib.Omega.{arith}
use mathlib.Core.Bool.{Bool, true, false, cond, not, ◌&&◌}
use mathlib.Core.List.{[], ◌∷◌, ◌++◌, append_assoc, append-nil}
use mathlib.Core.Logic.{inl, inr}
use lib.ListN.{length, length-append}
use lib.Dec.{ltb, eqb}
use borrow.Author.Tests.{eqb-true, ltb-true, lt-ltb, not-true}
use Rattle.spec_file.specs.Bytes.{Bytes, part, number, zeros}
use Rattle.spec_file.specs.Limits.{page_size, version_field, serial_field, free_field, page_field, header_size, scramble_start, table_start, first_field, last_field, word, most_image}
use Rattle.spec_file.specs.Image.{field, last_page, scramble, major_of, Layout, layout_of, slot_size, slot, key_of, offset_of, slot_bytes, blank}
use Rattle.spec_file.specs.Messages.{head_size, length_at, text_at, is_active, message}
use Rattle.spec_file.specs.Questions.{first_no}
use Rattle.spec_file.specs.Inspect.{taken, check, sound}
use Rattle.spec_compaction.specs.Compact.{begins_at}
use Rattle.spec_conversion.specs.Convert.{other_major, other_version, recast, other_layout, bare_slot, bare_image, carried, carried_at, carried_from, converted, convert_number}
use Rattle.law_file.proofs.Tests.{by_bool, by-eq, by_le, by-either, and_left, and_right, and-true, not-both}
use Rattle.law_file.proofs.Bytes.{Apart, AreBytes, part_length, part-add}
use Rattle.law_file.proofs.Slots.{Room, length-slot, length-key_of}
use Rattle.law_file.proofs.Opened.{Opened, opened-room}
use Rattle.law_file.proofs.Table.{key_at}
use Rattle.law_file.proofs.Effects.{length-message}
use Rattle.law_compaction.proofs.Packing.{start_at, Live, Stretches, sound-stretches, begins-live, live-begins}
use Rattle.spec_book.specs.Book.{Book, converted_book}
use Rattle.spec_book.specs.Reopened.{book_of}
use Rattle.spec_book.specs.Demand.{file_text}
use Rattle.law_agreement.proofs.File.{File}
use Rattle.law_agreement.proofs.Checked.{file-check, check-file}
use Rattle.law_agreement.proofs.Reflect.{Reflects}
use Rattle.law_agreement.proofs.Reopened.{file-reflects}
use Rattle.law_agreement.proofs.Bare.{is_base, base-part, base-version, base-field, base-free, base-page, base-zeros, base-scramble, base-slot, recast-slot}
use Rattle.law_agreement.proofs.Converting.{asks, is-file, size_facts, size, holds, accepted}
use Rattle.law_agreement.proofs.Steps.{converted-text}
use Rattle.law_agreement.proofs.Found.{points-agree}
use Rattle.law_conversion.proofs.Ready.{Ready, ready, accepted-sound}
use Rattle.law_conversion.proofs.Places.{from-append, by_place, Begins}
use Rattle.law_conversion.proofs.Carry.{carry-free, carry-page, carry-there, carry-slot, carry-slot-other, carry-other}

-- ---- the messages

unfoldable pub rewritten_at : Layout → Layout → Bytes → ℕ → Bytes
rewritten_at g h img p = cond (begins_at g img p) (message h.W (text_at g img p)) []

unfoldable pub rewritten_from : Layout → Layout → Bytes → ℕ → ℕ → Bytes
rewritten_from g h img zero p = []
rewritten_from g h img (suc left) p = rewritten_at g h img p ++ rewritten_from g h img left (suc p)

-- slot i once the messages of so many places are carried: the message of a live slot stands behind those that begin
-- below it
unfoldable pub rewritten_slot : Layout → Layout → Bytes → ℕ → ℕ → Bytes
rewritten_slot g h img left i =
    let s : ℕ = start_at g img i in
    cond (taken g img i && (is_active img s && ltb s (g.D + left)))
    (slot_bytes (key_of g (slot g img i)) (g.D + length (rewritten_from g h img (s - g.D) g.D)))
    (bare_slot g img i)

module _ (g h : Layout) (img : Bytes) where
  rewritten-on : (left p : ℕ)
      → rewritten_from g h img (suc left) p ≡ rewritten_from g h img left p ++ rewritten_at g h img (p + left)
  unfolding rewritten_from
  rewritten-on zero p = append-nil (rewritten_at g h img p) ∙ ap (rewritten_at g h img) (sym (add-zero p))
  rewritten-on (suc left) p =
      let e : suc p + left ≡ p + suc left = omega arith in
      ap (λ (x : Bytes). rewritten_at g h img p ++ x) (rewritten-on left (suc p))
      ∙ sym
      (append_assoc (rewritten_at g h img p) (rewritten_from g h img left (suc p)) (rewritten_at g h img (suc p + left)))
      ∙ ap (λ (q : ℕ). (rewritten_at g h img p ++ rewritten_from g h img left (suc p)) ++ rewritten_at g h img q) e

  rewritten-none : (p : ℕ) → ((i : ℕ) → Begins g h img p i → ⊥) → rewritten_at g h img p ≡ []
  unfolding rewritten_at
  rewritten-none p n =
      by_bool (begins_at g img p)
      (λ y. let w = begins-live g img p y in absurd (n w.0 (w.1, w.2)))
      (λ no'. rw no' refl)

  rewritten-live : (p i : ℕ) → Begins g h img p i → rewritten_at g h img p ≡ message h.W (text_at g img p)
  unfolding rewritten_at
  rewritten-live p i v = rw (ap (begins_at g img) (sym v.1) ∙ live-begins g img i v.0) refl

  -- which case a slot is in
  slot-there : (left i : ℕ) → Live g img i → start_at g img i < g.D + left
      → rewritten_slot g h img left i
      ≡ slot_bytes (key_of g (slot g img i)) (g.D + length (rewritten_from g h img (start_at g img i - g.D) g.D))
  unfolding rewritten_slot
  slot-there left i v l = rw (v.is, v.active, lt-ltb (start_at g img i) (g.D + left) l) refl

  slot-waits : (left i : ℕ) → i < g.N → (Live g img i → start_at g img i < g.D + left → ⊥)
      → rewritten_slot g h img left i ≡ bare_slot g img i
  unfolding rewritten_slot
  slot-waits left i low n =
      let s = start_at g img i in
      by_bool (taken g img i && (is_active img s && ltb s (g.D + left)))
      (λ y.
      let a = and_right (taken g img i) _ y in
      absurd (n (record { low = low; is = and_left (taken g img i) _ y; active = and_left (is_active img s) _ a })
      (ltb-true s (g.D + left) (and_right (is_active img s) _ a))))
      (λ no'. rw no' refl)

-- ---- part by part

pub record Sofar (g h : Layout) (img base : Bytes) (left : ℕ) (t : Bytes) : Type 0 where
  pub free : field t free_field ≡ g.D + length (rewritten_from g h img left g.D)
  pub page : field t page_field ≡ last_page g.D (field t free_field)
  pub area : part t g.D (length (rewritten_from g h img left g.D)) ≡ rewritten_from g h img left g.D
  pub slots : (i : ℕ) → i < g.N → slot h t i ≡ rewritten_slot g h img left i
  pub other : (q m : ℕ) → Apart q m free_field 8 → Apart q m table_start (h.N * slot_size h)
      → Apart q m g.D (length (rewritten_from g h img left g.D))
      → part t q m ≡ part base q m

page-small : (D X : ℕ) → X < word → last_page D X < word
unfolding last_page
page-small D X l = by_bool (eqb X D) (λ y. rw y (omega arith)) (λ n. rw n (omega arith))

module _ (img : Bytes) (bytes : AreBytes img) (L : ℕ) (ok : convert_number img L ≡ 0) where
  abbrev g : Layout
  g = layout_of img

  abbrev h : Layout
  h = other_layout img

  abbrev base : Bytes
  base = bare_image img L

  abbrev T : ℕ → Bytes
  T left = carried_from g h img left g.D base

  S : Stretches g img
  S = sound-stretches img (accepted-sound img L ok)

  same-D : h.D ≡ g.D
  unfolding other_layout recast
  same-D = refl

  same-K : h.K ≡ g.K
  unfolding other_layout recast
  same-K = refl

  same-N : h.N ≡ g.N
  unfolding other_layout recast
  same-N = refl

  -- ---- one place further

  module _ (left : ℕ) (s : Sofar g h img base left (T left)) where
    abbrev p : ℕ
    p = g.D + left

    abbrev t : Bytes
    t = T left

    R : Ready img L p t
    R = ready img bytes L ok left

    abbrev old : Bytes
    old = rewritten_from g h img left g.D

    next-is : T (suc left) ≡ carried_at g h img p t
    next-is =
        let e : suc left ≡ left + 1 = omega arith in
        ap (λ (n : ℕ). carried_from g h img n g.D base) e ∙ from-append g h img left 1 g.D base ∙ one p t
      where
        one : (p : ℕ) (t : Bytes) → carried_from g h img 1 p t ≡ carried_at g h img p t
        one p t = unfold carried_from in refl

    -- no message begins there
    step-none : ((i : ℕ) → Begins g h img p i → ⊥) → Sofar g h img base (suc left) t
    step-none n =
        let e : rewritten_from g h img (suc left) g.D ≡ old =
        rewritten-on g h img left g.D ∙ ap (λ (x : Bytes). old ++ x) (rewritten-none g h img p n) ∙ append-nil old in
        record {
          free = rw e s.free;
          page = s.page;
          area = rw e s.area;
          slots = λ i low. s.slots i low ∙ same-slot i low;
          other = λ q m a b c. s.other q m a b (subst (λ (x : Bytes). Apart q m g.D (length x)) e c);
        }
      where
        same-slot : (i : ℕ) → i < g.N → rewritten_slot g h img left i ≡ rewritten_slot g h img (suc left) i
        same-slot i low =
            by_bool (taken g img i && is_active img (start_at g img i))
            (λ y.
            let v : Live g img i =
            record { low = low; is = and_left (taken g img i) _ y; active = and_right (taken g img i) _ y } in
            by_le (suc (start_at g img i)) p
            (λ le. slot-there g h img left i v (omega arith) ∙ sym (slot-there g h img (suc left) i v (omega arith)))
            (λ gt.
            slot-waits g h img left i low (λ w l. omega arith)
            ∙ sym (slot-waits g h img (suc left) i low (λ w l. n i (v, omega arith)))))
            (λ no'.
            let dead : Live g img i → ⊥ =
            λ v. not-both _ (and-true (taken g img i) (is_active img (start_at g img i)) v.is v.active) no' in
            slot-waits g h img left i low (λ w l. dead w) ∙ sym (slot-waits g h img (suc left) i low (λ w l. dead w)))

    -- slot i's message does
    module _ (i : ℕ) (b : Begins g h img p i) where
      abbrev key : Bytes
      key = key_of g (slot g img i)

      abbrev text : Bytes
      text = text_at g img p

      abbrev t' : Bytes
      t' = carried h t i key text

      v : Live g img i
      v = b.0

      low : i < h.N
      low = omega (arith, v.low, same-N)

      text-length : length text ≡ length_at g img p
      unfolding text_at
      text-length =
          part_length img (p + head_size g) (length_at g img p)
          (subst (λ (q : ℕ). q + head_size g + length_at g img q ≤ length img) b.1
          (omega (arith, S.end i v, S.free-high)))

      long : length key ≡ h.K
      long = length-key_of g (slot g img i) (length-slot g img S.room i v.low) ∙ sym same-K

      fits : field t free_field + head_size h + length text ≤ length t
      fits =
          omega (
            arith,
            R.fits i v (omega (arith, b.1)),
            text-length,
            ap (length_at g img) b.1,
          )

      abbrev X : ℕ
      X = field t free_field

      free : field t' free_field ≡ X + head_size h + length text
      free = carry-free h t R.layout R.opened i low key text long fits

      there : part t' X (head_size h + length text) ≡ message h.W text
      there = carry-there h t R.layout R.opened i low key text long fits

      own-slot : slot h t' i ≡ slot_bytes key X
      own-slot = carry-slot h t R.layout R.opened i low key text long fits

      other-slot : (j : ℕ) → j < h.N → (j ≡ i → ⊥) → slot h t' j ≡ slot h t j
      other-slot = carry-slot-other h t R.layout R.opened i low key text long fits

      others : (q m : ℕ) → Apart q m free_field 8 → Apart q m table_start (h.N * slot_size h)
          → Apart q m X (head_size h + length text)
          → part t' q m ≡ part t q m
      others = carry-other h t R.layout R.opened i low key text long fits

      page : field t' page_field ≡ last_page h.D (X + head_size h + length text)
      page =
          carry-page h t R.layout R.opened i low key text long fits
          (page-small h.D _ (omega (arith, fits, R.opened.size-high)))

      new_is : rewritten_from g h img (suc left) g.D ≡ old ++ message h.W text
      new_is =
          rewritten-on g h img left g.D ∙ ap (λ (x : Bytes). old ++ x) (rewritten-live g h img p i b)

      new-length : length (rewritten_from g h img (suc left) g.D) ≡ length old + (head_size h + length text)
      new-length =
          ap length new_is ∙ length-append old (message h.W text)
          ∙ ap (λ (n : ℕ). length old + n) (length-message h text)

      table_below : table_start + h.N * slot_size h ≤ g.D
      table_below =
          subst (λ (d : ℕ). table_start + h.N * slot_size h ≤ d) same-D
          (subst (λ (l : Layout). table_start + l.N * slot_size l ≤ l.D) R.layout (opened-room t R.opened).table)

      new-area : part t' g.D (length old + (head_size h + length text)) ≡ old ++ message h.W text
      new-area =
          part-add t' g.D (length old) (head_size h + length text)
          ∙ ap₂ ◌++◌
          (others g.D (length old) (inr (omega (arith, table_below))) (inr (omega (arith, table_below)))
          (inl (omega (arith, s.free)))
          ∙ s.area)
          (ap (λ (q : ℕ). part t' q (head_size h + length text)) (sym s.free) ∙ there)

      new-slot : (j : ℕ) → j < g.N → slot h t' j ≡ rewritten_slot g h img (suc left) j
      new-slot j l =
          by-eq j i
          (λ q.
          ap (slot h t') q ∙ own-slot
          ∙ ap (slot_bytes key) (s.free ∙ ap (λ (n : ℕ). g.D + length (rewritten_from g h img n g.D)) left_is)
          ∙ sym (slot-there g h img (suc left) i v (omega (arith, b.1)))
          ∙ ap (rewritten_slot g h img (suc left)) (sym q))
          (λ n. other-slot j (omega (arith, l, same-N)) n ∙ s.slots j l ∙ same-slot j l n)
        where
          left_is : left ≡ start_at g img i - g.D
          left_is = omega (arith, b.1)

          same-slot : (j : ℕ) → j < g.N → (j ≡ i → ⊥)
              → rewritten_slot g h img left j ≡ rewritten_slot g h img (suc left) j
          same-slot j l n =
              by_bool (taken g img j && is_active img (start_at g img j))
              (λ y.
              let w : Live g img j =
              record { low = l; is = and_left (taken g img j) _ y; active = and_right (taken g img j) _ y } in
              by_le (suc (start_at g img j)) p
              (λ le. slot-there g h img left j w (omega arith) ∙ sym (slot-there g h img (suc left) j w (omega arith)))
              (λ gt.
              slot-waits g h img left j l (λ u k. omega arith)
              ∙ sym (slot-waits g h img (suc left) j l
              (λ u k. n (S.alone j i w v (meets j gt k))))))
              (λ no'.
              let dead : Live g img j → ⊥ =
              λ u. not-both _ (and-true (taken g img j) (is_active img (start_at g img j)) u.is u.active) no' in
              slot-waits g h img left j l (λ u k. dead u) ∙ sym (slot-waits g h img (suc left) j l (λ u k. dead u)))
            where
              meets : (j : ℕ) → p < suc (start_at g img j) → start_at g img j < g.D + suc left
                  → start_at g img j ≡ start_at g img i
              meets j lo hi = omega (arith, lo, hi, b.1)

      step-live : Sofar g h img base (suc left) t'
      step-live =
          record {
            free = free ∙ omega (arith, s.free, new-length);
            page = page ∙ ap₂ last_page same-D (sym free);
            area =
                ap (part t' g.D) new-length ∙ new-area ∙ sym new_is;
            slots = new-slot;
            other = λ q m a c d.
                let d' : Apart q m g.D (length old + (head_size h + length text)) =
                subst (Apart q m g.D) new-length d in
                others q m a c (by-either d' (λ k. inl (omega (arith, s.free))) (λ k. inr (omega (arith, s.free))))
                ∙ s.other q m a c (by-either d' (λ k. inl k) (λ k. inr (omega arith)));
          }

    step : Sofar g h img base (suc left) (T (suc left))
    step =
        rw next-is
        (by_place g h img p t
        (λ n e. rw e (step-none n))
        (λ i b e. rw e (step-live i b)))

  -- ---- before the first place

  file : File g img
  file = check-file img bytes (accepted-sound img L ok)

  abbrev b : Book
  b = book_of img

  r : Reflects g img b
  r = file-reflects img file

  none-asked : first_no (asks img b r L) ≡ 0
  none-asked = sym (is-file img b r L) ∙ ok

  o : Opened img
  o = file.opened

  sized : size_facts L
  sized = size img b r L none-asked

  room : g.D ≤ L
  room = omega (arith, holds img b r L none-asked)

  slot_is : (i : ℕ) → slot h base i ≡ slot g base i
  unfolding other_layout
  slot_is i = recast-slot (other_major (major_of img)) g base i

  -- the bare image, as its bytes are known
  abbrev t₀ : Bytes
  t₀ = Rattle.law_agreement.proofs.Bare.base img o L sized.0 sized.1 sized.2 room

  base-is : base ≡ t₀
  base-is = is_base img o L sized.0 sized.1 sized.2 room

  sofar-none : Sofar g h img base 0 base
  unfolding rewritten_from
  sofar-none =
      let from-D : field base free_field ≡ g.D =
      ap (λ (x : Bytes). field x free_field) base-is ∙ base-free img o L sized.0 sized.1 sized.2 room in
      record {
        free = from-D ∙ sym (add-zero g.D);
        page =
            ap (λ (x : Bytes). field x page_field) base-is
            ∙ base-page img o L sized.0 sized.1 sized.2 room
            ∙ ap (last_page g.D) (sym from-D);
        area = unfold part in refl;
        slots = λ i l.
            slot_is i
            ∙ ap (λ (x : Bytes). slot g x i) base-is
            ∙ base-slot img o L sized.0 sized.1 sized.2 room i l
            ∙ sym (slot-waits g h img 0 i l (λ v k. omega (arith, S.low i v)));
        other = λ q m a c d. refl;
      }

  pub sofar : (left : ℕ) → Sofar g h img base left (T left)
  sofar zero = unfold carried_from in sofar-none
  sofar (suc left) = step left (sofar left)

  -- ---- the whole

  abbrev pub all : ℕ
  all = field img free_field - g.D

  -- the active messages in the order of their offsets
  abbrev pub messages : Bytes
  messages = rewritten_from g h img all g.D

  abbrev img' : Bytes
  img' = converted img L

  whole : Sofar g h img base all img'
  unfolding converted
  whole = sofar all

  R' : Ready img L (g.D + all) img'
  unfolding converted
  R' = ready img bytes L ok all

  pub converted-length : length img' ≡ L
  converted-length = R'.size

  pub converted-layout : layout_of img' ≡ h
  converted-layout = R'.layout

  relates : Reflects h img' (converted_book b L)
  relates = accepted img b r L none-asked

  pub converted-sound : check img' ≡ sound
  converted-sound = file-check h img' relates.file

  -- "Points, texts .. are equal before and after"
  pub converted-texts : (name : Bytes) → file_text img' name ≡ file_text img name
  converted-texts name =
      points-agree img' (converted_book b L) (h, relates) name
      ∙ converted-text b L name
      ∙ sym (points-agree img b (g, r) name)

  -- "and each point's slot"
  pub converted-keys : (i : ℕ) → i < g.N → key_at h img' i ≡ key_at g img i
  converted-keys = R'.keys

  -- ---- its slots

  above-all : (i : ℕ) → Live g img i → start_at g img i < g.D + all
  above-all i v = omega (arith, S.end i v, S.free-low, head-some)
    where
      head-some : 0 < head_size g
      head-some = unfold head_size in omega arith

  -- a message that is active stands behind those that began below it
  pub converted-live : (i : ℕ) → Live g img i
      → slot h img' i
      ≡ slot_bytes (key_at g img i) (g.D + length (rewritten_from g h img (start_at g img i - g.D) g.D))
  converted-live i v = whole.slots i v.low ∙ slot-there g h img all i v (above-all i v)

  -- a point without an active message has no offset
  pub converted-bare : (i : ℕ) → i < g.N → taken g img i ≡ true → is_active img (start_at g img i) ≡ false
      → slot h img' i ≡ slot_bytes (key_at g img i) 0
  converted-bare i l t n =
      whole.slots i l
      ∙ slot-waits g h img all i l (λ v k. not-both (is_active img (start_at g img i)) v.active n)
      ∙ (unfold bare_slot in rw t refl)

  -- an empty slot's bytes are zero, its offset bytes too
  pub converted-empty : (i : ℕ) → i < g.N → taken g img i ≡ false → slot h img' i ≡ blank g
  converted-empty i l n =
      whole.slots i l
      ∙ slot-waits g h img all i l (λ v k. not-both (taken g img i) v.is n)
      ∙ (unfold bare_slot in rw n refl)

  -- ---- its data area

  pub converted-free : field img' free_field ≡ g.D + length messages
  converted-free = whole.free

  pub converted-page : field img' page_field ≡ last_page g.D (field img' free_field)
  converted-page = whole.page

  -- "space is compacted as in Job 2"
  pub converted-data : part img' g.D (length messages) ≡ messages
  converted-data = whole.area

  -- ---- its header

  table_same : h.N * slot_size h ≡ g.N * slot_size g
  unfolding other_layout recast slot_size
  table_same = refl

  table-low : table_start + g.N * slot_size g ≤ g.D
  table-low = S.room.table

  -- below the table, X and M aside, it is as the bare image
  below : (q m : ℕ) → Apart q m free_field 8 → q + m ≤ table_start
      → part img' q m ≡ part t₀ q m
  below q m a l =
      whole.other q m a (inl l) (inl (omega (arith, table-low))) ∙ ap (λ (x : Bytes). part x q m) base-is

  -- "header but for version, X and M"
  pub converted-header : (q m : ℕ) → Apart q m version_field 3 → q + m ≤ free_field → part img' q m ≡ part img q m
  converted-header q m a l =
      below q m (inl l) (omega arith) ∙ base-part img o L sized.0 sized.1 sized.2 room q m a l

  pub converted-version : part img' version_field 3 ≡ other_version (major_of img)
  converted-version =
      below version_field 3 (inl (omega arith)) (omega arith)
      ∙ base-version img o L sized.0 sized.1 sized.2 room

  header-field : (at : ℕ) → serial_field ≤ at → at + 4 ≤ free_field → field img' at ≡ field img at
  unfolding field
  header-field at lo hi = ap number (converted-header at 4 (inr (omega arith)) hi)

  abbrev numbers : ℕ
  numbers = 4 * (field img last_field - field img first_field + 1)

  pub converted-scramble : scramble img' ≡ scramble img
  unfolding scramble
  converted-scramble =
      ap₂ (λ (e f : ℕ). part img' scramble_start (4 * (e - f + 1)))
      (header-field last_field (omega arith) (omega arith)) (header-field first_field (omega arith) (omega arith))
      ∙ below scramble_start numbers (inr (omega arith)) (omega (arith, o.last))
      ∙ sym
      (ap₂ (λ (e f : ℕ). part t₀ scramble_start (4 * (e - f + 1))) (same-field last_field (omega arith) (omega arith))
      (same-field first_field (omega arith) (omega arith)))
      ∙ base-scramble img o L sized.0 sized.1 sized.2 room
    where
      same-field : (at : ℕ) → serial_field ≤ at → at + 4 ≤ free_field → field t₀ at ≡ field img at
      same-field at lo hi = base-field img o L sized.0 sized.1 sized.2 room at lo hi

  -- ---- "all other bytes are zero"

  zero-part : (q m : ℕ) → header_size ≤ q → q + m ≤ L → Apart q m scramble_start numbers
      → Apart q m table_start (g.N * slot_size g) → Apart q m g.D (length messages)
      → part img' q m ≡ zeros m
  zero-part q m lo hi a c d =
      whole.other q m (inr (omega arith)) (subst (Apart q m table_start) (sym table_same) c) d
      ∙ ap (λ (x : Bytes). part x q m) base-is
      ∙ base-zeros img o L sized.0 sized.1 sized.2 room q m hi lo a c

  -- bytes 60 to 511
  pub zeros-header : part img' header_size (scramble_start - header_size) ≡ zeros (scramble_start - header_size)
  zeros-header =
      zero-part header_size (scramble_start - header_size) (omega arith) (omega (arith, sized.1)) (inl (omega arith))
      (inl (omega arith)) (inl (omega (arith, table-low)))

  -- behind the scramble
  pub zeros-scramble : part img' (scramble_start + numbers) (table_start - (scramble_start + numbers))
      ≡ zeros (table_start - (scramble_start + numbers))
  zeros-scramble =
      zero-part (scramble_start + numbers) (table_start - (scramble_start + numbers)) (omega arith)
      (omega (arith, sized.1, o.last)) (inr (omega arith)) (inl (omega (arith, o.last)))
      (inl (omega (arith, table-low, o.last)))

  -- behind the table
  pub zeros-table : part img' (table_start + g.N * slot_size g) (g.D - (table_start + g.N * slot_size g))
      ≡ zeros (g.D - (table_start + g.N * slot_size g))
  zeros-table =
      zero-part (table_start + g.N * slot_size g) (g.D - (table_start + g.N * slot_size g)) (omega arith)
      (omega (arith, table-low, room)) (inr (omega (arith, o.last))) (inr (omega arith))
      (inl (omega (arith, table-low)))

  -- from X on
  pub zeros-free : part img' (field img' free_field) (L - field img' free_field) ≡ zeros (L - field img' free_field)
  zeros-free =
      zero-part (field img' free_field) (L - field img' free_field) (omega (arith, converted-free, table-low))
      (omega (arith, R'.opened.free-high, R'.size)) (inr (omega (arith, converted-free, table-low, o.last)))
      (inr (omega (arith, converted-free, table-low))) (inr (omega (arith, converted-free)))
