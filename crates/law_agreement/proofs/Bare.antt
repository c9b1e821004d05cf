-- Job 11: the target before the first message is carried over: the source's header in the other version, its scramble,
-- and its keys in their slots, without offsets. It is in the relation with a book whose entries have no text.
--     base-part, base-slot       its bytes
--     base-layout, base-file     the other layout; the invariant
--     bare_book, base-carrying    the start of the carrying
-- Assumes nothing.
use mathlib.Core.Path.{◌≡◌, refl, sym, ap, ap₂, ◌∙◌, subst, fun_ext}
use Prim.Native.Nat.{ℕ, zero, suc, ◌+◌, ◌-◌, ◌*◌, ◌%◌, ◌≤◌, ◌<◌}
use native.Mathlib.Nat.{add-zero, suc-mul, mul-le-mul_right}
use native.Mathlib.Omega.{arith}
use mathlib.Core.Logic.{inl, inr}
use mathlib.Core.Bool.{Bool, true, false, cond, not, ◌&&◌}
use mathlib.Core.List.{List, [], ◌∷◌, ◌++◌}
use mathlib.Core.Option.{Option, none, some, none-ne-some, some-injective}
use lib.ListN.{length, length-append, get_or, take, drop}
use lib.Seq.{get_or-take, get_or-drop, take_at, drop-append-add}
use lib.Dec.{eqb, leb}
use borrow.Author.Tests.{eqb-true, eq-eqb, leb-true, not-true, not-false}
use Rattle.spec_file.specs.Bytes.{Bytes, part, store, number, digits, zeros, all_zero, same}
use Rattle.spec_file.specs.Limits.{page_size, most_image, most_character, magic, major, minor, patch, wide_major, wide_minor, wide_patch, version_field, serial_field, key_field, slots_field, points_field, multiplier_field, start_field, first_field, last_field, scramble_field, table_field, data_field, free_field, page_field, header_size, scramble_start, table_start}
use Rattle.spec_file.specs.Image.{field, set_field, hash, scramble, major_of, wide, width_of, most_of, last_page, Layout, layout_of, slot_size, slot_start, slot, key_of, offset_of, slot_bytes, blank, vacant, home}
use Rattle.spec_file.specs.Messages.{head_size, set_free, shown, held, is_active}
use Rattle.spec_file.specs.Questions.{version_known, size_allowed, name_allowed}
use Rattle.spec_file.specs.Inspect.{taken}
use Rattle.spec_book.specs.Book.{Entry, Book, find, bare, space_for, space_for_all}
use Rattle.law_file.proofs.Tests.{by_bool, by-eq, and_left, and_right, not-both}
use Rattle.law_file.proofs.Bytes.{Apart, part_length, part-part, length-store, part-store-same, part-store-inside, part-store-below, part-store-other, length_digits, length-zeros, all_zero-zeros-eq, all_zero-zeros}
use Rattle.law_file.proofs.Slots.{Room, slot-end, slot-above, length-slot, length-key_of, length-entry, key_of-entry, offset_of-entry, length-blank, vacant-blank, length-set_field, field-set_field-same, field-set_field-other, part-set_field-other}
use Rattle.law_file.proofs.Opened.{Opened, opened-room}
use Rattle.law_file.proofs.Table.{Taken, key_at, home_at, entry_of, slot_met, Findable, weigh, weight}
use Rattle.law_file.proofs.Total.{total-same}
use Rattle.law_file.proofs.Probe.{by-search, search-met, search-finds}
use Rattle.law_file.proofs.Insert.{entry-taken, findable-keys}
use Rattle.law_file.proofs.Stretch.{none-stored}
use Rattle.law_compaction.proofs.Packing.{start_at, Live}
use Rattle.law_agreement.proofs.File.{Allowed, allowed-length, allowed-zero, File, file-some, point_of, point_of-some, point_of-none, value_of, by-entry}
use Rattle.law_agreement.proofs.Entries.{Distinct, find_none, find-here, find-on}
use Rattle.law_agreement.proofs.Reflect.{Reflects, terms_for}
use Rattle.law_agreement.proofs.Checked.{taken-allowed, entry-slot}
use Rattle.spec_conversion.specs.Convert.{other_major, other_version, recast, other_layout, bare_slot, bare_slots, bare_image}
use Rattle.law_agreement.proofs.Fresh.{part-zeros}
use Rattle.law_agreement.proofs.Carrying.{Carrying}
use Rattle.law_agreement.proofs.Named.{is-taken, allowed_at, book-has, book-slot}
use Rattle.law_file.proofs.Bytes.{by-same}

-- ---- the book without texts

pub bare_all : List Entry → List Entry
bare_all [] = []
bare_all (e ∷ es) = bare e.name ∷ bare_all es

bare_of : Option Entry → Option Entry
bare_of none = none
bare_of (some e) = some (bare e.name)

bare-name : (k : Bytes) → (bare k).name ≡ k
unfolding bare
bare-name k = refl

find-bare : (name : Bytes) (es : List Entry) → find name (bare_all es) ≡ bare_of (find name es)
unfolding bare_all bare_of
find-bare name [] = find_none name ∙ sym (ap bare_of (find_none name))
find-bare name (e ∷ es) =
    let ih : find name (bare_all es) ≡ bare_of (find name es) = find-bare name es in
    by-same e.name name
    (λ q. find-here (bare e.name) (bare_all es) name (bare-name e.name ∙ q)
    ∙ ap bare_of (sym (find-here e es name q)))
    (λ n. find-on (bare e.name) (bare_all es) name (λ q. n (sym (bare-name e.name) ∙ q)) ∙ ih
    ∙ ap bare_of (sym (find-on e es name n)))

distinct-bare : (es : List Entry) → Distinct es → Distinct (bare_all es)
unfolding bare_all
distinct-bare [] d = tt
distinct-bare (e ∷ es) d = (
  ap (λ (n : Bytes). find n (bare_all es)) (bare-name e.name) ∙ find-bare e.name es ∙ none_of d.0,
  distinct-bare es d.1,
)
  where
    none_of : {o : Option Entry} → o ≡ none → bare_of o ≡ none
    none_of q = unfold bare_of in ap bare_of q

length-bare : (es : List Entry) → length (bare_all es) ≡ length es
unfolding bare_all
length-bare [] = refl
length-bare (e ∷ es) = ap suc (length-bare es)

space-bare : (head : ℕ) (es : List Entry) → 0 ≡ space_for_all head (bare_all es)
unfolding bare_all space_for_all bare space_for
space-bare head [] = refl
space-bare head (e ∷ es) = omega (arith, space-bare head es)

-- ---- bytes

pub byte-part : (b : Bytes) (p n i : ℕ) → i < n → get_or (part b p n) i 0 ≡ get_or b (p + i) 0
unfolding part
byte-part b p n i h = get_or-take n (drop p b) i 0 h ∙ get_or-drop p b i 0

part-behind : (a c : Bytes) (k m : ℕ) → part (a ++ c) (length a + k) m ≡ part c k m
unfolding part
part-behind a c k m = ap (take m) (drop-append-add a c k)

pub length-version : (v : ℕ) → length (other_version v) ≡ 3
unfolding other_version
length-version v = by_bool (wide v) (λ y. rw y refl) (λ n. rw n refl)

module _ (img : Bytes) (o : Opened img) (L : ℕ) (page : L % page_size ≡ 0) (size_low : page_size ≤ L)
    (size-high : L ≤ most_image) (room : (layout_of img).D ≤ L) where
  abbrev g : Layout
  g = layout_of img

  abbrev h : Layout
  h = other_layout img

  pub source-room : Room g (length img)
  source-room = opened-room img o

  -- ---- the slots that are written

  length-bare_slot : (i : ℕ) → i < g.N → length (bare_slot g img i) ≡ slot_size g
  unfolding bare_slot
  length-bare_slot i l =
      let size = length-slot g img source-room i l in
      by_bool (taken g img i)
      (λ t. rw t (length-entry g (key_of g (slot g img i)) 0 (length-key_of g (slot g img i) size)))
      (λ t. rw t (length-blank g))

  length-bare_slots : (left i : ℕ) → i + left ≤ g.N → length (bare_slots g img left i) ≡ left * slot_size g
  unfolding bare_slots
  length-bare_slots zero i l = omega arith
  length-bare_slots (suc left) i l =
      let ih : length (bare_slots g img left (suc i)) ≡ left * slot_size g
      = length-bare_slots left (suc i) (omega arith) in
      length-append (bare_slot g img i) (bare_slots g img left (suc i))
      ∙ omega (arith, length-bare_slot i (omega arith), ih, suc-mul left (slot_size g))

  part-bare_slots : (left i k : ℕ) → k < left → i + left ≤ g.N
      → part (bare_slots g img left i) (k * slot_size g) (slot_size g) ≡ bare_slot g img (i + k)
  unfolding bare_slots
  part-bare_slots zero i k l q = absurd (omega arith)
  part-bare_slots (suc left) i zero l q =
      let size = length-bare_slot i (omega arith) in
      let e : i ≡ i + zero = omega arith in
      first (bare_slot g img i) (bare_slots g img left (suc i)) size ∙ ap (bare_slot g img) e
    where
      first : (a c : Bytes) → length a ≡ slot_size g → part (a ++ c) (zero * slot_size g) (slot_size g) ≡ a
      first a c e =
          let z : zero * slot_size g ≡ 0 = omega arith in
          ap (λ (p : ℕ). part (a ++ c) p (slot_size g)) z ∙ (unfold part in take_at a c (slot_size g) e)
  part-bare_slots (suc left) i (suc k) l q =
      let ih : part (bare_slots g img left (suc i)) (k * slot_size g) (slot_size g) ≡ bare_slot g img (suc i + k)
      = part-bare_slots left (suc i) k (omega arith) (omega arith) in
      let size = length-bare_slot i (omega arith) in
      let at : suc k * slot_size g ≡ length (bare_slot g img i) + k * slot_size g
      = omega (arith, suc-mul k (slot_size g)) in
      let e : suc i + k ≡ i + suc k = omega arith in
      ap (λ (p : ℕ). part (bare_slot g img i ++ bare_slots g img left (suc i)) p (slot_size g)) at
      ∙ part-behind (bare_slot g img i) (bare_slots g img left (suc i)) (k * slot_size g) (slot_size g)
      ∙ ih ∙ ap (bare_slot g img) e

  abbrev slots : Bytes
  slots = bare_slots g img g.N 0

  pub length-slots : length slots ≡ g.N * slot_size g
  length-slots = length-bare_slots g.N 0 (omega arith)

  pub length-scramble : length (scramble img) ≡ 4 * (field img last_field - field img first_field + 1)
  unfolding scramble
  length-scramble =
      part_length img scramble_start (4 * (field img last_field - field img first_field + 1))
      (omega (arith, o.last, o.size_low))

  -- ---- the image, in five steps

  pub s₁ : Bytes
  s₁ = store (zeros L) 0 (part img 0 free_field)

  pub s₂ : Bytes
  s₂ = store s₁ version_field (other_version (major_of img))

  pub s₃ : Bytes
  s₃ = store s₂ scramble_start (scramble img)

  pub s₄ : Bytes
  s₄ = store s₃ table_start slots

  pub s₅ : Bytes
  s₅ = set_field s₄ free_field g.D

  pub base : Bytes
  base = set_field s₅ page_field (last_page g.D g.D)

  pub is_base : bare_image img L ≡ base
  unfolding bare_image set_free s₁ s₂ s₃ s₄ s₅ base
  is_base = refl

  front_length : length (part img 0 free_field) ≡ free_field
  front_length = part_length img 0 free_field (omega (arith, o.size_low))

  pub in₁ : 0 + length (part img 0 free_field) ≤ length (zeros L)
  in₁ = omega (arith, front_length, length-zeros L, size_low)

  pub len₁ : length s₁ ≡ L
  unfolding s₁
  len₁ = length-store (zeros L) 0 (part img 0 free_field) in₁ ∙ length-zeros L

  pub in₂ : version_field + length (other_version (major_of img)) ≤ length s₁
  in₂ = omega (arith, len₁, length-version (major_of img), size_low)

  pub len₂ : length s₂ ≡ L
  unfolding s₂
  len₂ = length-store s₁ version_field (other_version (major_of img)) in₂ ∙ len₁

  pub in₃ : scramble_start + length (scramble img) ≤ length s₂
  in₃ = omega (arith, len₂, length-scramble, o.last, size_low)

  pub len₃ : length s₃ ≡ L
  unfolding s₃
  len₃ = length-store s₂ scramble_start (scramble img) in₃ ∙ len₂

  pub in₄ : table_start + length slots ≤ length s₃
  in₄ = omega (arith, len₃, length-slots, source-room.table, room)

  pub len₄ : length s₄ ≡ L
  unfolding s₄
  len₄ = length-store s₃ table_start slots in₄ ∙ len₃

  pub len₅ : length s₅ ≡ L
  unfolding s₅
  len₅ = length-set_field s₄ free_field g.D (omega (arith, len₄, size_low)) ∙ len₄

  pub base-length : length base ≡ L
  unfolding base
  base-length = length-set_field s₅ page_field (last_page g.D g.D) (omega (arith, len₅, size_low)) ∙ len₅

  -- X and M aside
  pub behind : (q m : ℕ) → Apart q m free_field 8 → part base q m ≡ part s₄ q m
  unfolding base s₅
  behind q m (inl a) =
      part-set_field-other s₅ page_field (last_page g.D g.D) q m (omega (arith, len₅, size_low)) (inl (omega arith))
      ∙ part-set_field-other s₄ free_field g.D q m (omega (arith, len₄, size_low)) (inl (omega arith))
  behind q m (inr a) =
      part-set_field-other s₅ page_field (last_page g.D g.D) q m (omega (arith, len₅, size_low)) (inr (omega arith))
      ∙ part-set_field-other s₄ free_field g.D q m (omega (arith, len₄, size_low)) (inr (omega arith))

  -- below the scramble
  pub below : (q m : ℕ) → q + m ≤ scramble_start → part s₄ q m ≡ part s₂ q m
  unfolding s₄ s₃
  below q m l =
      part-store-below s₃ table_start slots q m (omega (arith, in₄)) (omega arith)
      ∙ part-store-below s₂ scramble_start (scramble img) q m (omega (arith, in₃)) l

  front : (q m : ℕ) → q + m ≤ free_field → part s₁ q m ≡ part img q m
  unfolding s₁
  front q m l =
      let e : 0 + q ≡ q = omega arith in
      ap (λ (p : ℕ). part (store (zeros L) 0 (part img 0 free_field)) p m) (sym e)
      ∙ part-store-inside (zeros L) 0 (part img 0 free_field) q m (omega arith) (omega (arith, front_length))
      ∙ part-part img 0 free_field q m l
      ∙ ap (λ (p : ℕ). part img p m) e

  -- the header but for the version
  pub base-part : (q m : ℕ) → Apart q m version_field 3 → q + m ≤ free_field → part base q m ≡ part img q m
  unfolding s₂
  base-part q m a l =
      behind q m (inl (omega arith)) ∙ below q m (omega arith)
      ∙ part-store-other s₁ version_field (other_version (major_of img)) q m in₂
      (subst (Apart q m version_field) (sym (length-version (major_of img))) a)
      ∙ front q m l

  pub base-version : part base version_field 3 ≡ other_version (major_of img)
  unfolding s₂
  base-version =
      behind version_field 3 (inl (omega arith)) ∙ below version_field 3 (omega arith)
      ∙ ap (part s₂ version_field) (sym (length-version (major_of img)))
      ∙ part-store-same s₁ version_field (other_version (major_of img)) (omega (arith, in₂))

  pub base-field : (at : ℕ) → serial_field ≤ at → at + 4 ≤ free_field → field base at ≡ field img at
  unfolding field
  base-field at lo hi = ap number (base-part at 4 (inr (omega arith)) hi)

  pub base-free : field base free_field ≡ g.D
  unfolding base s₅
  base-free =
      field-set_field-other s₅ page_field (last_page g.D g.D) free_field (omega (arith, len₅, size_low))
      (inl (omega arith))
      ∙ field-set_field-same s₄ free_field g.D (omega (arith, len₄, size_low)) (omega (arith, room, size-high))

  pub base-page : field base page_field ≡ last_page g.D g.D
  unfolding base last_page
  base-page =
      field-set_field-same s₅ page_field (last_page g.D g.D) (omega (arith, len₅, size_low))
      (rw (eq-eqb g.D g.D refl) (omega arith))

  -- "all other bytes are zero": header, scramble and table aside
  pub base-zeros : (q m : ℕ) → q + m ≤ L → header_size ≤ q
      → Apart q m scramble_start (4 * (field img last_field - field img first_field + 1))
      → Apart q m table_start (g.N * slot_size g)
      → part base q m ≡ zeros m
  unfolding s₄ s₃ s₂ s₁
  base-zeros q m in-target low scr tab =
      behind q m (inr low)
      ∙ part-store-other s₃ table_start slots q m in₄ (subst (Apart q m table_start) (sym length-slots) tab)
      ∙ part-store-other s₂ scramble_start (scramble img) q m in₃
      (subst (Apart q m scramble_start) (sym length-scramble) scr)
      ∙ part-store-other s₁ version_field (other_version (major_of img)) q m in₂
      (inr (omega (arith, length-version (major_of img))))
      ∙ part-store-other (zeros L) 0 (part img 0 free_field) q m in₁ (inr (omega (arith, front_length)))
      ∙ part-zeros L q m in-target

  pub base-scramble : scramble base ≡ scramble img
  unfolding scramble
  base-scramble =
      ap₂ (λ (e f : ℕ). part base scramble_start (4 * (e - f + 1)))
      (base-field last_field (omega arith) (omega arith)) (base-field first_field (omega arith) (omega arith))
      ∙ behind scramble_start (4 * (field img last_field - field img first_field + 1)) (inr (omega arith))
      ∙ scr
    where
      scr : part s₄ scramble_start (4 * (field img last_field - field img first_field + 1))
          ≡ part img scramble_start (4 * (field img last_field - field img first_field + 1))
      scr =
          unfold s₄ s₃ in
          (part-store-below s₃ table_start slots scramble_start (4 * (field img last_field - field img first_field + 1))
          (omega (arith, in₄)) (omega (arith, o.last))
          ∙ ap (part s₃ scramble_start) (sym length-scramble)
          ∙ (unfold scramble in part-store-same s₂ scramble_start (scramble img) (omega (arith, in₃))))

  pub base-slot : (i : ℕ) → i < g.N → slot g base i ≡ bare_slot g img i
  unfolding slot slot_start s₄
  base-slot i l =
      let p = table_start + i * slot_size g in
      behind p (slot_size g) (inr (omega arith))
      ∙ part-store-inside s₃ table_start slots (i * slot_size g) (slot_size g) (omega (arith, in₄)) (inside i l)
      ∙ part-bare_slots g.N 0 i l (omega arith)
      ∙ ap (bare_slot g img) zero-i
    where
      zero-i : {i : ℕ} → 0 + i ≡ i
      zero-i = omega arith

      inside : (i : ℕ) → i < g.N → i * slot_size g + slot_size g ≤ length slots
      inside i l =
          let e = slot-end g source-room i l in
          omega (arith, length-slots, mul-le i l, suc-mul i (slot_size g))
        where
          mul-le : (i : ℕ) → i < g.N → suc i * slot_size g ≤ g.N * slot_size g
          mul-le i l = mul-le-mul_right (slot_size g) l

  -- ---- the layout

  base-byte : (i : ℕ) → i < 3 → get_or base (version_field + i) 0 ≡ get_or (other_version (major_of img)) i 0
  base-byte i l = sym (byte-part base version_field 3 i l) ∙ ap (λ (x : Bytes). get_or x i 0) base-version

  base-major : major_of base ≡ other_major (major_of img)
  unfolding major_of other_major other_version
  base-major =
      base-byte 0 (omega arith)
      ∙ by_bool (wide (get_or img version_field 0)) (λ y. rw y refl) (λ n. rw n refl)

  base-known : version_known base ≡ true
  unfolding version_known other_version
  base-known =
      let m : same (part img 0 5) magic ≡ true = and_left _ _ o.version in
      rw (
        base-part 0 5 (inl (omega arith)) (omega arith),
        m,
        base-byte 0 (omega arith),
        base-byte 1 (omega arith),
        base-byte 2 (omega arith),
      ) (by_bool (wide (major_of img)) (λ y. rw y refl) (λ n. rw n refl))

  base-hash : hash base ≡ hash img
  unfolding hash
  base-hash =
      fun_ext (λ key.
      rw (
        base-field multiplier_field (omega arith) (omega arith),
        base-field start_field (omega arith) (omega arith),
        base-field first_field (omega arith) (omega arith),
        base-field last_field (omega arith) (omega arith),
        base-scramble,
      ) refl)

  pub base-layout : layout_of base ≡ h
  unfolding layout_of other_layout recast
  base-layout =
      rw (
        base-field key_field (omega arith) (omega arith),
        base-field slots_field (omega arith) (omega arith),
        base-field data_field (omega arith) (omega arith),
        base-major,
        base-hash,
      ) refl

  pub base-opened : Opened base
  unfolding layout_of
  base-opened =
      let f_k = base-field key_field (omega arith) (omega arith) in
      let f_n = base-field slots_field (omega arith) (omega arith) in
      let f_c = base-field points_field (omega arith) (omega arith) in
      let f_f = base-field first_field (omega arith) (omega arith) in
      let f_e = base-field last_field (omega arith) (omega arith) in
      let f_d = base-field data_field (omega arith) (omega arith) in
      record {
        page = rw base-length page;
        size_low = rw base-length size_low;
        size-high = rw base-length size-high;
        version = base-known;
        key-low = rw f_k o.key-low;
        key-high = rw f_k o.key-high;
        slots-low = rw f_n o.slots-low;
        slots-high = rw f_n o.slots-high;
        points = rw (f_c, f_n) o.points;
        first = rw (f_f, f_e) o.first;
        last = rw f_e o.last;
        scramble-at = base-field scramble_field (omega arith) (omega arith) ∙ o.scramble-at;
        table_at = base-field table_field (omega arith) (omega arith) ∙ o.table_at;
        data-at = rw (f_d, f_k, f_n) o.data-at;
        free-low = omega (arith, f_d, base-free);
        free-high = omega (arith, base-free, base-length, room);
      }

  -- ---- the table

  zero-key : (s : Bytes) → length s ≡ slot_size g → vacant g s ≡ true → key_of g s ≡ zeros g.K
  unfolding vacant
  zero-key s l v = all_zero-zeros-eq (key_of g s) v ∙ ap zeros (length-key_of g s l)

  pub base_key : (i : ℕ) → i < g.N → key_at g base i ≡ key_at g img i
  unfolding bare_slot taken
  base_key i l =
      let size = length-slot g img source-room i l in
      ap (key_of g) (base-slot i l)
      ∙ by_bool (vacant g (slot g img i))
      (λ v. rw v (zero-key (blank g) (length-blank g) (vacant-blank g) ∙ sym (zero-key (slot g img i) size v)))
      (λ v. rw v (key_of-entry g (key_of g (slot g img i)) 0 (length-key_of g (slot g img i) size)))

  pub base-vacant : (i : ℕ) → i < g.N → vacant g (slot g base i) ≡ vacant g (slot g img i)
  unfolding vacant
  base-vacant i l = ap all_zero (base_key i l)

  pub base-offset : (i : ℕ) → i < g.N → Taken g base i → offset_of g (slot g base i) ≡ 0
  unfolding bare_slot taken
  base-offset i l t =
      let size = length-slot g img source-room i l in
      let v : vacant g (slot g img i) ≡ false = sym (base-vacant i l) ∙ t in
      ap (offset_of g) (base-slot i l)
      ∙ rw v (offset_of-entry g (key_of g (slot g img i)) 0 (length-key_of g (slot g img i) size) (omega arith))

-- ---- the same table in another version

module _ (v : ℕ) (g : Layout) (img : Bytes) where
  abbrev g' : Layout
  g' = recast v g

  pub recast-slot : (i : ℕ) → slot g' img i ≡ slot g img i
  unfolding slot slot_start slot_size recast
  recast-slot i = refl

  pub recast-findable : Findable g img → Findable g' img
  unfolding slot slot_start slot_size key_of vacant home recast
  recast-findable f =
      record {
        paths = λ i k li lk t d. f.paths i k li lk t d;
        distinct = λ i j li lj t u e. f.distinct i j li lj t u e;
      }

  pub recast-weight : (w : Bytes → ℕ) → weight g' img w ≡ weight g img w
  unfolding weight weigh slot slot_start slot_size key_of vacant recast
  recast-weight w = refl

-- ---- the relation at the start

by-found {ℓ} : {A : Type ℓ} (o : Option Entry) → (o ≡ none → A) → ((e : Entry) → o ≡ some e → A) → A
by-found none n y = n refl
by-found (some e) n y = y e refl

pub bare_book : Layout → ℕ → Book → Book
bare_book h L b = record { terms = terms_for h L; entries = bare_all b.entries; used = 0 }

module _ (img : Bytes) (b : Book) (r : Reflects (layout_of img) img b) (L : ℕ) (page : L % page_size ≡ 0)
    (size_low : page_size ≤ L) (size-high : L ≤ most_image) (room : (layout_of img).D ≤ L) where
  abbrev G : Layout
  G = layout_of img

  abbrev H : Layout
  H = other_layout img

  abbrev o : Opened img
  o = r.file.opened

  abbrev t₀ : Bytes
  t₀ = base img o L page size_low size-high room

  same-K : H.K ≡ G.K
  unfolding other_layout recast
  same-K = refl

  same-N : H.N ≡ G.N
  unfolding other_layout recast
  same-N = refl

  slot_is : (i : ℕ) → slot H t₀ i ≡ slot G t₀ i
  unfolding other_layout
  slot_is i = recast-slot (other_major (major_of img)) G t₀ i

  key-is : (i : ℕ) → i < G.N → key_at H t₀ i ≡ key_at G img i
  unfolding key_of other_layout recast
  key-is i l = ap (key_of H) (slot_is i) ∙ base_key img o L page size_low size-high room i l

  taken_back : (i : ℕ) → i < G.N → Taken H t₀ i → taken G img i ≡ true
  unfolding vacant taken
  taken_back i l t = ap not (ap all_zero (sym (key-is i l)) ∙ t)

  taken-on : (i : ℕ) → i < G.N → taken G img i ≡ true → Taken H t₀ i
  unfolding vacant
  taken-on i l t = ap all_zero (key-is i l) ∙ is-taken G img b r i t

  no-offset : (i : ℕ) → i < G.N → Taken H t₀ i → offset_of H (slot H t₀ i) ≡ 0
  unfolding offset_of other_layout recast vacant key_of
  no-offset i l t =
      ap (offset_of H) (slot_is i)
      ∙ base-offset img o L page size_low size-high room i l (ap (vacant H) (sym (slot_is i)) ∙ t)

  some-slot : 0 < H.N
  some-slot = omega (arith, same-N, file-some r.file)

  table : Findable H t₀
  unfolding other_layout
  table =
      recast-findable (other_major (major_of img)) G t₀
      (findable-keys G img t₀ (base_key img o L page size_low size-high room) r.file.table)

  by-entry-slot : (name s : Bytes) → Allowed H name → entry_of H t₀ name ≡ some s
      → (i : ℕ) × (i < G.N) × (Taken H t₀ i) × (key_at G img i ≡ name) × (offset_of H s ≡ 0)
  by-entry-slot name s a e =
      let w = entry-slot H t₀ name s some-slot a e in
      let l : w.0 < G.N = omega (arith, w.1, same-N) in
      (w.0, l, w.2, sym (key-is w.0 l) ∙ w.3, ap (offset_of H) (sym w.4) ∙ no-offset w.0 l w.2)

  counted : field t₀ points_field ≡ weight H t₀ (λ s. 1)
  counted =
      base-field img o L page size_low size-high room points_field (omega arith) (omega arith)
      ∙ r.file.counted
      ∙ ones
      ∙ sym (unfold other_layout in recast-weight (other_major (major_of img)) G t₀ (λ s. 1))
    where
      ones : weight G img (λ s. 1) ≡ weight G t₀ (λ s. 1)
      ones =
          unfold weight weigh in
          total-same _ _ G.N
          (λ i l. ap (λ (v : Bool). cond v 0 1) (sym (base-vacant img o L page size_low size-high room i l)))

  pub base-file : File H t₀
  base-file =
      record {
        layout = base-layout img o L page size_low size-high room;
        opened = base-opened img o L page size_low size-high room;
        table = table;
        counted = counted;
        messages = λ key s a e. rw (by-entry-slot key s a e).4 (none-stored H t₀);
        apart = λ key key' s s' a a' n e e' z z'. absurd (z (by-entry-slot key s a e).4);
      }

  bare-value : (name : Bytes) → value_of H t₀ name 0 ≡ bare name
  unfolding shown held is_active bare
  bare-value name = refl

  bare-found : {x : Option Entry} (name : Bytes) (e : Entry) → x ≡ some e → e.name ≡ name → bare_of x ≡ some (bare name)
  unfolding bare_of
  bare-found name e q n = ap bare_of q ∙ ap (λ (k : Bytes). some (bare k)) n

  bare-none : {x : Option Entry} → x ≡ none → bare_of x ≡ none
  unfolding bare_of
  bare-none q = ap bare_of q

  base-points : (name : Bytes) → Allowed H name → point_of H t₀ name ≡ find name (bare_all b.entries)
  base-points name a =
      by-entry (entry_of H t₀ name)
      (λ e.
      point_of-none H t₀ name e
      ∙ by-found (find name b.entries)
      (λ n. sym (find-bare name b.entries ∙ bare-none n))
      (λ x y.
      let w = book-slot G img b r name x y in
      let there : entry_of H t₀ name ≡ some (slot H t₀ w.0) =
      ap (entry_of H t₀) (sym (key-is w.0 w.1 ∙ w.3))
      ∙ entry-taken H t₀ w.0 some-slot table (omega (arith, w.1, same-N)) (taken-on w.0 w.1 w.2) in
      absurd (none-ne-some (slot H t₀ w.0) (sym e ∙ there))))
      (λ s e.
      let w = by-entry-slot name s a e in
      let i = w.0 in
      let has : find name b.entries ≡ some (value_of G img (key_at G img i) (start_at G img i)) =
      ap (λ (k : Bytes). find k b.entries) (sym w.3) ∙ book-has G img b r i w.1 (taken_back i w.1 w.2) in
      point_of-some H t₀ name s e
      ∙ ap (λ (q : ℕ). some (value_of H t₀ name q)) w.4
      ∙ ap some (bare-value name)
      ∙ sym (find-bare name b.entries ∙ bare-found name _ has w.3))

  base-reflects : Reflects H t₀ (bare_book H L b)
  unfolding bare_book
  base-reflects =
      record {
        file = base-file;
        terms = ap (terms_for H) (sym (base-length img o L page size_low size-high room));
        used = base-free img o L page size_low size-high room ∙ same-D;
        number =
            length-bare b.entries ∙ r.number
            ∙ sym (base-field img o L page size_low size-high room points_field (omega arith) (omega arith));
        points = base-points;
        others = λ name n. find-bare name b.entries
            ∙ bare-none (r.others name (ap (λ (k : ℕ). name_allowed k name) (sym same-K) ∙ n));
        distinct = distinct-bare b.entries r.distinct;
      }
    where
      same-D : G.D ≡ H.D + 0
      same-D = unfold other_layout recast in (sym (add-zero G.D))

  bare-has : (i : ℕ) → i < G.N → taken G img i ≡ true
      → find (key_at G img i) (bare_all b.entries) ≡ some (bare (key_at G img i))
  bare-has i l t = find-bare (key_at G img i) b.entries ∙ bare-found (key_at G img i) _ (book-has G img b r i l t) refl

  -- no message begins below D
  pub base-carrying : ((i : ℕ) → Live G img i → G.D ≤ start_at G img i)
      → Carrying G H img b L G.D (bare_image img L) (bare_book H L b)
  unfolding bare_book
  base-carrying low =
      subst (λ (x : Bytes). Carrying G H img b L G.D x (bare_book H L b))
      (sym (is_base img o L page size_low size-high room))
      (record {
        related = base-reflects;
        size = base-length img o L page size_low size-high room;
        keys = key-is;
        here = λ i v l. absurd (omega (arith, low i v));
        waiting = λ i l t z. bare-has i l t;
        no_more = λ name n. find-bare name b.entries ∙ bare-none n;
        count = length-bare b.entries;
        space = space-bare (head_size H) b.entries;
      })
