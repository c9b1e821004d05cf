-- What no call changes: the header but for the version, C, X and M, the scramble, and the image's length.
--     Fixed img img'     img' keeps them
--     Kept img img'      and the version too, which only a call that stores an empty message writes
--     kept-layout        then the layout is the same
--     opened-known       and questions 1, 5 and 6 are passed again where the version is one that is known
--     opened-kept        as it is where the version's bytes are kept
--     kept_store; kept-points, kept_free, kept-page      a write above the header, and a write of C, X or M, keep them
-- Assumes nothing.
use mathlib.Core.Path.{◌≡◌, refl, sym, ap, ap₂, ◌∙◌, fun_ext}
use Prim.Native.Nat.{ℕ, ◌+◌, ◌-◌, ◌*◌, ◌≤◌, ◌<◌}
use native.Mathlib.Omega.{arith}
use mathlib.Core.Logic.{inl, inr}
use mathlib.Core.Bool.{true, false, ◌&&◌}
use mathlib.Core.List.{[], ◌∷◌}
use lib.ListN.{length, get_or, drop}
use lib.Dec.{eqb, leb}
use borrow.Author.Tests.{eqb-true}
use lib.Seq.{get_or-take, get_or-drop}
use Rattle.spec_file.specs.Bytes.{Bytes, part, store, number, digits, same}
use Rattle.spec_file.specs.Limits.{most_character, magic, major, minor, patch, wide_major, wide_minor, version_field, serial_field, key_field, slots_field, points_field, multiplier_field, start_field, first_field, last_field, scramble_field, table_field, data_field, free_field, page_field, header_size, scramble_start, table_start}
use Rattle.spec_file.specs.Image.{field, set_field, hash, scramble, major_of, wide, layout_of}
use Rattle.spec_file.specs.Questions.{version_known}
use Rattle.law_file.proofs.Bytes.{Apart, apart-inside, length-store, part-store-other, part-store-same, part-part, length_digits}
use Rattle.law_file.proofs.Tests.{and_left, and_right, by-or, not-both}
use Rattle.law_file.proofs.Opened.{Opened}

-- the bytes from the multiplier to D, and those from behind M to the table, the scramble among them
abbrev pub middle_size : ℕ
middle_size = free_field - multiplier_field

abbrev pub rest_size : ℕ
rest_size = table_start - header_size

-- what stands before C but for the version (magic; serial, K and N), and these
pub record Fixed (img img' : Bytes) : Type 0 where
  pub size : length img' ≡ length img
  pub magic : part img' 0 5 ≡ part img 0 5
  pub major : major_of img' ≡ major_of img
  pub front : part img' serial_field (points_field - serial_field) ≡ part img serial_field (points_field - serial_field)
  pub middle : part img' multiplier_field middle_size ≡ part img multiplier_field middle_size
  pub rest : part img' header_size rest_size ≡ part img header_size rest_size

pub record Kept (img img' : Bytes) : Type 0 where
  pub fixed : Fixed img img'
  pub version : part img' version_field 3 ≡ part img version_field 3

-- a byte of a part
byte-part : (b : Bytes) (p n i : ℕ) → i < n → get_or (part b p n) i 0 ≡ get_or b (p + i) 0
unfolding part
byte-part b p n i h = get_or-take n (drop p b) i 0 h ∙ get_or-drop p b i 0

-- the version's first byte, by its three
pub major-same : (img img' : Bytes) → part img' version_field 3 ≡ part img version_field 3 → major_of img' ≡ major_of img
unfolding major_of
major-same img img' e =
    sym (byte-part img' version_field 3 0 (omega arith))
    ∙ ap (λ (l : Bytes). get_or l 0 0) e
    ∙ byte-part img version_field 3 0 (omega arith)

pub kept_refl : (img : Bytes) → Kept img img
kept_refl img =
    record {
      fixed = record { size = refl; magic = refl; major = refl; front = refl; middle = refl; rest = refl };
      version = refl;
    }

pub fixed-trans : {a b c : Bytes} → Fixed a b → Fixed b c → Fixed a c
fixed-trans p q =
    record {
      size = q.size ∙ p.size;
      magic = q.magic ∙ p.magic;
      major = q.major ∙ p.major;
      front = q.front ∙ p.front;
      middle = q.middle ∙ p.middle;
      rest = q.rest ∙ p.rest;
    }

pub kept_trans : {a b c : Bytes} → Kept a b → Kept b c → Kept a c
kept_trans p q = record { fixed = fixed-trans p.fixed q.fixed; version = q.version ∙ p.version }

-- the n bytes from p on have none in common with what is kept
record Spared (p n : ℕ) : Type 0 where
  pub front : Apart 0 points_field p n
  pub middle : Apart multiplier_field middle_size p n
  pub rest : Apart header_size rest_size p n

kept-spared : (img : Bytes) (p : ℕ) (v : Bytes) → p + length v ≤ length img → Spared p (length v)
    → Kept img (store img p v)
kept-spared img p v h a =
    let before : (q m : ℕ) → q + m ≤ points_field → part (store img p v) q m ≡ part img q m =
    λ q m l.
    part-store-other img p v q m h (apart-inside 0 points_field p (length v) q m (omega arith) l a.front) in
    record {
      fixed =
          record {
            size = length-store img p v h;
            magic = before 0 5 (omega arith);
            major = major-same img (store img p v) (before version_field 3 (omega arith));
            front = before serial_field (points_field - serial_field) (omega arith);
            middle = part-store-other img p v multiplier_field middle_size h a.middle;
            rest = part-store-other img p v header_size rest_size h a.rest;
          };
      version = before version_field 3 (omega arith);
    }

pub kept_store : (img : Bytes) (p : ℕ) (v : Bytes) → p + length v ≤ length img → table_start ≤ p
    → Kept img (store img p v)
kept_store img p v h f =
    kept-spared img p v h (record { front = inl (omega arith); middle = inl (omega arith); rest = inl (omega arith) })

kept_field : (img : Bytes) (at n : ℕ) → at + 4 ≤ length img → Spared at 4 → Kept img (set_field img at n)
unfolding set_field
kept_field img at n h a =
    let e = length_digits 4 n in
    kept-spared img at (digits 4 n) (rw e h) (rw e a)

pub kept-points : (img : Bytes) (n : ℕ) → header_size ≤ length img → Kept img (set_field img points_field n)
kept-points img n h =
    kept_field img points_field n (omega arith)
    (record { front = inl (omega arith); middle = inr (omega arith); rest = inr (omega arith) })

pub kept_free : (img : Bytes) (n : ℕ) → header_size ≤ length img → Kept img (set_field img free_field n)
kept_free img n h =
    kept_field img free_field n (omega arith)
    (record { front = inl (omega arith); middle = inl (omega arith); rest = inr (omega arith) })

pub kept-page : (img : Bytes) (n : ℕ) → header_size ≤ length img → Kept img (set_field img page_field n)
kept-page img n h =
    kept_field img page_field n (omega arith)
    (record { front = inl (omega arith); middle = inl (omega arith); rest = inr (omega arith) })

-- ---- what follows

-- parts of two equal parts are equal
inside : (a b : Bytes) (p n q m : ℕ) → part a p n ≡ part b p n → p ≤ q → q + m ≤ p + n → part a q m ≡ part b q m
inside a b p n q m e lo hi =
    let at : q ≡ p + (q - p) = omega (arith, lo) in
    ap (λ (x : ℕ). part a x m) at
    ∙ sym (part-part a p n (q - p) m (omega (arith, lo, hi)))
    ∙ ap (λ (l : Bytes). part l (q - p) m) e
    ∙ part-part b p n (q - p) m (omega (arith, lo, hi))
    ∙ ap (λ (x : ℕ). part b x m) (sym at)

module _ {img img' : Bytes} (k : Fixed img img') where
  front-field : (at : ℕ) → serial_field ≤ at → at + 4 ≤ points_field → field img' at ≡ field img at
  unfolding field
  front-field at lo hi =
      ap number (inside img' img serial_field (points_field - serial_field) at 4 k.front lo (omega arith))

  middle_field : (at : ℕ) → multiplier_field ≤ at → at + 4 ≤ free_field → field img' at ≡ field img at
  unfolding field
  middle_field at lo hi = ap number (inside img' img multiplier_field middle_size at 4 k.middle lo (omega arith))

  pub kept-key : field img' key_field ≡ field img key_field
  kept-key = front-field key_field (omega arith) (omega arith)

  pub kept-slots : field img' slots_field ≡ field img slots_field
  kept-slots = front-field slots_field (omega arith) (omega arith)

  pub kept-multiplier : field img' multiplier_field ≡ field img multiplier_field
  kept-multiplier = middle_field multiplier_field (omega arith) (omega arith)

  pub kept-start : field img' start_field ≡ field img start_field
  kept-start = middle_field start_field (omega arith) (omega arith)

  pub kept-first : field img' first_field ≡ field img first_field
  kept-first = middle_field first_field (omega arith) (omega arith)

  pub kept-last : field img' last_field ≡ field img last_field
  kept-last = middle_field last_field (omega arith) (omega arith)

  kept-scramble-at : field img' scramble_field ≡ field img scramble_field
  kept-scramble-at = middle_field scramble_field (omega arith) (omega arith)

  kept-table-at : field img' table_field ≡ field img table_field
  kept-table-at = middle_field table_field (omega arith) (omega arith)

  pub kept-data : field img' data_field ≡ field img data_field
  kept-data = middle_field data_field (omega arith) (omega arith)

  -- the scramble ends below the table where E is a character's value
  kept-scramble : field img last_field ≤ most_character → scramble img' ≡ scramble img
  unfolding scramble
  kept-scramble h =
      ap₂ (λ (e f : ℕ). part img' scramble_start (4 * (e - f + 1))) kept-last kept-first
      ∙ inside img' img header_size rest_size scramble_start (4 * (field img last_field - field img first_field + 1))
      k.rest (omega arith) (omega arith)

  kept-hash : field img last_field ≤ most_character → hash img' ≡ hash img
  unfolding hash
  kept-hash h =
      fun_ext (λ key.
      rw (kept-multiplier, kept-start, kept-first, kept-last, kept-scramble h) refl)

  pub kept-layout : field img last_field ≤ most_character → layout_of img' ≡ layout_of img
  unfolding layout_of
  kept-layout h = rw (kept-key, kept-slots, kept-data, k.major, kept-hash h) refl

  -- questions 1, 5 and 6 again, given the version, C and X
  pub opened-known : Opened img → version_known img' ≡ true → field img' points_field ≤ field img slots_field
      → field img data_field ≤ field img' free_field → field img' free_field ≤ length img → Opened img'
  opened-known o known c lo hi =
      record {
        page = rw k.size o.page;
        size_low = rw k.size o.size_low;
        size-high = rw k.size o.size-high;
        version = known;
        key-low = rw kept-key o.key-low;
        key-high = rw kept-key o.key-high;
        slots-low = rw kept-slots o.slots-low;
        slots-high = rw kept-slots o.slots-high;
        points = rw kept-slots c;
        first = rw (kept-first, kept-last) o.first;
        last = rw kept-last o.last;
        scramble-at = kept-scramble-at ∙ o.scramble-at;
        table_at = kept-table-at ∙ o.table_at;
        data-at = rw (kept-data, kept-key, kept-slots) o.data-at;
        free-low = rw kept-data lo;
        free-high = rw k.size hi;
      }

module _ {img img' : Bytes} (k : Kept img img') where
  version-byte : (i : ℕ) → i < 3 → get_or img' (version_field + i) 0 ≡ get_or img (version_field + i) 0
  version-byte i h =
      sym (byte-part img' version_field 3 i h)
      ∙ ap (λ (l : Bytes). get_or l i 0) k.version
      ∙ byte-part img version_field 3 i h

  pub kept-version : version_known img' ≡ version_known img
  unfolding version_known
  kept-version =
      rw (
        k.fixed.magic,
        version-byte 0 (omega arith),
        version-byte 1 (omega arith),
        version-byte 2 (omega arith),
      ) refl

  pub kept-known : Opened img → version_known img' ≡ true
  kept-known o = kept-version ∙ o.version

  pub opened-kept : Opened img → field img' points_field ≤ field img slots_field
      → field img data_field ≤ field img' free_field
      → field img' free_field ≤ length img → Opened img'
  opened-kept o = opened-known k.fixed o (kept-known o)

-- ---- the version written

-- the major version is 1, of an image whose header is accepted and which is not wide
pub major-narrow : (img : Bytes) → version_known img ≡ true → wide (major_of img) ≡ false → major_of img ≡ major
unfolding version_known wide major_of
major-narrow img v n =
    by-or (eqb (get_or img 5 0) major && eqb (get_or img 6 0) minor && leb (get_or img 7 0) patch) _
    (and_right (same (part img 0 5) magic) _ v)
    (λ one. eqb-true (get_or img 5 0) major (and_left _ _ (and_left _ _ one)))
    (λ no' two.
    let other = and_left (eqb (get_or img 5 0) wide_major && eqb (get_or img 6 0) wide_minor) _ two in
    absurd (not-both _ (and_left _ _ other) n))

module _ (img : Bytes) (o : Opened img) where
  abbrev versioned : Bytes
  versioned = store img version_field (major ∷ minor ∷ patch ∷ [])

  inside-image : version_field + 3 ≤ length img
  inside-image = omega (arith, o.size_low)

  pub version-elsewhere : (p n : ℕ) → Apart p n version_field 3 → part versioned p n ≡ part img p n
  version-elsewhere p n a = part-store-other img version_field (major ∷ minor ∷ patch ∷ []) p n inside-image a

  version-at : (i : ℕ) → i < 3 → get_or versioned (version_field + i) 0 ≡ get_or (major ∷ minor ∷ patch ∷ []) i 0
  version-at i h =
      sym (byte-part versioned version_field 3 i h)
      ∙ ap (λ (l : Bytes). get_or l i 0)
      (part-store-same img version_field (major ∷ minor ∷ patch ∷ []) (omega (arith, inside-image)))

  version-major : major_of versioned ≡ major
  unfolding major_of
  version-major = version-at 0 (omega arith)

  pub version-fixed : wide (major_of img) ≡ false → Fixed img versioned
  version-fixed n =
      record {
        size = length-store img version_field (major ∷ minor ∷ patch ∷ []) inside-image;
        magic = version-elsewhere 0 5 (inl (omega arith));
        major = version-major ∙ sym (major-narrow img o.version n);
        front = version-elsewhere serial_field (points_field - serial_field) (inr (omega arith));
        middle = version-elsewhere multiplier_field middle_size (inr (omega arith));
        rest = version-elsewhere header_size rest_size (inr (omega arith));
      }

  -- "question 5 accepts up to 2"
  pub version-known : version_known versioned ≡ true
  unfolding version_known
  version-known =
      let m : same (part img 0 5) magic ≡ true = and_left _ _ o.version in
      rw (
        version-elsewhere 0 5 (inl (omega arith)),
        m,
        version-at 0 (omega arith),
        version-at 1 (omega arith),
        version-at 2 (omega arith),
      ) refl
